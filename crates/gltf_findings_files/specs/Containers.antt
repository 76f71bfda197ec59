-- The file that a document is in, and its BIN chunk (glTF 2.0, section 4.4.3.3).
use Rattle.std.specs.Prelude.{ℕ, ◌+◌, Bool, true, false, nat_lt, Option, Some, None}
use Rattle.gltf_findings_files.specs.declared.container.Container.{Container}
use Rattle.gltf_findings_files.specs.declared.container.Container.TheVariants.{Json, Glb}

abbrev pub is_glb : Container → Bool
is_glb Json = false
is_glb (Glb bin_len) = true

-- a .glb file has no BIN chunk
abbrev pub is_without_bin : Container → Bool
is_without_bin Json = false
is_without_bin (Glb None) = true
is_without_bin (Glb (Some len)) = false

-- the BIN chunk may be up to 3 bytes longer than the buffer, which pad it
abbrev pub is_bin_longer : Container → ℕ → Bool
is_bin_longer Json byte_length = false
is_bin_longer (Glb None) byte_length = false
is_bin_longer (Glb (Some len)) byte_length = nat_lt (byte_length + 3) len
