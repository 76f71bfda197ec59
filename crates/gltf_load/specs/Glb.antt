-- The BIN chunk of a file, and the buffer that it is (glTF 2.0, sections 3.6.1.2 and 4.4.3.3).
use Rattle.std.specs.Prelude.{◌≡◌, ℕ, ◌+◌, ◌≤◌, List, length, slice_get, Option, Some, None}
use Rattle.gltf_parts.specs.declared.buffer.Buffer.{Buffer}

-- the chunk is as long as the buffer that it is, or up to 3 bytes longer, which pad it
abbrev pub FitsBuffer : Option (List ℕ) → ℕ → Type 0
FitsBuffer None byte_length = ⊥
FitsBuffer (Some bin) byte_length = (byte_length ≤ length bin) × (length bin ≤ byte_length + 3)

-- the first buffer, if it has no URI, is the chunk
abbrev pub FitsFirst : Option (List ℕ) → List Buffer → Type 0
FitsFirst bin buffers = (b : Buffer) → slice_get buffers 0 ≡ Some b → b.uri ≡ None → FitsBuffer bin b.byte_length.0
