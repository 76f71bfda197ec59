-- Where the JSON of a file is (glTF 2.0, section 4.4).
use Rattle.std.specs.Prelude.{List, ℕ, Result, Ok, nat_eq, if◌then◌else◌, codes}
use Rattle.std.specs.List.{starts_with}
use Rattle.gltf_buffers.specs.declared.error.GlbError.{GlbError}
use Rattle.gltf_buffers.specs.Reading.{◌>>=◌, glb_of}

-- the JSON chunk of a container, if the bytes begin as one; else all of them
abbrev pub json_of : List ℕ → Result (List ℕ) GlbError
json_of bytes = if starts_with nat_eq bytes (codes "glTF") then (glb_of bytes >>= λ parts. Ok parts.json) else Ok bytes
