-- The parts of a file: what is wrong with its container, and where its document is (glTF 2.0, section 4.4).
use Rattle.std.specs.Prelude.{ℕ, List, [], length, if◌then◌else◌, Option, Result, Ok, Some, None}
use Rattle.gltf_buffers.specs.declared.error.GlbError.{GlbError}
use Rattle.gltf_buffers.specs.Reading.{◌>>=◌, glb_of}
use Rattle.gltf_findings_files.specs.declared.finding.GlbFinding.{GlbFinding}
use Rattle.gltf_findings_files.specs.Findings.{glb_findings}
use Rattle.gltf_findings_files.specs.declared.container.Container.{Container}
use Rattle.gltf_findings_files.specs.declared.container.Container.TheVariants.{Json, Glb}
use Rattle.gltf_findings_lines.specs.declared.file.File.{File}
use Rattle.gltf_findings_lines.specs.declared.file.Parts.{Parts}

-- what is wrong with the container of a file, if it is one
abbrev pub container_findings : File → List GlbFinding
container_findings f = if f.is_container then glb_findings f.bytes.now else []

-- a .glb file, by its BIN chunk
abbrev pub container_of : Option (List ℕ) → Container
container_of None = Glb None
container_of (Some bin) = Glb (Some (length bin))

-- the JSON of a file, and what it is in
abbrev pub FileParts : Type 0
FileParts = List ℕ × Container

abbrev pub parts_in : Parts → FileParts
parts_in p = (p.json.now, p.container)

-- all bytes, or the chunks of the container if the file is one
abbrev pub file_parts : File → Result FileParts GlbError
file_parts f = if f.is_container then (glb_of f.bytes.now >>= λ p. Ok (p.json, container_of p.bin)) else Ok (f.bytes.now, Json)
