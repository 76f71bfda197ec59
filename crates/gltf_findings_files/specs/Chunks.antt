-- Chunks (glTF 2.0, section 4.4.3), and what came before one.
use Rattle.std.specs.Prelude.{ℕ, ◌+◌, List, take, drop, false, ◌||◌, ◌==◌}
use Rattle.std.specs.Int.{w32, from_le_bytes}
use Rattle.gltf_buffers.specs.Container.{json_kind, bin_kind}
use Rattle.gltf_findings_files.specs.declared.chunk.Chunk.{Chunk}
use Rattle.gltf_findings_files.specs.declared.chunk.ChunkRank.{ChunkRank}
use Rattle.gltf_findings_files.specs.declared.chunk.ChunkRank.TheVariants.{First, Second, Later}
use Rattle.gltf_findings_files.specs.declared.chunk.Before.{Before}

-- the number in the four bytes at an offset, the least byte first
abbrev pub number_at : ℕ → List ℕ → ℕ
number_at offset bytes = from_le_bytes w32 (take 4 (drop offset bytes))

-- the chunk at an offset: the length of its data, and its type
abbrev pub chunk_at : ℕ → List ℕ → Chunk
chunk_at offset bytes = record { offset = offset; size = number_at offset bytes; kind = number_at (offset + 4) bytes }

-- where a chunk ends: its data is behind a header of 8 bytes
abbrev pub end_of : Chunk → ℕ
end_of c = c.offset + 8 + c.size

abbrev pub next : ChunkRank → ChunkRank
next First = Second
next Second = Later
next Later = Later

-- what came before the first chunk
abbrev pub start : Before
start = record { position = First; has_json = false; has_bin = false }

-- what came before the chunk behind one of a type
abbrev pub after : Before → ℕ → Before
after b kind = record { position = next b.position; has_json = b.has_json || (kind == json_kind); has_bin = b.has_bin || (kind == bin_kind) }
