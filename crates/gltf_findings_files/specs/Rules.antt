-- The rules for chunks and for the end of a file (glTF 2.0, sections 4.4.2 and 4.4.3).
use Rattle.std.specs.Prelude.{ℕ, ◌+◌, ◌%◌, List, [], ◌∷◌, Bool, true, false, not, ◌&&◌, ◌||◌, ◌==◌, nat_lt, Option}
use Rattle.gltf_findings_codes.specs.declared.code.Code.TheVariants.{GlbLengthMismatch, GlbExtraData, GlbUnexpectedEndOfChunkHeader, GlbUnexpectedEndOfChunkData, GlbChunkLengthUnaligned, GlbChunkTooBig, GlbUnknownChunkType, GlbDuplicateChunk, GlbUnexpectedFirstChunk, GlbEmptyChunk, GlbUnexpectedBinChunk, GlbEmptyBinChunk}
use Rattle.gltf_buffers.specs.Container.{json_kind, bin_kind}
use Rattle.gltf_findings_files.specs.declared.chunk.Chunk.{Chunk}
use Rattle.gltf_findings_files.specs.declared.chunk.ChunkRank.{ChunkRank}
use Rattle.gltf_findings_files.specs.declared.chunk.ChunkRank.TheVariants.{First, Second, Later}
use Rattle.gltf_findings_files.specs.declared.chunk.Before.{Before}
use Rattle.gltf_findings_files.specs.declared.finding.GlbFinding.{GlbFinding}
use Rattle.gltf_findings_files.specs.declared.rules.Lengths.{Lengths}
use Rattle.gltf_findings_files.specs.Found.{broken}
use Rattle.gltf_findings_files.specs.Chunks.{end_of}

abbrev pub is_first : ChunkRank → Bool
is_first First = true
is_first Second = false
is_first Later = false

abbrev pub is_second : ChunkRank → Bool
is_second First = false
is_second Second = true
is_second Later = false

-- no chunk begins at an offset: it is the length that the header gives, or fewer bytes are left than a header has
abbrev pub is_at_end : Lengths → ℕ → Bool
is_at_end l offset = (offset == l.declared) || nat_lt l.actual (offset + 8)

-- section 4.4.2: `length` is the length of the file with all of its chunks
abbrev pub end_rules : Lengths → ℕ → List (Option GlbFinding)
end_rules l offset =
    broken ((offset == l.declared) && nat_lt offset l.actual) GlbExtraData offset
    ∷ broken (not (offset == l.declared) && not (nat_lt offset l.actual)) GlbLengthMismatch offset
    ∷ broken (not (offset == l.declared) && nat_lt offset l.actual) GlbUnexpectedEndOfChunkHeader l.actual
    ∷ []

-- a chunk ends behind one of the lengths, and so no chunk is behind it
abbrev pub is_last : Lengths → Chunk → Bool
is_last l c = nat_lt l.declared (end_of c) || nat_lt l.actual (end_of c)

-- section 4.4.3: at most one chunk is of type JSON, and at most one of type BIN
abbrev pub is_repeated : Before → ℕ → Bool
is_repeated b kind = ((kind == json_kind) && b.has_json) || ((kind == bin_kind) && b.has_bin)

abbrev pub chunk_rules : Lengths → Before → Chunk → List (Option GlbFinding)
chunk_rules l b c =
    -- section 4.4.3: the start and the end of each chunk are aligned to 4 bytes
    broken (not (c.size % 4 == 0)) GlbChunkLengthUnaligned c.offset
    ∷ broken (nat_lt l.declared (end_of c)) GlbChunkTooBig c.offset
    -- section 4.4.3.2: the JSON chunk is the first one
    ∷ broken (is_first b.position && not (c.kind == json_kind)) GlbUnexpectedFirstChunk c.offset
    -- section 4.4.3.3: the BIN chunk is the second one
    ∷ broken (not (is_second b.position) && (c.kind == bin_kind)) GlbUnexpectedBinChunk c.offset
    ∷ broken (is_repeated b c.kind) GlbDuplicateChunk c.offset
    ∷ broken ((c.kind == json_kind) && (c.size == 0)) GlbEmptyChunk c.offset
    -- section 4.4.3.3: a BIN chunk should be left out if it is empty
    ∷ broken ((c.kind == bin_kind) && (c.size == 0)) GlbEmptyBinChunk c.offset
    -- section 4.4.3: other types are ignored
    ∷ broken (not (c.kind == json_kind) && not (c.kind == bin_kind)) GlbUnknownChunkType c.offset
    ∷ broken (nat_lt l.actual (end_of c)) GlbUnexpectedEndOfChunkData l.actual
    ∷ []
