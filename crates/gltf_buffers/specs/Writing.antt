-- What is written (glTF 2.0, section 4.4).
use Rattle.std.specs.Prelude.{◌≡◌, ℕ, ◌+◌, ◌-◌, ◌%◌, ◌<◌, ◌≤◌, ◌^◌, List, ◌++◌, length, get_or, replicate, Option, Some, None, option_map, codes}
use Rattle.std.proofs.Common.{Bor}
use Rattle.gltf_buffers.specs.declared.write.WriteError.{WriteError}
use Rattle.gltf_buffers.specs.declared.write.WriteError.TheVariants.{TooLong, JsonEndsWithZero, Memory, Io}
use Rattle.gltf_buffers.specs.Container.{number, json_kind, chunk, bin_chunk, Parts}

-- how many bytes are missing up to a multiple of 4
abbrev pub padding_of : ℕ → ℕ
padding_of n = (4 - n % 4) % 4

-- section 4.4.3: the start and the end of each chunk are aligned to a boundary of 4 bytes
abbrev pub padded : ℕ → List ℕ → List ℕ
padded fill content = content ++ replicate (padding_of (length content)) fill

-- spaces pad the document, and zeros the data
abbrev pub padded_parts : List ℕ → Option (List ℕ) → Parts
padded_parts json bin = record { json = padded 32 json; bin = option_map (λ b. padded 0 b) bin }

-- the BIN chunk with padded data, if there is any
abbrev pub padded_bin : Option (List ℕ) → List ℕ
padded_bin bin = bin_chunk (option_map (λ b. padded 0 b) bin)

-- the header of a file (section 4.4.2)
abbrev pub header : ℕ → List ℕ
header len = codes "glTF" ++ (number 2 ++ number len)

abbrev pub chunk_length : List ℕ → ℕ
chunk_length content = 8 + (length content + padding_of (length content))

abbrev pub bin_length : Option (List ℕ) → ℕ
bin_length None = 0
bin_length (Some bin) = chunk_length bin

abbrev pub file_length : List ℕ → Option (List ℕ) → ℕ
file_length json bin = 12 + chunk_length json + bin_length bin

abbrev pub file_bytes : List ℕ → Option (List ℕ) → List ℕ
file_bytes json bin = (header (file_length json bin) ++ chunk json_kind (padded 32 json)) ++ padded_bin bin

-- the last byte is a zero
abbrev pub EndsWithZero : List ℕ → Type 0
EndsWithZero json = get_or json (length json - 1) 1 ≡ 0

-- what may be written: the header has room for the length, and the end of the document is no padding with zeros
pub record IsWritable (json : List ℕ) (bin : Option (List ℕ)) : Type 0 where
  pub short : file_length json bin < 2 ^ 32
  pub end : EndsWithZero json → ⊥

-- why a file isn't written; the first reason
abbrev pub IsWriteFault : List ℕ → Option (List ℕ) → WriteError → Type 0
IsWriteFault json bin TooLong = 2 ^ 32 ≤ file_length json bin
IsWriteFault json bin JsonEndsWithZero = (file_length json bin < 2 ^ 32) × EndsWithZero json
IsWriteFault json bin (Memory e) = IsWritable json bin
IsWriteFault json bin (Io e) = ⊥

-- the same where a writer may fail, and no memory is taken
abbrev pub IsWriterFault : List ℕ → Option (List ℕ) → WriteError → Type 0
IsWriterFault json bin (Memory e) = ⊥
IsWriterFault json bin (Io e) = IsWritable json bin
IsWriterFault json bin e = IsWriteFault json bin e

-- the bytes that an option lends
abbrev pub bytes_of : Option (Bor (List ℕ)) → Option (List ℕ)
bytes_of None = None
bytes_of (Some b) = Some b.now

-- data that fits a chunk
abbrev pub IsShort : Option (List ℕ) → Type 0
IsShort None = Unit {0}
IsShort (Some b) = length b + padding_of (length b) < 2 ^ 32

-- the length of a file that may be written
pub record IsFileLength (n : ℕ) (json : List ℕ) (bin : Option (List ℕ)) : Type 0 where
  pub whole : n ≡ file_length json bin
  pub short : n < 2 ^ 32
  pub json_short : length json + padding_of (length json) < 2 ^ 32
  pub bin_short : IsShort bin
