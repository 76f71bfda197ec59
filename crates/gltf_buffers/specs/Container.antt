-- What a file is (glTF 2.0, section 4.4): a header, and chunks behind it.
use Rattle.std.specs.Prelude.{◌≡◌, ◌≢◌, ℕ, ◌<◌, ◌^◌, ◌%◌, ◌-◌, List, [], ◌++◌, length, get_or, Option, Some, None, IfSome, codes}
use Rattle.std.specs.List.{flat_map, AllByRecursion}
use Rattle.std.specs.Int.{w32, to_le_bytes}

-- a number as four bytes, the least first
abbrev pub number : ℕ → List ℕ
number n = to_le_bytes w32 n

-- the types of chunks as numbers: "JSON", and "BIN" with a zero behind it
abbrev pub json_kind : ℕ
json_kind = 1313821514

abbrev pub bin_kind : ℕ
bin_kind = 5130562

-- a chunk (section 4.4.3): the length of its data, its type, and the data
abbrev pub chunk : ℕ → List ℕ → List ℕ
chunk kind content = number (length content) ++ number kind ++ content

-- the data of a chunk is a multiple of 4 bytes long
pub record IsContent (content : List ℕ) : Type 0 where
  pub short : length content < 2 ^ 32
  pub aligned : length content % 4 ≡ 0

-- the parts of a file: its document and the data of its first buffer, each with what pads it
pub record Parts : Type 0 where
  pub json : List ℕ
  pub bin : Option (List ℕ)

abbrev pub bin_chunk : Option (List ℕ) → List ℕ
bin_chunk None = []
bin_chunk (Some bin) = chunk bin_kind bin

-- a chunk of an extension, by its type and its data
pub record IsOther (c : ℕ × List ℕ) : Type 0 where
  pub kind : c.0 < 2 ^ 32
  pub no_json : c.0 ≢ json_kind
  pub no_bin : c.0 ≢ bin_kind
  pub content : IsContent c.1

abbrev pub other_chunks : List (ℕ × List ℕ) → List ℕ
other_chunks others = flat_map (λ c. chunk c.0 c.1) others

-- A file with these parts. The header has the length of the whole file. The JSON chunk is padded with spaces and so does not end
-- with a zero.
pub record IsGlb (bytes : List ℕ) (p : Parts) : Type 0 where
  pub others : List (ℕ × List ℕ)
  pub are_others : AllByRecursion IsOther others
  pub short : length bytes < 2 ^ 32
  pub whole : bytes ≡ codes "glTF" ++ number 2 ++ number (length bytes) ++ chunk json_kind p.json ++ bin_chunk p.bin ++ other_chunks others
  pub json : IsContent p.json
  pub json_end : get_or p.json (length p.json - 1) 1 ≢ 0
  pub bin : IfSome p.bin IsContent
