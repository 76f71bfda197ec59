-- What a document is written as.
use Rattle.std.specs.Prelude.{◌≡◌, ◌≤◌, ℕ, List, true, false, Some, IsUtf8, IsSomeAnd, ⊤}
use Rattle.json.specs.Print.{print}
use Rattle.json.specs.Layout.{pretty as pretty_print}
use Rattle.json.specs.Lex.{tokens}
use Rattle.json.specs.Tree.{json_tokens}
use Rattle.serde_json.specs.Data.{Data, depth}
use Rattle.serde_json.specs.Read.{read as read_json, max_depth}
use Rattle.json.specs.Token.{Token}
use Rattle.serde_json.specs.Written.{outline, has_float, compact_text, IsInOrder, WritesValue}
use Rattle.gltf_schema.specs.Invalid.{holds_invalid}
use Rattle.gltf_schema.specs.Outcome.{Withholds}
use Rattle.gltf_schema.specs.Plain.{is_plain}
use Rattle.gltf_schema.specs.Tree.{Tree}
use Rattle.gltf_schema.specs.Write.{write}
use Rattle.gltf_base.specs.declared.error.Error.{Error}
use Rattle.gltf_base.specs.declared.error.Error.TheVariants as errors
use Rattle.gltf_root.specs.Answer.{answer, document}
use Rattle.gltf_root.specs.Root.{root_kind}

-- the bytes are a text that prints a value in one line, without blanks between its tokens; there is
-- one such text if the value holds no float
pub record IsCompact (d : Data) (bytes : List ℕ) : Type 0 where
  pub utf8 : IsUtf8 bytes
  pub exact : has_float d ≡ false → bytes ≡ compact_text d
  pub compact : bytes ≡ print (tokens bytes)
  pub in_order : IsInOrder bytes d
  pub reads_back : depth d ≤ max_depth → read_json bytes ≡ Some d

-- the text in lines of a value that holds no float: that of its tokens
abbrev pub pretty_text : Data → List ℕ
pretty_text d = pretty_print (json_tokens (outline d))

-- the bytes are a text that prints a value in lines, two blanks deeper at each level; there is one
-- such text if the value holds no float
pub record IsPretty (d : Data) (bytes : List ℕ) : Type 0 where
  pub utf8 : IsUtf8 bytes
  pub exact : has_float d ≡ false → bytes ≡ pretty_text d
  pub laid_out : bytes ≡ pretty_print (tokens bytes)
  pub in_order : IsInOrder bytes d
  pub reads_back : depth d ≤ max_depth → read_json bytes ≡ Some d

-- a document has JSON, and the bytes are a text of it in one line
abbrev pub IsCompactOf : Tree → List ℕ → Type 0
IsCompactOf t bytes = IsSomeAnd (write root_kind t) (λ d. IsCompact d bytes)

-- a document has JSON, and the bytes are a text of it in lines
abbrev pub IsPrettyOf : Tree → List ℕ → Type 0
IsPrettyOf t bytes = IsSomeAnd (write root_kind t) (λ d. IsPretty d bytes)

-- a plain document reads back as itself from these bytes, if it isn't nested deeper than JSON is
-- read
abbrev pub IsReadBack : Tree → List ℕ → Type 0
IsReadBack t bytes = (d : Data) → write root_kind t ≡ Some d → depth d ≤ max_depth → is_plain root_kind t ≡ true → answer bytes ≡ document t

-- why a document is not written: something in it is invalid, or memory was refused
abbrev pub IsWithheld : Tree → Error → Type 0
IsWithheld t e = Withholds e (write root_kind t) (holds_invalid t)

-- memory was refused, and nothing else
abbrev pub IsOutOfMemory : Error → Type 0
IsOutOfMemory (errors.Memory e) = ⊤
IsOutOfMemory _ = ⊥

-- the new tokens are those of a document's JSON
abbrev pub IsShown : Tree → List Token → List Token → Type 0
IsShown t old new = IsSomeAnd (write root_kind t) (λ d. WritesValue d old new)
