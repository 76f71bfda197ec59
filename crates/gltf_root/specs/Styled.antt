-- What a document is written as in a style.
use Rattle.std.specs.Prelude.{◌≡◌, ◌≤◌, ℕ, List, true, Option, Some, IsSomeAnd}
use Rattle.serde_json.specs.Data.{Data, depth}
use Rattle.serde_json.specs.Read.{max_depth}
use Rattle.gltf_schema.specs.Nulls.{without_nulls}
use Rattle.gltf_schema.specs.Plain.{is_plain}
use Rattle.gltf_schema.specs.Tree.{Tree}
use Rattle.gltf_schema.specs.Write.{write}
use Rattle.gltf_root.specs.Answer.{answer, document}
use Rattle.gltf_root.specs.Root.{root_kind}
use Rattle.gltf_root.specs.Written.{IsCompact, IsPretty}
use Rattle.gltf_root.specs.declared.root.style.Nulls.{Nulls}
use Rattle.gltf_root.specs.declared.root.style.Nulls.TheVariants as nulls
use Rattle.gltf_root.specs.declared.root.style.Spacing.{Spacing}
use Rattle.gltf_root.specs.declared.root.style.Spacing.TheVariants as spacing
use Rattle.gltf_root.specs.declared.root.style.Style.{Style}

abbrev pub style_of : Spacing → Nulls → Style
style_of spaces nulls = record { spacing = spaces; nulls = nulls }

-- the JSON of a document without nulls for absent members
abbrev pub strict_json : Tree → Option Data
strict_json t = write (without_nulls root_kind) t

-- the JSON of a document
abbrev pub json_in : Nulls → Tree → Option Data
json_in nulls.Kept t = write root_kind t
json_in nulls.LeftOut t = strict_json t

-- the bytes are a text that prints a value, in one line or in lines
abbrev pub IsSpaced : Spacing → Data → List ℕ → Type 0
IsSpaced spacing.Compact d bytes = IsCompact d bytes
IsSpaced spacing.Pretty d bytes = IsPretty d bytes

-- a document has JSON in the style, and the bytes are a text of it
abbrev pub IsTextIn : Style → Tree → List ℕ → Type 0
IsTextIn style t bytes = IsSomeAnd (json_in style.nulls t) (λ d. IsSpaced style.spacing d bytes)

-- a plain document reads back as itself from these bytes, if it isn't nested deeper than JSON is
-- read
abbrev pub IsReadBackIn : Style → Tree → List ℕ → Type 0
IsReadBackIn style t bytes = (d : Data) → json_in style.nulls t ≡ Some d → depth d ≤ max_depth → is_plain root_kind t ≡ true → answer bytes ≡ document t
