-- Documents whose text reads back as the document, and documents that have one text.
use Rattle.std.specs.Prelude.{◌≡◌, ◌≤◌, false, IsSomeAnd}
use Rattle.serde_json.specs.Data.{depth}
use Rattle.serde_json.specs.Read.{max_depth}
use Rattle.serde_json.specs.Written.{has_float}
use Rattle.gltf_schema.specs.Tree.{Tree}
use Rattle.gltf_schema.specs.Write.{write}
use Rattle.gltf_root.specs.Root.{root_kind}

-- the JSON of a document isn't nested deeper than JSON is read
abbrev pub IsShallow : Tree → Type 0
IsShallow t = IsSomeAnd (write root_kind t) (λ d. depth d ≤ max_depth)

-- no number in the JSON of a document is a float
abbrev pub HoldsNoFloat : Tree → Type 0
HoldsNoFloat t = IsSomeAnd (write root_kind t) (λ d. has_float d ≡ false)
