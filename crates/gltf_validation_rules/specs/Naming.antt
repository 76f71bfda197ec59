-- Trees that don't refer to a given item.
use Rattle.std.specs.Prelude.{◌≢◌, ℕ}
use Rattle.std.specs.List.{All}
use Rattle.gltf_base.specs.Lists.{ListName}
use Rattle.gltf_schema.specs.Tree.{Tree, absent}
use Rattle.gltf_schema.specs.Kind.{Kind}
use Rattle.gltf_validation_rules.specs.References.{item_of, references}

-- no reference in a tree of a kind is to the item of a list at a number; that holds in any
-- animation, or in none
abbrev pub Avoids : ListName → ℕ → Kind → Tree → Type 0
Avoids named n kind t = All (λ r. r ≢ item_of named n) (references kind t absent)
