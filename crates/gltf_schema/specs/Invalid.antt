-- Trees in which something is invalid.
use Rattle.std.specs.Prelude.{ℕ, List, Bool, true, false, ◌||◌}
use Rattle.std.specs.List.{list_any}
use Rattle.gltf_base.specs.Keys.{Key, unknown}
use Rattle.gltf_schema.specs.Tree.{Tree, invalid, list, attributes, object, Trees, end, with_tree}

-- a key that means nothing
abbrev pub is_unknown : Key → Bool
is_unknown unknown = true
is_unknown _ = false

-- one of the keys means nothing
abbrev pub any_unknown : List (Key × ℕ) → Bool
any_unknown es = list_any (λ e. is_unknown e.0) es

abbrev mutual
  -- an item or a key in the tree is invalid
  pub holds_invalid : Tree → Bool
  holds_invalid invalid = true
  holds_invalid (list ts) = any_holds_invalid ts
  holds_invalid (attributes es) = any_unknown es
  holds_invalid (object ts others) = any_holds_invalid ts
  holds_invalid _ = false

  -- in one of the trees
  pub any_holds_invalid : Trees → Bool
  any_holds_invalid end = false
  any_holds_invalid (with_tree t ts) = holds_invalid t || any_holds_invalid ts
