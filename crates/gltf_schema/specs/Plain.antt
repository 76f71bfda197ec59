-- Trees that are as reading gives them, if they are of their kind: a tree of another kind can be
-- plain too.
use Rattle.std.specs.Prelude.{Bool, true, false, not, ◌&&◌, ◌||◌}
use Rattle.std.specs.List.{list_any}
use Rattle.serde_json.specs.Data.{null, Members, no_members, member}
use Rattle.gltf_base.specs.Spelling.{Spelling, by_number, by_name, is_spelled}
use Rattle.gltf_base.specs.declared.choice.Form.{Form}
use Rattle.gltf_base.specs.declared.choice.Form.TheVariants as form
use Rattle.gltf_schema.specs.Tree.{Tree, any, chosen, list, object, Trees, end, with_tree}
use Rattle.gltf_schema.specs.Kind.{Mark, optional, or_null, Kind, Choice, ListOf, Object, Rows, row, has_row}

-- a null that is kept as it is
abbrev pub is_null : Tree → Bool
is_null (any null) = true
is_null _ = false

-- a member that is there and null, though null is read as absent
abbrev pub is_null_kept : Mark → Tree → Bool
is_null_kept optional t = is_null t
is_null_kept or_null t = is_null t
is_null_kept _ t = false

-- the spelling is of the choice's form
abbrev pub is_of_form : Form → Spelling → Bool
is_of_form form.Number (by_number n) = true
is_of_form form.Name (by_name s) = true
is_of_form _ _ = false

-- no member has a row's name
abbrev pub none_named : Rows → Members → Bool
none_named rows no_members = true
none_named rows (member n d ms) = not (has_row n rows) && none_named rows ms

abbrev pub are_none : Members → Bool
are_none no_members = true
are_none (member n d ms) = false

abbrev pub all_trees : (Tree → Bool) → Trees → Bool
all_trees p end = true
all_trees p (with_tree t ts) = p t && all_trees p ts

abbrev mutual
  -- no member is null if null is read as absent, and no other member has a row's name. Others are
  -- there only if they are kept, and each choice has an item that is listed
  pub is_plain : Kind → Tree → Bool
  is_plain (Choice form spellings) (chosen s) = is_of_form form s && list_any (λ t. is_spelled t s) spellings
  is_plain (ListOf kind) (list ts) = all_trees (is_plain kind) ts
  is_plain (Object rule rows keeps) (object ts others) = are_plain rows ts && none_named rows others && (keeps || are_none others)
  is_plain _ _ = true

  pub are_plain : Rows → Trees → Bool
  are_plain (row n mark kind rows) (with_tree t ts) = not (is_null_kept mark t) && is_plain kind t && are_plain rows ts
  are_plain _ _ = true
