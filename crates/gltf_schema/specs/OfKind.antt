-- Trees that are of a kind of the table.
use Rattle.std.specs.Prelude.{ℕ, ◌^◌, ◌==◌, nat_lt, length, Bool, true, false, ◌&&◌, ◌||◌}
use Rattle.std.specs.List.{list_all}
use Rattle.gltf_base.specs.Keys.{Key}
use Rattle.gltf_schema.specs.Tree.{Tree, whole, number, numbers, text, truth, any, chosen, invalid, index, list, attributes, object, Trees, end, with_tree, is_absent}
use Rattle.gltf_schema.specs.Kind.{Mark, optional, sometimes, or_null, Kind, IndexInto, SourceImage, ChannelSampler, U32, U64, Stride, Number, Numbers, Text, Truth, Any, Choice, Attributes, ListOf, Object, Rows, no_rows, row}
use Rattle.gltf_base.specs.Names.{is_named}
use Rattle.gltf_schema.specs.Write.{are_in_order}
use Rattle.gltf_schema.specs.Plain.{is_of_form, are_none, all_trees}
use Rattle.gltf_schema.specs.Invalid.{is_unknown}

-- the key means nothing, or it has a name
abbrev pub is_nameable : Key → Bool
is_nameable k = is_unknown k || is_named k

-- an attribute: such a key, and an index of 32 bits
abbrev pub is_attribute : Key × ℕ → Bool
is_attribute e = is_nameable e.0 && nat_lt e.1 (2 ^ 32)

-- whether a row's member may be absent
abbrev pub may_be_absent : Mark → Bool
may_be_absent optional = true
may_be_absent sometimes = true
may_be_absent or_null = true
may_be_absent _ = false

abbrev mutual
  -- the tree has the shape of the kind, also if an item or a key in it is invalid. An item of a
  -- choice has to be spelled as the choice spells its items, and need not be listed
  pub is_of_kind : Kind → Tree → Bool
  is_of_kind (IndexInto named) (index n) = nat_lt n (2 ^ 32)
  is_of_kind SourceImage (index n) = nat_lt n (2 ^ 32)
  is_of_kind ChannelSampler (index n) = nat_lt n (2 ^ 32)
  is_of_kind U32 (whole n) = nat_lt n (2 ^ 32)
  is_of_kind U64 (whole n) = nat_lt n (2 ^ 64)
  is_of_kind Stride (whole n) = nat_lt n (2 ^ 64)
  is_of_kind Number (number x) = true
  is_of_kind (Numbers n) (numbers xs) = length xs == n
  is_of_kind Text (text s) = true
  is_of_kind Truth (truth b) = true
  is_of_kind Any (any d) = true
  is_of_kind (Choice form spellings) (chosen s) = is_of_form form s
  is_of_kind (Choice form spellings) invalid = true
  is_of_kind (Attributes named) (attributes es) = are_in_order es && list_all is_attribute es
  is_of_kind (ListOf kind) (list ts) = all_trees (is_of_kind kind) ts
  is_of_kind (Object rule rows keeps) (object ts others) = are_of_kinds rows ts && (keeps || are_none others)
  is_of_kind _ _ = false

  -- each row's member is of the row's kind, or absent where it may be
  pub are_of_kinds : Rows → Trees → Bool
  are_of_kinds no_rows end = true
  are_of_kinds (row n mark kind rows) (with_tree t ts) = (may_be_absent mark && is_absent t || is_of_kind kind t) && are_of_kinds rows ts
  are_of_kinds _ _ = false
