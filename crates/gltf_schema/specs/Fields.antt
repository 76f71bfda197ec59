-- The trees of an object's fields.
use Rattle.std.specs.Prelude.{ℕ, List, map, String, string_bytes}
use Rattle.std.specs.declared.alloc.Global.{Global}
use Rattle.std.specs.BTreeMap.{BTreeMap}
use Rattle.serde_json.specs.Data.{no_members}
use Rattle.serde_json.specs.View.{view, members_view}
use Rattle.serde_json.specs.declared.value.Value.{Value}
use Rattle.gltf_base.specs.Keys.{Key}
use Rattle.gltf_base.specs.Semantics.{checked_key}
use Rattle.gltf_base.specs.declared.mesh.Semantic.{Semantic}
use Rattle.gltf_base.specs.declared.validation.Checked.{Checked}
use Rattle.gltf_base.specs.Indexes.{index_number}
use Rattle.gltf_base.specs.Reals.{real_number}
use Rattle.gltf_base.specs.declared.index.IndexTo.{IndexTo}
use Rattle.gltf_base.specs.declared.real.Real.{Real}
use Rattle.gltf_base.specs.declared.validation.USize64.{USize64}
use Rattle.gltf_schema.specs.declared.unlisted.KeptExtensions.{KeptExtensions}
use Rattle.gltf_schema.specs.declared.unlisted.DroppedExtensions.{DroppedExtensions}
use Rattle.gltf_schema.specs.Tree.{Tree, Trees, end, trees, whole, number, numbers, text, any, index, list, attributes, object}

abbrev pub index_tree : {P : Type 0} → IndexTo P → Tree
index_tree i = index (index_number i)

abbrev pub size_tree : USize64 → Tree
size_tree n = whole n.0

abbrev pub real_tree : Real → Tree
real_tree x = number (real_number x)

abbrev pub reals_tree : List Real → Tree
reals_tree xs = numbers (map real_number xs)

abbrev pub text_tree : String Global → Tree
text_tree s = text (string_bytes s)

abbrev pub any_tree : Value → Tree
any_tree v = any (view v)

abbrev pub list_tree : {X : Type 0} → (X → Tree) → List X → Tree
list_tree tree xs = list (trees (map tree xs))

-- an attribute, by what its key means
abbrev pub entry_of : {P : Type 0} → Checked Semantic × IndexTo P → Key × ℕ
entry_of e = (checked_key e.0, index_number e.1)

abbrev pub attributes_tree : {P : Type 0} → BTreeMap (Checked Semantic) (IndexTo P) → Tree
attributes_tree m = attributes (map entry_of m.entries)

-- an object that keeps no other members
abbrev pub closed_object : Trees → Tree
closed_object ts = object ts no_members

-- the extensions of an object of which none is known: they are kept, or dropped
abbrev pub kept_tree : KeptExtensions → Tree
kept_tree e = object end (members_view e.others.entries)

abbrev pub dropped_tree : DroppedExtensions → Tree
dropped_tree e = object end no_members
