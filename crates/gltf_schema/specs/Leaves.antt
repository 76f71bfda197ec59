-- The trees of values without rows.
use Rattle.std.specs.Prelude.{◌≡◌, Bool, false, is_none, refl, List, map}
use Rattle.serde_json.specs.Data.{Data}
use Rattle.serde_json.specs.Find.{as_object}
use Rattle.gltf_base.specs.Spelling.{Spelling}
use Rattle.gltf_base.specs.declared.choice.Form.{Form}
use Rattle.gltf_base.specs.declared.validation.Checked.{Checked}
use Rattle.gltf_base.specs.declared.validation.Checked.TheVariants.{Valid, Invalid}
use Rattle.gltf_schema.specs.Tree.{Tree, chosen, invalid, is_absent}
use Rattle.gltf_schema.specs.Kind.{Kind, Choice, Attributes, Object}

-- an item of a choice
abbrev pub checked_tree : {X : Type 0} → (X → Spelling) → Checked X → Tree
checked_tree spell (Valid x) = chosen (spell x)
checked_tree spell Invalid = invalid

-- an item is there, also where it is invalid
pub checked_tree-present : {X : Type 0} (spell : X → Spelling) (x : Checked X) → is_absent (checked_tree spell x) ≡ false
checked_tree-present spell (Valid x) = refl
checked_tree-present spell Invalid = refl

-- a choice that reads the items of a list
abbrev pub choice_of : {X : Type 0} → Form → (X → Spelling) → List X → Kind
choice_of form spell items = Choice form (map spell items)

-- the kind reads objects alone, and the value is none
abbrev pub wants_object : Kind → Data → Bool
wants_object (Object rule rows keeps) d = is_none (as_object d)
wants_object (Attributes named) d = is_none (as_object d)
wants_object _ d = false
