-- Items of a choice that may be none of its values.
use Rattle.std.specs.Prelude.{⊤, ℕ, List, codes, Option, Some}
use Rattle.std.specs.Borrow.{Bor}
use Rattle.gltf_base.specs.declared.validation.Checked.{Checked}
use Rattle.gltf_base.specs.declared.validation.Checked.TheVariants.{Valid, Invalid}

-- there is an item, and P holds of it
abbrev pub IsValidAnd : {X : Type 0} → Checked X → (X → Type 0) → Type 0
IsValidAnd (Valid x) P = P x
IsValidAnd Invalid P = ⊥

abbrev pub IsValid : {X : Type 0} → Checked X → Type 0
IsValid c = IsValidAnd c (λ _. ⊤)

-- the item behind the reference
abbrev pub checked_copied : {X : Type 0} → Checked (Bor X) → Checked X
checked_copied (Valid x) = Valid x.now
checked_copied Invalid = Invalid

-- what is printed: the item's own text, where that is known
abbrev pub checked_text : {X : Type 0} → (X → Option (List ℕ)) → Checked X → Option (List ℕ)
checked_text item_text (Valid x) = item_text x
checked_text item_text Invalid = Some (codes "<invalid>")
