-- How a document spells the items of a choice: each by a number, or each by a name.
use Rattle.std.specs.Prelude.{ℕ, ◌==◌, List, [], ◌∷◌, Bool, false, if◌then◌else◌}
use Rattle.std.specs.Fmt.{decimal}
use Rattle.std.specs.Str.{bytes_eq}
use Rattle.gltf_base.specs.declared.choice.Spelling.{Spelling as Borrowed}
use Rattle.gltf_base.specs.declared.choice.Spelling.TheVariants as borrowed
use Rattle.gltf_base.specs.declared.validation.Checked.{Checked}
use Rattle.gltf_base.specs.declared.validation.Checked.TheVariants.{Valid, Invalid}

pub data Spelling : Type 0 where
  by_number : ℕ → Spelling
  by_name : List ℕ → Spelling

abbrev pub spelling_of : Borrowed → Spelling
spelling_of (borrowed.Number n) = by_number n
spelling_of (borrowed.Name s) = by_name s.now

-- a number is printed in decimal, and a name as it is
abbrev pub spelling_text : Spelling → List ℕ
spelling_text (by_number n) = decimal n
spelling_text (by_name s) = s

abbrev pub is_spelled : Spelling → Spelling → Bool
is_spelled (by_number m) (by_number n) = m == n
is_spelled (by_name s) (by_name t) = bytes_eq s t
is_spelled _ _ = false

-- the item that a spelling is read as: the one of the list that has it
abbrev pub item_spelled : {X : Type 0} → (X → Spelling) → List X → Spelling → Checked X
item_spelled spell [] s = Invalid
item_spelled spell (x ∷ xs) s = if is_spelled (spell x) s then Valid x else item_spelled spell xs s
