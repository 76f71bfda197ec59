-- An item of a choice, and the tree of its spelling.
use Rattle.std.proofs.Common.{◌≡◌, Bool, true, false, cond, ◌||◌, List, [], ◌∷◌, map, refl, ap}
use Rattle.std.specs.List.{list_any}
use Rattle.gltf_base.specs.Spelling.{Spelling, is_spelled, item_spelled}
use Rattle.gltf_base.specs.declared.validation.Checked.TheVariants.{Valid}
use Rattle.gltf_base.proofs.ItemLemmas.{same_spelling}
use Rattle.gltf_schema.specs.Tree.{chosen, invalid}
use Rattle.gltf_schema.specs.Read.{choice_among}
use Rattle.gltf_schema.specs.Leaves.{checked_tree}

chosen_at : {X : Type 0} (b : Bool) (spell : X → Spelling) (x : X) (xs : List X) (s : Spelling) → is_spelled (spell x) s ≡ b
    → checked_tree spell (item_spelled spell xs s) ≡ choice_among (map spell xs) s
    → checked_tree spell (cond b (Valid x) (item_spelled spell xs s)) ≡ cond (b || list_any (λ t. is_spelled t s) (map spell xs)) (chosen s) invalid
chosen_at true spell x xs s is later = ap chosen (same_spelling (spell x) s is)
chosen_at false spell x xs s is later = later

-- the item that a spelling means has the tree that the table reads
pub chosen_among : {X : Type 0} (spell : X → Spelling) (xs : List X) (s : Spelling)
    → checked_tree spell (item_spelled spell xs s) ≡ choice_among (map spell xs) s
chosen_among spell [] s = refl
chosen_among spell (x ∷ xs) s = chosen_at _ spell x xs s refl (chosen_among spell xs s)
