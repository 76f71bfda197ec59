-- The items of a list, by their numbers.
use Rattle.std.proofs.Common.{◌≡◌, ℕ, zero, suc, ◌+◌, ◌≤◌, ◌<◌, List, [], ◌∷◌, length, map, get_or, refl, subst, ap, arith}
use Rattle.gltf_base.specs.Steps.{item}
use Rattle.gltf_schema.specs.Tree.{Tree, trees}
use Rattle.gltf_validation_objects.specs.Checklist.{Checklist, place, down, over, move_at}
use Rattle.gltf_validation_objects.specs.ChecklistOf.{item_checklists}
use Rattle.gltf_validation_objects.proofs.Past.{counts, past}

item_there : {X : Type 0} (f : Tree → Checklist) (tree : X → Tree) (xs : List X) (i n : ℕ) (x : X) → n < length xs → x ≡ get_or xs n x
    → down (item (i + n)) (f (tree x)) ≡ move_at (place (item_checklists f i (trees (map tree xs))) []) n
item_there f tree [] i n x l e = absurd (omega arith)
item_there f tree (y ∷ ys) i zero x l e =
    let h : i + zero ≡ i = omega arith in
    rw h (ap (λ z. down (item i) (f (tree z))) e)
item_there f tree (y ∷ ys) i (suc n) x l e =
    let h : i + suc n ≡ suc i + n = omega arith in
    rw h (item_there f tree ys (suc i) n x (omega arith) e)

-- the move at a number is the step to the item at that number
pub item_comes : {X : Type 0} (f : Tree → Checklist) (tree : X → Tree) (xs ys : List X) (n : ℕ) (x : X) → ys ≡ xs → n < length ys → x ≡ get_or ys n x
    → down (item n) (f (tree x)) ≡ move_at (place (item_checklists f 0 (trees (map tree xs))) []) n
item_comes f tree xs ys n x h l e =
    let same : 0 + n ≡ n = omega arith in
    subst (λ m. down (item m) (f (tree x)) ≡ move_at (place (item_checklists f 0 (trees (map tree xs))) []) n) same
    (item_there f tree xs 0 n x (subst (λ zs. n < length zs) h l) (subst (λ zs. x ≡ get_or zs n x) h e))

counted : {X : Type 0} (f : Tree → Checklist) (tree : X → Tree) (xs : List X) (i : ℕ) → counts (item_checklists f i (trees (map tree xs))) ≡ length xs
counted f tree [] i = refl
counted f tree (x ∷ xs) i = ap suc (counted f tree xs (suc i))

pub items_end : {X : Type 0} (f : Tree → Checklist) (tree : X → Tree) (xs : List X) (n : ℕ) → length xs ≤ n
    → over ≡ move_at (place (item_checklists f 0 (trees (map tree xs))) []) n
items_end f tree xs n l = past (item_checklists f 0 (trees (map tree xs))) [] n (omega (arith, counted f tree xs 0))

-- lists of the same checklists
pub items_same : {X : Type 0} (f g : Tree → Checklist) (tree : X → Tree) → ((x : X) → f (tree x) ≡ g (tree x)) → (xs : List X) (i : ℕ)
    → item_checklists f i (trees (map tree xs)) ≡ item_checklists g i (trees (map tree xs))
items_same f g tree h [] i = refl
items_same f g tree h (x ∷ xs) i = rw (h x, items_same f g tree h xs (suc i)) refl
