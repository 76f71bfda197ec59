-- Indexes that name an item, and those that don't.
use Rattle.std.proofs.Common.{◌≡◌, ℕ, suc, ◌<◌, List, [], ◌∷◌, Some, None, length, slice_get, nat_lt, Bool, true, false, refl, sym, ◌∙◌, ap, map, arith}
use Rattle.std.proofs.lemmas.Bool.{ltb-true, lt-ltb}
use Rattle.std.proofs.lemmas.Option.{slice_get_within, slice_get-get_or}
use Rattle.gltf_base.specs.Lists.{ListName}
use Rattle.gltf_base.specs.Steps.{Step}
use Rattle.gltf_base.specs.declared.validation.Error.TheVariants.{IndexOutOfBounds}
use Rattle.gltf_schema.specs.Tree.{Tree, count_of, trees}
use Rattle.gltf_validation_rules.specs.Faults.{number_faults}
use Rattle.gltf_validation_rules.specs.Report.{found_at}
use Rattle.gltf_root.specs.Lists.{list_in, count_in}

-- a list of trees is as long as the list that it is of
pub count_of-trees : {X : Type 0} (tree : X → Tree) (xs : List X) → count_of (trees (map tree xs)) ≡ length xs
count_of-trees tree [] = refl
count_of-trees tree (x ∷ xs) = ap (λ n. suc n) (count_of-trees tree xs)

-- a list of a document holds as many items as its tree
pub count_in-items : {X : Type 0} (named : ListName) (root : Tree) (tree : X → Tree) (xs : List X)
    → list_in named root ≡ trees (map tree xs) → count_in named root ≡ length xs
count_in-items named root tree xs e = ap count_of e ∙ count_of-trees tree xs

-- an index that names an item is no fault
pub index_there : {X : Type 0} (xs : List X) (n count : ℕ) (x : X) → count ≡ length xs → Some x ≡ slice_get xs n
    → (base : List Step) → number_faults count n base ≡ []
index_there xs n count x e h base =
    let inside : n < length xs = slice_get_within xs n x (sym h) in
    rw (lt-ltb n count (omega (arith, inside, e))) refl

past_at : {X : Type 0} (b : Bool) (xs : List X) (n count : ℕ) → nat_lt n count ≡ b → count ≡ length xs → None ≡ slice_get xs n
    → (base : List Step) → number_faults count n base ≡ found_at (Some IndexOutOfBounds) base
past_at false xs n count t e h base = rw t refl
past_at true [] n count t e h base = absurd (omega (arith, ltb-true n count t, e))
past_at true (x ∷ xs) n count t e h base =
    let inside : n < length (x ∷ xs) = omega (arith, ltb-true n count t, e) in
    absurd (let found = h ∙ slice_get-get_or (x ∷ xs) n x inside in cc)

-- an index that names none is one
pub index_past : {X : Type 0} (xs : List X) (n count : ℕ) → count ≡ length xs → None ≡ slice_get xs n
    → (base : List Step) → number_faults count n base ≡ found_at (Some IndexOutOfBounds) base
index_past xs n count e h base = past_at (nat_lt n count) xs n count refl e h base
