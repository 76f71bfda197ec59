-- Numbers read and written as the items of a list are those of an array.
use Rattle.std.proofs.Common.{◌≡◌, ◌≢◌, ℕ, Bool, false, nat_eq, length, List, [], ◌∷◌, map, Option, Some, None, option_map, Result, Ok, Err, refl, sym, ap, subst, ◌∙◌, if◌then◌else◌}
use Rattle.std.proofs.lemmas.Bool.{eq-eqb, ne_eqb}
use Rattle.std.proofs.lemmas.List.{length-map}
use Rattle.std.specs.Result.{IsErrAnd, MatchResult}
use Rattle.serde_json.specs.Data.{Num, unsigned, array, Items, no_items, item}
use Rattle.serde_json.specs.Data as json
use Rattle.serde_json.specs.Find.{as_number}
use Rattle.gltf_base.specs.Reals.{real_number}
use Rattle.gltf_base.specs.declared.real.Real.{Real}
use Rattle.gltf_base.specs.declared.error.Error.{Error}
use Rattle.gltf_base.specs.declared.error.Error.TheVariants as errors
use Rattle.gltf_schema.specs.Write.{write, write_items, number_items}
use Rattle.gltf_schema.specs.Invalid.{any_holds_invalid}
use Rattle.gltf_schema.specs.Outcome.{Reads, Refuses, Withholds}
use Rattle.gltf_schema.specs.Maybe.{◌>>=◌}
use Rattle.gltf_schema.specs.Tree.{Tree, number, numbers, list, Trees, end, with_tree, trees}
use Rattle.gltf_schema.specs.Kind.{Number}
use Rattle.gltf_schema.specs.Read.{read, read_items, all_numbers}
use Rattle.gltf_schema.specs.Fields.{real_tree, reals_tree}
use Rattle.gltf_schema.proofs.TakingOut.{refused}
use Rattle.gltf_schema.proofs.RowByRow.{refused_then}
use Rattle.gltf_schema.proofs.Putting.{withheld_anyway}

abbrev number_of : Tree → Num
number_of (number x) = x
number_of _ = unsigned 0

abbrev numbers_of : Trees → List Num
numbers_of end = []
numbers_of (with_tree t ts) = number_of t ∷ numbers_of ts

behind : (x : Num) (read : Option Trees) → option_map (λ xs. x ∷ xs) (option_map numbers_of read) ≡ option_map numbers_of (option_map (with_tree (number x)) read)
behind x None = refl
behind x (Some ts) = refl

next : (n : Option Num) (ds : Items) → all_numbers ds ≡ option_map numbers_of (read_items (read Number) ds)
    → (n >>= λ x. option_map (λ xs. x ∷ xs) (all_numbers ds)) ≡ option_map numbers_of (option_map number n >>= λ t. option_map (with_tree t) (read_items (read Number) ds))
next None ds later = refl
next (Some x) ds later = rw later (behind x (read_items (read Number) ds))

-- the numbers of an array are its items, each read as a number
pub numbers_are_items : (ds : Items) → all_numbers ds ≡ option_map numbers_of (read_items (read Number) ds)
numbers_are_items no_items = refl
numbers_are_items (item d ds) = next (as_number d) ds (numbers_are_items ds)

numbers_of_reals : (xs : List Real) → numbers_of (trees (map real_tree xs)) ≡ map real_number xs
numbers_of_reals [] = refl
numbers_of_reals (x ∷ xs) = ap (λ ns. real_number x ∷ ns) (numbers_of_reals xs)

-- reals that were read as items are the array's numbers
reals_are_numbers : (ds : Items) (xs : List Real) → read_items (read Number) ds ≡ Some (trees (map real_tree xs)) → all_numbers ds ≡ Some (map real_number xs)
reals_are_numbers ds xs h = numbers_are_items ds ∙ ap (option_map numbers_of) h ∙ ap Some (numbers_of_reals xs)

-- an array of reals is read where they are as many as it has places
pub array_filled : {W : Type 0} (Made : W → Error → Type 0) (r : Result (List Real) W) (s : Result (List Real) Error) (xs : List Real) (n : ℕ) (w : W) → ((v : W) (e : Error) → Made v e → e ≡ errors.Schema)
    → MatchResult r (λ ys. (ys ≡ xs) × (length xs ≡ n)) (λ v. (v ≡ w) × (length xs ≢ n)) → MatchResult r (λ ys. s ≡ Ok ys) (λ v. IsErrAnd s (Made v))
    → Reads reals_tree s (if nat_eq (length xs) n then Some (reals_tree xs) else None)
array_filled Made (Ok ys) s xs n w schema h made = rw (made, h.0, eq-eqb (length xs) n h.1) refl
array_filled Made (Err v) (Ok zs) xs n w schema h made = absurd made
array_filled Made (Err v) (Err e) xs n w schema h made = rw (schema v e made, ne_eqb (length xs) n h.1) refl

-- so is the array's kind
pub array_read : (r : Result (List Real) Error) (ds : Items) (xs : List Real) (n : ℕ) → read_items (read Number) ds ≡ Some (trees (map real_tree xs))
    → Reads reals_tree r (if nat_eq (length xs) n then Some (reals_tree xs) else None)
    → Reads reals_tree r (all_numbers ds >>= λ ys. if nat_eq (length ys) n then Some (numbers ys) else None)
array_read r ds xs n items h = rw (reals_are_numbers ds xs items, length-map xs real_number) h

list_back : (r : Option Trees) (ts : Trees) → option_map list r ≡ Some (list ts) → r ≡ Some ts
list_back None ts h = absurd cc
list_back (Some t) ts h = let same : t ≡ ts = cc in rw same refl

-- reals that were read as a list are its items
pub reals_read : (ds : Items) (xs : List Real) → option_map list (read_items (read Number) ds) ≡ Some (list (trees (map real_tree xs))) → read_items (read Number) ds ≡ Some (trees (map real_tree xs))
reals_read ds xs h = list_back (read_items (read Number) ds) (trees (map real_tree xs)) h

-- as many reals as the array has places are the array
pub array_of_list : (ds : Items) (xs : List Real) (n : ℕ) → read_items (read Number) ds ≡ Some (trees (map real_tree xs)) → length xs ≡ n
    → (all_numbers ds >>= λ ys. if nat_eq (length ys) n then Some (numbers ys) else None) ≡ Some (reals_tree xs)
array_of_list ds xs n h long = rw (reals_are_numbers ds xs h, length-map xs real_number, eq-eqb (length xs) n long) refl

-- and more or fewer are none
pub no_array_of_list : (ds : Items) (xs : List Real) (n : ℕ) → read_items (read Number) ds ≡ Some (trees (map real_tree xs)) → length xs ≢ n
    → (all_numbers ds >>= λ ys. if nat_eq (length ys) n then Some (numbers ys) else None) ≡ None
no_array_of_list ds xs n h other = rw (reals_are_numbers ds xs h, length-map xs real_number, ne_eqb (length xs) n other) refl

-- an item that is refused refuses the array
pub array_refused : (e : Error) (ds : Items) (n : ℕ) → Refuses e (read_items (read Number) ds)
    → Refuses e (all_numbers ds >>= λ ys. if nat_eq (length ys) n then Some (numbers ys) else None)
array_refused e ds n h = refused_then e _ (all_numbers ds) (rw (numbers_are_items ds) (refused e numbers_of _ h))

-- reals are written as the array's numbers
reals_written : (xs : List Real) → write_items (write Number) (trees (map real_tree xs)) ≡ Some (number_items (map real_number xs))
reals_written [] = refl
reals_written (x ∷ xs) = ap (option_map (item (json.number (real_number x)))) (reals_written xs)

-- no real is invalid
pub none_invalid : (xs : List Real) → any_holds_invalid (trees (map real_tree xs)) ≡ false
none_invalid [] = refl
none_invalid (x ∷ xs) = none_invalid xs

-- only a refused growth withholds reals
pub reals_withheld : {B : Type 0} (e : Error) (xs : List Real) (written : Option B) (b : Bool)
    → Withholds e (write_items (write Number) (trees (map real_tree xs))) (any_holds_invalid (trees (map real_tree xs))) → Withholds e written b
reals_withheld e xs written b h =
    withheld_anyway e _ written b (subst (λ invalid. Withholds e (write_items (write Number) (trees (map real_tree xs))) invalid) (none_invalid xs) h)

-- an array has as many reals as it has places
pub array_written : (xs : List Real) (n : ℕ) (ds : Items) → length xs ≡ n → write_items (write Number) (trees (map real_tree xs)) ≡ Some ds
    → (if nat_eq (length (map real_number xs)) n then Some (array (number_items (map real_number xs))) else None) ≡ Some (array ds)
array_written xs n ds long h =
    rw (eq-eqb (length (map real_number xs)) n (length-map xs real_number ∙ long)) (ap (option_map array) (sym (reals_written xs) ∙ h))

-- as its kind says
pub array_as_items : (xs : List Real) (n : ℕ) → length xs ≡ n
    → option_map array (write_items (write Number) (trees (map real_tree xs))) ≡ (if nat_eq (length (map real_number xs)) n then Some (array (number_items (map real_number xs))) else None)
array_as_items xs n long = ap (option_map array) (reals_written xs) ∙ sym (array_written xs n (number_items (map real_number xs)) long (reals_written xs))
