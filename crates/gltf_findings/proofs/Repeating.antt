-- No number stands twice in a list in which no duplicate is found.
use Rattle.std.proofs.Common.{◌≡◌, ℕ, zero, suc, ◌+◌, ◌<◌, List, [], ◌∷◌, ◌++◌, Bool, true, false, Some, refl, sym, subst, arith, nat_cmp}
use Rattle.std.specs.Prelude.{slice_get}
use Rattle.std.specs.BTreeSet.{insert_key}
use Rattle.std.proofs.lemmas.Bool.{both_ways}
use Rattle.gltf_findings_codes.specs.declared.code.Code.TheVariants.{DuplicateElements}
use Rattle.gltf_findings_codes.specs.declared.name.Name.{Name}
use Rattle.gltf_findings_codes.specs.declared.finding.Object.{Object}
use Rattle.gltf_findings_codes.specs.declared.finding.Subject.TheVariants.{Entry}
use Rattle.gltf_findings_codes.specs.Found.{broken, found}
use Rattle.gltf_findings_codes.specs.Repeats.{is_among, repeat_findings}
use Rattle.gltf_findings_codes.specs.Without.{are_without}
use Rattle.gltf_findings_codes.proofs.Repeated.{keeps, self}
use Rattle.gltf_findings_codes.proofs.Without.{without_append}
use Rattle.gltf_findings.specs.Absent.{is_of_hierarchy}
use Rattle.gltf_findings.proofs.Unbroken.{unbroken}

-- what is not among more numbers is not among fewer
less : (before : List ℕ) (n c : ℕ) → is_among (insert_key nat_cmp before n) c ≡ false → is_among before c ≡ false
less before n c h = by (is_among before c) refl
  where
    by : (b : Bool) → is_among before c ≡ b → b ≡ false
    by true e = absurd (both_ways (is_among (insert_key nat_cmp before n) c) h (keeps before n c e))
    by false e = refl

rest_of : (object : Object) (name : Name) (before : List ℕ) (k n : ℕ) (ns : List ℕ) → are_without is_of_hierarchy (repeat_findings object name before k (n ∷ ns)) ≡ true → are_without is_of_hierarchy (repeat_findings object name (insert_key nat_cmp before n) (k + 1) ns) ≡ true
rest_of object name before k n ns h = (without_append is_of_hierarchy (found (broken (is_among before n) DuplicateElements (Entry object name k) ∷ [])) (repeat_findings object name (insert_key nat_cmp before n) (k + 1) ns) h).1

first_of : (object : Object) (name : Name) (before : List ℕ) (k n : ℕ) (ns : List ℕ) → are_without is_of_hierarchy (repeat_findings object name before k (n ∷ ns)) ≡ true → is_among before n ≡ false
first_of object name before k n ns h =
    let rules = broken (is_among before n) DuplicateElements (Entry object name k) ∷ [] in
    let here = (without_append is_of_hierarchy (found rules) (repeat_findings object name (insert_key nat_cmp before n) (k + 1) ns) h).0 in
    unbroken is_of_hierarchy rules 0 (is_among before n) DuplicateElements (Entry object name k) refl refl here

never : (object : Object) (name : Name) (before : List ℕ) (k : ℕ) (ns : List ℕ) → are_without is_of_hierarchy (repeat_findings object name before k ns) ≡ true → (j c : ℕ) → slice_get ns j ≡ Some c → is_among before c ≡ false
never object name before k [] h j c at = absurd cc
never object name before k (n ∷ ns) h zero c at = let is : n ≡ c = cc in subst (λ x. is_among before x ≡ false) is (first_of object name before k n ns h)
never object name before k (n ∷ ns) h (suc j) c at = less before n c (never object name (insert_key nat_cmp before n) (k + 1) ns (rest_of object name before k n ns h) j c at)

pub once : (object : Object) (name : Name) (before : List ℕ) (k : ℕ) (ns : List ℕ) → are_without is_of_hierarchy (repeat_findings object name before k ns) ≡ true → (i j c : ℕ) → i < j → slice_get ns i ≡ Some c → slice_get ns j ≡ Some c → ⊥
once object name before k [] h i j c small a b = cc
once object name before k (n ∷ ns) h i zero c small a b = omega (arith, small)
once object name before k (n ∷ ns) h zero (suc j) c small a b =
    let is : n ≡ c = cc in
    let none = never object name (insert_key nat_cmp before n) (k + 1) ns (rest_of object name before k n ns h) j c b in
    both_ways (is_among (insert_key nat_cmp before n) n) (subst (λ x. is_among (insert_key nat_cmp before n) x ≡ false) (sym is) none) (self before n)
once object name before k (n ∷ ns) h (suc i) (suc j) c small a b = once object name (insert_key nat_cmp before n) (k + 1) ns (rest_of object name before k n ns h) i j c (omega (arith, small)) a b
