-- Which places of a list are found as repeats.
use Rattle.std.proofs.Common.{◌≡◌, ◌↔◌, ◌⊎◌, inl, inr, ℕ, zero, suc, ◌+◌, ◌<◌, List, [], ◌∷◌, ◌++◌, Bool, true, false, ◌||◌, Some, refl, sym, ap, subst, arith, Ordering, Less, Equal, Greater, nat_cmp, is_eq}
use Rattle.std.specs.Prelude.{slice_get}
use Rattle.std.specs.List.{list_any, Contains}
use Rattle.std.specs.Ordering.{match_ordering}
use Rattle.std.specs.Cmp.{nat_cmp_is}
use Rattle.std.specs.BTreeMap.{is_at}
use Rattle.std.specs.BTreeSet.{insert_key}
use Rattle.std.proofs.lemmas.Bool.{both_ways}
use Rattle.gltf_findings_codes.specs.declared.code.Code.TheVariants.{DuplicateElements}
use Rattle.gltf_findings_codes.specs.declared.name.Name.{Name}
use Rattle.gltf_findings_codes.specs.declared.finding.Object.{Object}
use Rattle.gltf_findings_codes.specs.declared.finding.Subject.TheVariants.{Entry}
use Rattle.gltf_findings_codes.specs.declared.finding.Finding.{Finding}
use Rattle.gltf_findings_codes.specs.Found.{broken, found}
use Rattle.gltf_findings_codes.specs.Repeats.{is_among, repeat_findings, repeat_at, IsRepeat}

or_cases : (x y : Bool) → (x || y) ≡ true → (x ≡ true) ⊎ (y ≡ true)
or_cases true y h = inl refl
or_cases false y h = inr h

or_left : (x y : Bool) → x ≡ true → (x || y) ≡ true
or_left true y e = refl
or_left false y e = absurd (both_ways false refl e)

or_right : (x y : Bool) → y ≡ true → (x || y) ≡ true
or_right true y e = refl
or_right false y e = e

is_self : (n : ℕ) → is_at (nat_cmp n) n ≡ true
is_self n = subst (λ o. is_eq o ≡ true) (nat_cmp_is n n Equal refl) refl

equal_by : (o : Ordering) (c n : ℕ) → nat_cmp c n ≡ o → is_eq o ≡ true → c ≡ n
equal_by Less c n e is = absurd (both_ways false refl is)
equal_by Equal c n e is = grind (arith, e)
equal_by Greater c n e is = absurd (both_ways false refl is)

-- what is found among numbers with one more is that one, or among them
more_source : (o : Ordering) (x n c : ℕ) (xs rest : List ℕ) → list_any (is_at (nat_cmp c)) (match_ordering o (n ∷ x ∷ xs) (x ∷ xs) (x ∷ rest)) ≡ true → (list_any (is_at (nat_cmp c)) rest ≡ true → (c ≡ n) ⊎ (list_any (is_at (nat_cmp c)) xs ≡ true))
    → (c ≡ n) ⊎ (list_any (is_at (nat_cmp c)) (x ∷ xs) ≡ true)
more_source Less x n c xs rest h more = elim (or_cases (is_at (nat_cmp c) n) (list_any (is_at (nat_cmp c)) (x ∷ xs)) h) [
  | inl is ↦ inl (equal_by (nat_cmp c n) c n refl is)
  | inr old ↦ inr old
]
more_source Equal x n c xs rest h more = inr h
more_source Greater x n c xs rest h more = elim (or_cases (is_at (nat_cmp c) x) (list_any (is_at (nat_cmp c)) rest) h) [
  | inl is ↦ inr (or_left (is_at (nat_cmp c) x) (list_any (is_at (nat_cmp c)) xs) is)
  | inr later ↦ elim (more later) [
    | inl same ↦ inl same
    | inr old ↦ inr (or_right (is_at (nat_cmp c) x) (list_any (is_at (nat_cmp c)) xs) old)
  ]
]

source : (before : List ℕ) (n c : ℕ) → is_among (insert_key nat_cmp before n) c ≡ true → (c ≡ n) ⊎ (is_among before c ≡ true)
source [] n c h = elim (or_cases (is_at (nat_cmp c) n) false h) [
  | inl is ↦ inl (equal_by (nat_cmp c n) c n refl is)
  | inr never ↦ absurd (both_ways false refl never)
]
source (x ∷ xs) n c h = more_source (nat_cmp n x) x n c xs (insert_key nat_cmp xs n) h (source xs n c)

keep_step : (o : Ordering) (x n c : ℕ) (xs rest : List ℕ) → list_any (is_at (nat_cmp c)) (x ∷ xs) ≡ true → (list_any (is_at (nat_cmp c)) xs ≡ true → list_any (is_at (nat_cmp c)) rest ≡ true) → list_any (is_at (nat_cmp c)) (match_ordering o (n ∷ x ∷ xs) (x ∷ xs) (x ∷ rest)) ≡ true
keep_step Less x n c xs rest h more = or_right (is_at (nat_cmp c) n) (list_any (is_at (nat_cmp c)) (x ∷ xs)) h
keep_step Equal x n c xs rest h more = h
keep_step Greater x n c xs rest h more = elim (or_cases (is_at (nat_cmp c) x) (list_any (is_at (nat_cmp c)) xs) h) [
  | inl is ↦ or_left (is_at (nat_cmp c) x) (list_any (is_at (nat_cmp c)) rest) is
  | inr old ↦ or_right (is_at (nat_cmp c) x) (list_any (is_at (nat_cmp c)) rest) (more old)
]

-- what is among numbers is among them with one more
pub keeps : (before : List ℕ) (n c : ℕ) → is_among before c ≡ true → is_among (insert_key nat_cmp before n) c ≡ true
keeps [] n c h = absurd (both_ways false refl h)
keeps (x ∷ xs) n c h = keep_step (nat_cmp n x) x n c xs (insert_key nat_cmp xs n) h (keeps xs n c)

self_step : (o : Ordering) (x n : ℕ) (xs rest : List ℕ) → nat_cmp n x ≡ o → list_any (is_at (nat_cmp n)) rest ≡ true → list_any (is_at (nat_cmp n)) (match_ordering o (n ∷ x ∷ xs) (x ∷ xs) (x ∷ rest)) ≡ true
self_step Less x n xs rest e h = or_left (is_at (nat_cmp n) n) (list_any (is_at (nat_cmp n)) (x ∷ xs)) (is_self n)
self_step Equal x n xs rest e h = or_left (is_at (nat_cmp n) x) (list_any (is_at (nat_cmp n)) xs) (subst (λ o. is_eq o ≡ true) (sym e) refl)
self_step Greater x n xs rest e h = or_right (is_at (nat_cmp n) x) (list_any (is_at (nat_cmp n)) rest) h

-- a number that was put in is there
pub self : (before : List ℕ) (n : ℕ) → is_among (insert_key nat_cmp before n) n ≡ true
self [] n = or_left (is_at (nat_cmp n) n) false (is_self n)
self (x ∷ xs) n = self_step (nat_cmp n x) x n xs (insert_key nat_cmp xs n) refl (self xs n)

-- the number at a place is one of those before, or stands at an earlier place
abbrev IsBefore : List ℕ → List ℕ → ℕ → Type 0
IsBefore before ns j = (n : ℕ) × (slice_get ns j ≡ Some n) × ((is_among before n ≡ true) ⊎ ((i : ℕ) × (i < j) × (slice_get ns i ≡ Some n)))

-- ---- a finding at each repeat

behind : (b : Bool) (object : Object) (name : Name) (k : ℕ) (rest : List Finding) (f : Finding) → Contains rest f → Contains (found (broken b DuplicateElements (Entry object name k) ∷ []) ++ rest) f
behind true object name k rest f there = (suc there.0, omega (arith, there.1), there.2)
behind false object name k rest f there = there

here : (b : Bool) (object : Object) (name : Name) (k : ℕ) (rest : List Finding) → b ≡ true → Contains (found (broken b DuplicateElements (Entry object name k) ∷ []) ++ rest) (repeat_at object name k)
here true object name k rest is = (0, omega arith, refl)
here false object name k rest is = absurd (both_ways false refl is)

at_place : (object : Object) (name : Name) (before : List ℕ) (k : ℕ) (ns : List ℕ) (j n : ℕ) → slice_get ns j ≡ Some n → (is_among before n ≡ true) ⊎ ((i : ℕ) × (i < j) × (slice_get ns i ≡ Some n)) → Contains (repeat_findings object name before k ns) (repeat_at object name (k + j))
at_place object name before k [] j n at is = absurd cc
at_place object name before k (m ∷ ms) zero n at (inl is) =
    let same : m ≡ n = cc in
    let e : k ≡ k + 0 = omega arith in
    subst (λ x. Contains (repeat_findings object name before k (m ∷ ms)) (repeat_at object name x)) e
    (here (is_among before m) object name k (repeat_findings object name (insert_key nat_cmp before m) (k + 1) ms) (subst (λ x. is_among before x ≡ true) (sym same) is))
at_place object name before k (m ∷ ms) zero n at (inr there) = absurd (omega (arith, there.1))
at_place object name before k (m ∷ ms) (suc j) n at is =
    let e : k + 1 + j ≡ k + suc j = omega arith in
    subst (λ x. Contains (repeat_findings object name before k (m ∷ ms)) (repeat_at object name x)) e
    (behind (is_among before m) object name k (repeat_findings object name (insert_key nat_cmp before m) (k + 1) ms) (repeat_at object name (k + 1 + j)) (at_place object name (insert_key nat_cmp before m) (k + 1) ms j n at (later is)))
  where
    later : (is_among before n ≡ true) ⊎ ((i : ℕ) × (i < suc j) × (slice_get (m ∷ ms) i ≡ Some n)) → (is_among (insert_key nat_cmp before m) n ≡ true) ⊎ ((i : ℕ) × (i < j) × (slice_get ms i ≡ Some n))
    later (inl old) = inl (keeps before m n old)
    later (inr (zero, small, there)) = let same : m ≡ n = cc in inl (subst (λ x. is_among (insert_key nat_cmp before m) x ≡ true) same (self before m))
    later (inr (suc i, small, there)) = inr (i, omega (arith, small), there)

-- ---- and none elsewhere

split_by : (b : Bool) (object : Object) (name : Name) (k p : ℕ) (rest : List Finding) → Contains (found (broken b DuplicateElements (Entry object name k) ∷ []) ++ rest) (repeat_at object name p) → ((b ≡ true) × (k ≡ p)) ⊎ Contains rest (repeat_at object name p)
split_by true object name k p rest (zero, below, is) =
    let found : repeat_at object name k ≡ repeat_at object name p = is in
    let places : Entry object name k ≡ Entry object name p = ap (λ f. f.place) found in
    inl (refl, cc)
split_by true object name k p rest (suc i, below, is) = inr (i, omega (arith, below), is)
split_by false object name k p rest there = inr there

from_place : (object : Object) (name : Name) (before : List ℕ) (k : ℕ) (ns : List ℕ) (p : ℕ) → Contains (repeat_findings object name before k ns) (repeat_at object name p) → (j : ℕ) × (p ≡ k + j) × IsBefore before ns j
from_place object name before k [] p there = absurd (omega (arith, there.1))
from_place object name before k (m ∷ ms) p there = elim (split_by (is_among before m) object name k p (repeat_findings object name (insert_key nat_cmp before m) (k + 1) ms) there) [
  | inl is ↦ (0, omega (arith, is.1), (m, refl, inl is.0))
  | inr more ↦
      let rest = from_place object name (insert_key nat_cmp before m) (k + 1) ms p more in
      (suc rest.0, omega (arith, rest.1), (rest.2.0, rest.2.1, earlier rest.0 rest.2.0 rest.2.2))
]
  where
    earlier : (j n : ℕ) → (is_among (insert_key nat_cmp before m) n ≡ true) ⊎ ((i : ℕ) × (i < j) × (slice_get ms i ≡ Some n)) → (is_among before n ≡ true) ⊎ ((i : ℕ) × (i < suc j) × (slice_get (m ∷ ms) i ≡ Some n))
    earlier j n (inl is) = elim (source before m n is) [
      | inl same ↦ inr (0, omega arith, ap Some (sym same))
      | inr old ↦ inl old
    ]
    earlier j n (inr (i, small, at)) = inr (suc i, omega (arith, small), at)

first_repeat : (ns : List ℕ) (j : ℕ) → IsBefore [] ns j → IsRepeat ns j
first_repeat ns j (n, at, inl never) = absurd (both_ways false refl never)
first_repeat ns j (n, at, inr (i, small, there)) = (i, n, small, there, at)

pub repeats : (object : Object) (name : Name) (ns : List ℕ) (j : ℕ) → Contains (repeat_findings object name [] 0 ns) (repeat_at object name j) ↔ IsRepeat ns j
repeats object name ns j = (only, every)
  where
    every : IsRepeat ns j → Contains (repeat_findings object name [] 0 ns) (repeat_at object name j)
    every is =
        let e : 0 + j ≡ j = omega arith in
        subst (λ x. Contains (repeat_findings object name [] 0 ns) (repeat_at object name x)) e (at_place object name [] 0 ns j is.1 is.4 (inr (is.0, is.2, is.3)))

    only : Contains (repeat_findings object name [] 0 ns) (repeat_at object name j) → IsRepeat ns j
    only there =
        let found = from_place object name [] 0 ns j there in
        let same : found.0 ≡ j = omega (arith, found.1) in
        subst (λ x. IsRepeat ns x) same (first_repeat ns found.0 found.2)
