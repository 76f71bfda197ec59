-- The marks of a list that indexes name.
use Rattle.std.proofs.Common.{◌≡◌, ◌↔◌, ◌⊎◌, inl, inr, ℕ, zero, suc, ◌<◌, List, [], ◌∷◌, Bool, true, false, set, length, replicate, refl, sym, ap, subst, arith}
use Rattle.std.specs.Prelude.{if◌then◌else◌, nat_lt, slice_index_or}
use Rattle.std.specs.List.{Contains}
use Rattle.std.proofs.lemmas.Bool.{both_ways, lt-ltb}
use Rattle.std.proofs.lemmas.List.{length-set}
use Rattle.gltf_findings_codes.specs.Marks.{mark, mark_all, is_marked}

set_same : (marks : List Bool) (n : ℕ) → n < length marks → is_marked (set marks n true) n ≡ true
set_same [] n small = absurd (omega (arith, small))
set_same (b ∷ bs) zero small = refl
set_same (b ∷ bs) (suc n) small = set_same bs n (omega (arith, small))

set_keeps : (marks : List Bool) (m n : ℕ) → is_marked marks n ≡ true → is_marked (set marks m true) n ≡ true
set_keeps [] m n is = is
set_keeps (b ∷ bs) zero zero is = refl
set_keeps (b ∷ bs) zero (suc n) is = is
set_keeps (b ∷ bs) (suc m) zero is = is
set_keeps (b ∷ bs) (suc m) (suc n) is = set_keeps bs m n is

set_source : (marks : List Bool) (m n : ℕ) → is_marked (set marks m true) n ≡ true → (is_marked marks n ≡ true) ⊎ (m ≡ n)
set_source [] m n is = inl is
set_source (b ∷ bs) zero zero is = inr refl
set_source (b ∷ bs) zero (suc n) is = inl is
set_source (b ∷ bs) (suc m) zero is = inl is
set_source (b ∷ bs) (suc m) (suc n) is = elim (set_source bs m n is) [
  | inl old ↦ inl old
  | inr same ↦ inr (ap suc same)
]

mark_same : (marks : List Bool) (n : ℕ) → n < length marks → is_marked (mark marks n) n ≡ true
mark_same marks n small = subst (λ b. is_marked (if b then set marks n true else marks) n ≡ true) (sym (lt-ltb n (length marks) small)) (set_same marks n small)

keeps_by : (b : Bool) (marks : List Bool) (m n : ℕ) → is_marked marks n ≡ true → is_marked (if b then set marks m true else marks) n ≡ true
keeps_by true marks m n is = set_keeps marks m n is
keeps_by false marks m n is = is

source_by : (b : Bool) (marks : List Bool) (m n : ℕ) → is_marked (if b then set marks m true else marks) n ≡ true → (is_marked marks n ≡ true) ⊎ (m ≡ n)
source_by true marks m n is = set_source marks m n is
source_by false marks m n is = inl is

length_by : (b : Bool) (marks : List Bool) (m : ℕ) → length (if b then set marks m true else marks) ≡ length marks
length_by true marks m = length-set marks m true
length_by false marks m = refl

keeps_all : (marks : List Bool) (ns : List ℕ) (n : ℕ) → is_marked marks n ≡ true → is_marked (mark_all marks ns) n ≡ true
keeps_all marks [] n is = is
keeps_all marks (m ∷ ms) n is = keeps_all (mark marks m) ms n (keeps_by (nat_lt m (length marks)) marks m n is)

named_at : (marks : List Bool) (ns : List ℕ) (n k : ℕ) → n < length marks → k < length ns → slice_index_or ns k n ≡ n → is_marked (mark_all marks ns) n ≡ true
named_at marks [] n k small below is = absurd (omega (arith, below))
named_at marks (m ∷ ms) n zero small below is = keeps_all (mark marks m) ms n (subst (λ x. is_marked (mark marks x) n ≡ true) (sym is) (mark_same marks n small))
named_at marks (m ∷ ms) n (suc k) small below is =
    let same = length_by (nat_lt m (length marks)) marks m in
    named_at (mark marks m) ms n k (subst (λ l. n < l) (sym same) small) (omega (arith, below)) is

source : (marks : List Bool) (ns : List ℕ) (n : ℕ) → is_marked (mark_all marks ns) n ≡ true → (is_marked marks n ≡ true) ⊎ Contains ns n
source marks [] n is = inl is
source marks (m ∷ ms) n is = elim (source (mark marks m) ms n is) [
  | inl here ↦ elim (source_by (nat_lt m (length marks)) marks m n here) [
    | inl old ↦ inl old
    | inr same ↦ inr (0, omega arith, same)
  ]
  | inr there ↦ inr (suc there.0, omega (arith, there.1), there.2)
]

unmarked : (count n : ℕ) → is_marked (replicate count false) n ≡ false
unmarked zero n = refl
unmarked (suc count) zero = refl
unmarked (suc count) (suc n) = unmarked count n

either : (marks : List Bool) (ns : List ℕ) (n : ℕ) → n < length marks → (is_marked marks n ≡ true) ⊎ Contains ns n → is_marked (mark_all marks ns) n ≡ true
either marks ns n small (inl is) = keeps_all marks ns n is
either marks ns n small (inr there) = named_at marks ns n there.0 small there.1 there.2

pub marked_all : (marks : List Bool) (n : ℕ) (ns : List ℕ) → n < length marks → (is_marked (mark_all marks ns) n ≡ true) ↔ ((is_marked marks n ≡ true) ⊎ Contains ns n)
marked_all marks n ns small = (source marks ns n, either marks ns n small)

length_of : (count : ℕ) → length (replicate count false) ≡ count
length_of zero = refl
length_of (suc count) = ap suc (length_of count)

pub marked_first : (count n : ℕ) (ns : List ℕ) → n < count → (is_marked (mark_all (replicate count false) ns) n ≡ true) ↔ Contains ns n
marked_first count n ns small = (only, λ there. either (replicate count false) ns n (subst (λ l. n < l) (sym (length_of count)) small) (inr there))
  where
    only : is_marked (mark_all (replicate count false) ns) n ≡ true → Contains ns n
    only is = elim (source (replicate count false) ns n is) [
      | inl old ↦ absurd (both_ways (is_marked (replicate count false) n) (unmarked count n) old)
      | inr there ↦ there
    ]
