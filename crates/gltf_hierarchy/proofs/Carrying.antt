-- Joints that are carried up to where they meet.
use Rattle.std.proofs.Common.{◌≡◌, ℕ, zero, suc, ◌<◌, ◌≤◌, ◌+◌, List, [], ◌∷◌, length, get_or, Option, Some, None, refl, sym, ◌∙◌, ap, subst, arith, inl, inr}
use Rattle.std.specs.Prelude.{slice_get, sum}
use Rattle.std.proofs.Math.ListN.{set, length-set}
use Rattle.std.proofs.lemmas.List.{get_or-set_same, get_or-set_other}
use Rattle.std.proofs.lemmas.List.Sums.{sum_by-set, sum_by-cons, get_or-le-sum_by}
use Rattle.std.proofs.lemmas.Option.{slice_get_within, slice_get-get_or}
use Rattle.std.proofs.lemmas.Bool.{cases_eq, cases_lt}
use Rattle.gltf_hierarchy.specs.Order.{IsOrder, IsParent, IsAbove}
use Rattle.gltf_hierarchy.specs.Gathering.{AreCounted, IsAboveAll, IsRootOrNone, IsGathering, carried}
use Rattle.gltf_hierarchy.proofs.Above.{above_more}
use Rattle.gltf_hierarchy.proofs.Steps.{within, past_end}

-- ---- sums

zero_sum : (xs : List ℕ) → ((i : ℕ) → get_or xs i 0 ≡ 0) → sum xs ≡ 0
zero_sum [] h = refl
zero_sum (x ∷ xs) h =
    let first : x ≡ 0 = h 0 in
    let rest : sum xs ≡ 0 = zero_sum xs (λ i. h (suc i)) in
    let whole : sum (x ∷ xs) ≡ x + sum xs = sum_by-cons (λ n. n) x xs in
    omega (arith, first, rest, whole)

pub part : (xs : List ℕ) (i : ℕ) → get_or xs i 0 ≤ sum xs
part xs i = elim (cases_lt i (length xs)) [
  | inl small ↦ get_or-le-sum_by (λ n. n) xs i 0 small
  | inr past ↦ elim (cases_lt 0 (get_or xs i 0)) [ inl some ↦ absurd (omega (arith, within xs i some, past)) | inr none ↦ omega (arith, none) ]
]

without : (xs : List ℕ) (n : ℕ) → n < length xs → sum (set xs n 0) + get_or xs n 0 ≡ sum xs
without xs n small =
    let e : sum (set xs n 0) + get_or xs n 0 ≡ sum xs + 0 = sum_by-set (λ x. x) xs n 0 0 small in
    omega (arith, e)

-- what two have is within the sum
pub both_within : (xs : List ℕ) (n p : ℕ) → (p ≡ n → ⊥) → get_or xs p 0 + get_or xs n 0 ≤ sum xs
both_within xs n p apart = elim (cases_lt n (length xs)) [
  | inl small ↦
      let rest : sum (set xs n 0) + get_or xs n 0 ≡ sum xs = without xs n small in
      let other : get_or (set xs n 0) p 0 ≡ get_or xs p 0 = get_or-set_other xs n p 0 0 apart in
      omega (arith, rest, other, part (set xs n 0) p)
  | inr past ↦ omega (arith, past_end xs n past, part xs p)
]

-- what one has alone no other has
alone : (xs : List ℕ) (n s : ℕ) → get_or xs n 0 ≡ sum xs → (s ≡ n → ⊥) → 0 < get_or xs s 0 → ⊥
alone xs n s all apart some =
    let small : n < length xs = within xs n (omega (arith, some, all, part xs s)) in
    let rest : sum (set xs n 0) + get_or xs n 0 ≡ sum xs = without xs n small in
    let other : get_or (set xs n 0) s 0 ≡ get_or xs s 0 = get_or-set_other xs n s 0 0 apart in
    omega (arith, rest, all, other, some, part (set xs n 0) s)

-- who hasn't all leaves some to another
elsewhere : (xs : List ℕ) (n : ℕ) → n < length xs → get_or xs n 0 < sum xs → ((s : ℕ) → (s ≡ n → ⊥) → 0 < get_or xs s 0 → ⊥) → ⊥
elsewhere xs n small less none =
    let rest : sum (set xs n 0) + get_or xs n 0 ≡ sum xs = without xs n small in
    let zeros : (i : ℕ) → get_or (set xs n 0) i 0 ≡ 0 = λ i. elim (cases_eq i n) [
      | inl same ↦ rw same (get_or-set_same xs n 0 0 small)
      | inr apart ↦ get_or-set_other xs n i 0 0 apart ∙ elim (cases_lt 0 (get_or xs i 0)) [ inl some ↦ absurd (none i apart some) | inr zero_here ↦ omega (arith, zero_here) ]
    ] in
    let nothing : sum (set xs n 0) ≡ 0 = zero_sum (set xs n 0) zeros in
    omega (arith, rest, nothing, less)

-- ---- places

pub above_place : (parents : List (Option ℕ)) (order : List ℕ) (d s n p q : ℕ) → IsOrder parents order → IsAbove parents d s n → slice_get order p ≡ Some s → slice_get order q ≡ Some n → q + d ≤ p
above_place parents order zero s n p q o e at there = omega (arith, o.once p q n (at ∙ ap Some e) there)
above_place parents order (suc d) s n p q o (x, parent, rest) at there =
    let up = o.parents_first p s x at parent in
    let le : q + d ≤ up.0 = above_place parents order d x n up.0 q o rest up.2 there in
    omega (arith, le, up.1)

-- a node that hasn't all the joints isn't over them
not_over : (parents : List (Option ℕ)) (order joints counts : List ℕ) (k n : ℕ) → IsOrder parents order → IsGathering parents order joints counts (k + 1) → slice_get order k ≡ Some n → get_or counts n 0 < length joints → IsAboveAll parents joints n → ⊥
not_over parents order joints counts k n o g at less over =
    elsewhere counts n (omega (arith, o.nodes k n at, g.len)) (omega (arith, less, g.total)) (λ s apart some.
    let up = g.under n s over some in
    let there = g.early s some in
    let le : k + up.0 ≤ there.0 = above_place parents order up.0 s n there.0 k o up.1 there.2 at in
    let same_place : there.0 ≡ k = omega (arith, le, there.1) in
    let both : Some s ≡ Some n = sym there.2 ∙ ap (λ x. slice_get order x) same_place ∙ at in
    apart cc)

-- ---- the first and the next step

pub gathering : (parents : List (Option ℕ)) (order joints counts : List ℕ) → IsOrder parents order → AreCounted (length parents) joints counts (length joints) → IsGathering parents order joints counts (length order)
gathering parents order joints counts o a = record {
  len = a.len;
  total = a.total;
  over = λ k n e. (n, 0, (a.each k n (slice_get_within joints k n e) e).1, refl);
  under = λ m n over some. let from = a.only n some in over from.0 n from.1;
  early = λ n some.
      let there = o.each n (omega (arith, within counts n some, a.len)) in
      (there.0, slice_get_within order there.0 n there.1, there.1);
}

-- who stands at a place before the end, and is another one, stands before the last place
earlier : (order : List ℕ) (k n s q : ℕ) → slice_get order k ≡ Some n → slice_get order q ≡ Some s → q < k + 1 → (s ≡ n → ⊥) → q < k
earlier order k n s q at there small apart = elim (cases_eq q k) [
  | inl same ↦ absurd (apart (let both : Some s ≡ Some n = sym there ∙ ap (λ x. slice_get order x) same ∙ at in cc))
  | inr other ↦ omega (arith, small, other)
]

pub skipped : (parents : List (Option ℕ)) (order joints counts : List ℕ) (k n : ℕ) → IsGathering parents order joints counts (k + 1) → slice_get order k ≡ Some n → get_or counts n 0 ≡ 0 → IsGathering parents order joints counts k
skipped parents order joints counts k n g at none = record {
  len = g.len;
  total = g.total;
  over = g.over;
  under = g.under;
  early = λ s some.
      let there = g.early s some in
      (there.0, earlier order k n s there.0 at there.2 there.1 (λ same. let zero_here : get_or counts s 0 ≡ 0 = rw same none in omega (arith, zero_here, some)), there.2);
}

carried_here : (counts : List ℕ) (n p : ℕ) → n < length counts → get_or (carried counts n p) n 0 ≡ 0
carried_here counts n p small =
    let now : List ℕ = set counts p (get_or counts p 0 + get_or counts n 0) in
    get_or-set_same now n 0 0 (omega (arith, small, length-set counts p (get_or counts p 0 + get_or counts n 0)))

carried_up : (counts : List ℕ) (n p : ℕ) → p < length counts → (p ≡ n → ⊥) → get_or (carried counts n p) p 0 ≡ get_or counts p 0 + get_or counts n 0
carried_up counts n p small apart =
    let more : ℕ = get_or counts p 0 + get_or counts n 0 in
    get_or-set_other (set counts p more) n p 0 0 apart ∙ get_or-set_same counts p more 0 small

carried_other : (counts : List ℕ) (n p s : ℕ) → (s ≡ n → ⊥) → (s ≡ p → ⊥) → get_or (carried counts n p) s 0 ≡ get_or counts s 0
carried_other counts n p s apart other =
    let more : ℕ = get_or counts p 0 + get_or counts n 0 in
    get_or-set_other (set counts p more) n s 0 0 apart ∙ get_or-set_other counts p s more 0 other

carried_total : (counts : List ℕ) (n p : ℕ) → n < length counts → p < length counts → (p ≡ n → ⊥) → sum (carried counts n p) ≡ sum counts
carried_total counts n p small above apart =
    let more : ℕ = get_or counts p 0 + get_or counts n 0 in
    let now : List ℕ = set counts p more in
    let first : sum now + get_or counts p 0 ≡ sum counts + more = sum_by-set (λ x. x) counts p more 0 above in
    let second : sum (set now n 0) + get_or now n 0 ≡ sum now = without now n (omega (arith, small, length-set counts p more)) in
    let here : get_or now n 0 ≡ get_or counts n 0 = get_or-set_other counts p n more 0 (λ e. apart (sym e)) in
    omega (arith, first, second, here)

-- who is over all joints is over the parent too
from_step : (parents : List (Option ℕ)) (joints : List ℕ) (n p m d : ℕ) → IsParent parents n p → (IsAboveAll parents joints n → ⊥) → IsAboveAll parents joints m → IsAbove parents d n m → (d : ℕ) × IsAbove parents d p m
from_step parents joints n p m zero parent without_it over e = absurd (without_it (subst (λ x. IsAboveAll parents joints x) (sym e) over))
from_step parents joints n p m (suc d) parent without_it over (x, up, rest) =
    let both : Some (Some x) ≡ Some (Some p) = sym up ∙ parent in
    let is : x ≡ p = cc in
    (d, subst (λ y. IsAbove parents d y m) is rest)

stepped : (parents : List (Option ℕ)) (order joints counts : List ℕ) (k n p m : ℕ) → IsOrder parents order → IsGathering parents order joints counts (k + 1) → slice_get order k ≡ Some n → IsParent parents n p → 0 < get_or counts n 0 → get_or counts n 0 < length joints → IsAboveAll parents joints m → (d : ℕ) × IsAbove parents d p m
stepped parents order joints counts k n p m o g at parent some less over =
    let up = g.under m n over some in
    from_step parents joints n p m up.0 parent (not_over parents order joints counts k n o g at less) over up.1

pub moved : (parents : List (Option ℕ)) (order joints counts : List ℕ) (k n p : ℕ) → IsOrder parents order → IsGathering parents order joints counts (k + 1) → slice_get order k ≡ Some n → IsParent parents n p → 0 < get_or counts n 0 → get_or counts n 0 < length joints → IsGathering parents order joints (carried counts n p) k
moved parents order joints counts k n p o g at parent some less =
    let up = o.parents_first k n p at parent in
    let small : n < length counts = omega (arith, o.nodes k n at, g.len) in
    let above : p < length counts = omega (arith, o.nodes up.0 p up.2, g.len) in
    let apart : p ≡ n → ⊥ = λ e. let same : k ≡ up.0 = o.once k up.0 n at (up.2 ∙ ap Some e) in omega (arith, same, up.1) in
    let not_here : (s : ℕ) → 0 < get_or (carried counts n p) s 0 → s ≡ n → ⊥ = λ s h e. let zero_here : get_or (carried counts n p) s 0 ≡ 0 = rw e (carried_here counts n p small) in omega (arith, zero_here, h) in
    record {
      len = length-set (set counts p (get_or counts p 0 + get_or counts n 0)) n 0 ∙ length-set counts p (get_or counts p 0 + get_or counts n 0) ∙ g.len;
      total = carried_total counts n p small above apart ∙ g.total;
      over = λ j m e.
          let here = g.over j m e in
          elim (cases_eq here.0 n) [
            | inl same ↦ (p, suc here.1, omega (arith, carried_up counts n p above apart, some), above_more parents here.1 m n p (subst (λ x. IsAbove parents here.1 m x) same here.3) parent)
            | inr other ↦ (
              here.0,
              here.1,
              elim (cases_eq here.0 p) [
                | inl is ↦ subst (λ x. 0 < get_or (carried counts n p) x 0) (sym is) (omega (arith, carried_up counts n p above apart, some))
                | inr far ↦ rw (carried_other counts n p here.0 other far) here.2
              ],
              here.3,
            )
          ];
      under = λ m s over h. elim (cases_eq s p) [
        | inl is ↦ subst (λ x. (d : ℕ) × IsAbove parents d x m) (sym is) (stepped parents order joints counts k n p m o g at parent some less over)
        | inr far ↦ g.under m s over (subst (λ x. 0 < x) (carried_other counts n p s (not_here s h) far) h)
      ];
      early = λ s h. elim (cases_eq s p) [
        | inl is ↦ (up.0, up.1, up.2 ∙ ap Some (sym is))
        | inr far ↦
            let there = g.early s (subst (λ x. 0 < x) (carried_other counts n p s (not_here s h) far) h) in
            (there.0, earlier order k n s there.0 at there.2 there.1 (not_here s h), there.2)
      ];
    }

-- ---- where it ends

pub found : (parents : List (Option ℕ)) (order joints counts : List ℕ) (b n : ℕ) → IsGathering parents order joints counts b → get_or counts n 0 ≡ length joints → 0 < length joints → IsRootOrNone parents joints (Some n)
found parents order joints counts b n g all some = (
  some,
  (λ k j e.
      let here = g.over k j e in
      elim (cases_eq here.0 n) [
        | inl same ↦ (here.1, subst (λ x. IsAbove parents here.1 j x) same here.3)
        | inr apart ↦ absurd (alone counts n here.0 (all ∙ sym g.total) apart here.2)
      ]),
  λ a over. g.under a n over (omega (arith, all, some)),
)

from_root : (parents : List (Option ℕ)) (joints : List ℕ) (n m d : ℕ) → slice_get parents n ≡ Some None → (IsAboveAll parents joints n → ⊥) → IsAboveAll parents joints m → IsAbove parents d n m → ⊥
from_root parents joints n m zero root without_it over e = without_it (subst (λ x. IsAboveAll parents joints x) (sym e) over)
from_root parents joints n m (suc d) root without_it over (x, up, rest) = let both : Some (Some x) ≡ Some None = sym up ∙ root in cc

pub apart_trees : (parents : List (Option ℕ)) (order joints counts : List ℕ) (k n : ℕ) → IsOrder parents order → IsGathering parents order joints counts (k + 1) → slice_get order k ≡ Some n → slice_get parents n ≡ Some None → 0 < get_or counts n 0 → get_or counts n 0 < length joints → IsRootOrNone parents joints None
apart_trees parents order joints counts k n o g at root some less =
    inr (λ m over.
    let up = g.under m n over some in
    from_root parents joints n m up.0 root (not_over parents order joints counts k n o g at less) over up.1)

pub none_left : (parents : List (Option ℕ)) (order joints counts : List ℕ) (b : ℕ) → IsGathering parents order joints counts b → b ≡ 0 → 0 < length joints → IsRootOrNone parents joints None
none_left parents order joints counts b g e some =
    let here = g.over 0 (get_or joints 0 0) (slice_get-get_or joints 0 0 some) in
    let there = g.early here.0 here.2 in
    absurd (omega (arith, there.1, e))
