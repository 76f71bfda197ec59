use Rattle.std.proofs.Common.{◌≡◌, ℕ, ◌<◌, ◌+◌, List, get_or, Some, sym, ◌∙◌, ap, subst, arith, inl, inr}
use Rattle.std.specs.Prelude.{slice_get, sum}
use Rattle.std.proofs.Math.ListN.{set, length-set}
use Rattle.std.proofs.lemmas.List.{get_or-set_same, get_or-set_other}
use Rattle.std.proofs.lemmas.List.Sums.{sum_by-set}
use Rattle.std.proofs.lemmas.Bool.{cases_eq}
use Rattle.std.proofs.lemmas.Grind.{get_or_default_zero}
use Rattle.std.proofs.lemmas.Option.{slice_get-get_or}
use Rattle.gltf_hierarchy.specs.Gathering.{AreCounted}
use Rattle.gltf_hierarchy.proofs.joints.counts_of.Goals as goal

-- one more joint is counted
counted : (count : ℕ) (joints counts : List ℕ) (b n : ℕ) → AreCounted count joints counts b → slice_get joints b ≡ Some n → n < count → AreCounted count joints (set counts n (get_or counts n 0 + 1)) (b + 1)
counted count joints counts b n a at small =
    let x : ℕ = get_or counts n 0 + 1 in
    let here : get_or (set counts n x) n 0 ≡ x = get_or-set_same counts n x 0 (omega (arith, small, a.len)) in
    let total : sum (set counts n x) + get_or counts n 0 ≡ sum counts + x = sum_by-set (λ y. y) counts n x 0 (omega (arith, small, a.len)) in
    record {
      len = length-set counts n x ∙ a.len;
      total = omega (arith, total, a.total);
      each = λ k m h e. elim (cases_eq m n) [
        | inl same ↦ (omega (arith, same, small), subst (λ y. 0 < get_or (set counts n x) y 0) (sym same) (omega (arith, here)))
        | inr apart ↦
            let early : k < b = elim (cases_eq k b) [
              | inl is ↦ absurd (apart (let both : Some m ≡ Some n = sym e ∙ ap (λ y. slice_get joints y) is ∙ at in cc))
              | inr other ↦ omega (arith, h, other)
            ] in
            let before = a.each k m early e in
            (before.0, rw (get_or-set_other counts n m x 0 apart) before.1)
      ];
      only = λ m some. elim (cases_eq m n) [
        | inl same ↦ (b, at ∙ ap Some (sym same))
        | inr apart ↦ a.only m (subst (λ y. 0 < y) (get_or-set_other counts n m x 0 apart) some)
      ];
    }

pub returns-then-joint-count-clause-fault : goal.returns-then-joint-count-clause-fault
returns-then-joint-count-clause-fault c =
    (slice_get-get_or c.args.joints.now c.loop-place.place 0 (omega arith), c.if-joint-count.true, λ k m h e. (c.loop-place.invariant.each k m h e).0)

pub loop-place-preserved : goal.loop-place-preserved
loop-place-preserved c =
    let n : ℕ = get_or c.args.joints.now c.loop-place.place 0 in
    let read : get_or c.loop-place.counts.items n 0 ≡ c.index_mut.result.now = sym (get_or_default_zero c.loop-place.counts.items n c.index_mut.result.now (omega (arith, c.if-joint-count.false, c.loop-place.invariant.len))) ∙ sym c.index_mut.ensures.value in
    subst (λ x. AreCounted c.args.count c.args.joints.now (set c.loop-place.counts.items n (x + 1)) (c.loop-place.place + 1)) read (counted c.args.count c.args.joints.now c.loop-place.counts.items c.loop-place.place n c.loop-place.invariant (slice_get-get_or c.args.joints.now c.loop-place.place 0 (omega arith)) c.if-joint-count.false)

pub returns-clause-counted : goal.returns-clause-counted
returns-clause-counted c = subst (λ b. AreCounted c.args.count c.args.joints.now c.loop-place.counts.items b) (omega arith) c.loop-place.invariant
