use Rattle.std.proofs.Common.{rules, ◌≡◌, ℕ, suc, ◌<◌, ◌+◌, ◌-◌, List, [], ◌∷◌, ◌++◌, length, Option, Some, None, arith, refl, sym, ◌∙◌, ap, get_or, inl, inr, ◌⊎◌}
use Rattle.std.proofs.Math.ListN.{set}
use Rattle.std.proofs.lemmas.Grind.{get_or_default_zero}
use Rattle.std.proofs.lemmas.List.{get_or-set_same, get_or-set_other}
use Rattle.std.proofs.lemmas.Bool.{cases_eq}
use Rattle.gltf_hierarchy.specs.Sorting.{AreSorted, IsAt}
use Rattle.gltf_hierarchy.specs.Order.{AreNodes, IsAbove}
use Rattle.gltf_hierarchy.proofs.Above.{round, parent_read}
use Rattle.gltf_hierarchy.proofs.Steps.{pushed, last_read, length_more}
use Rattle.gltf_hierarchy.proofs.sorter.Sorter.climb.Goals as goal

-- what was read is what the definitions read
from_read : (xs : List ℕ) (i x : ℕ) → i < length xs → x ≡ get_or xs i x → get_or xs i 0 ≡ x
from_read xs i x h e = sym (get_or_default_zero xs i x h) ∙ sym e

-- the node is in the chain
round_here : (parents : List (Option ℕ)) (places steps order chain : List ℕ) (n : ℕ) → AreSorted parents places steps order chain → 0 < get_or steps n 0 → get_or places n 0 ≡ 0 → IsAt parents chain (Some n) → (k : ℕ) × IsAbove parents (suc k) n n
round_here parents places steps order chain n s stepped unplaced at =
    let f = s.found n stepped unplaced in
    round parents chain (get_or steps n 0 - 1) n s.linked (omega (arith, f.0, stepped)) f.1 at

pub returns-then-index-ne0-2-clause-cyclic : goal.returns-then-index-ne0-2-clause-cyclic
returns-then-index-ne0-2-clause-cyclic c =
    let inv = c.loop-at.invariant in
    let small : c.in-Some.node < length c.args.parents.now = inv.node c.in-Some.node c.in-Some.is in
    let step = from_read c.loop-at.self.steps.items c.in-Some.node c.index-in-Some.result.now (omega (arith, inv.holds.steps_len)) c.index-in-Some.ensures in
    let unplaced = from_read c.loop-at.self.places.items c.in-Some.node c.index.result.now (omega (arith, inv.holds.places_len)) c.index.ensures ∙ c.if-index-ne0.false in
    round_here c.args.parents.now c.loop-at.self.places.items c.loop-at.self.steps.items c.loop-at.self.order.items c.loop-at.self.chain.items c.in-Some.node inv.holds
    (omega (arith, step, c.if-index-ne0-2.true)) unplaced (λ j e. inv.at j e ∙ c.in-Some.is)

-- the parent of the node that joined the chain
at_last : (parents : List (Option ℕ)) (chain new : List ℕ) (n : ℕ) → new ≡ chain ++ n ∷ [] → IsAt parents new (get_or parents n None)
at_last parents chain new n e j last =
    let here : get_or new j 0 ≡ n = rw e (last_read chain n j (let l : length new ≡ length (chain ++ n ∷ []) = ap length e in omega (arith, l, last, length_more chain n))) in
    rw here refl

parent_is_node : (parents : List (Option ℕ)) (n p : ℕ) → AreNodes parents → get_or parents n None ≡ Some p → p < length parents
parent_is_node parents n p nodes h = nodes n p (parent_read parents n p h)

begun_more : (parents : List (Option ℕ)) (places steps order chain : List ℕ) (n start : ℕ) (at : Option ℕ) → n < length steps → at ≡ Some n → (((length chain ≡ 0) × (at ≡ Some start)) ⊎ (0 < get_or steps start 0)) → 0 < get_or (set steps n (length chain + 1)) start 0
begun_more parents places steps order chain n start at small here begun = elim (cases_eq start n) [
  | inl e ↦ rw (e, get_or-set_same steps n (length chain + 1) 0 small) (omega arith)
  | inr apart ↦ elim begun [ inl b ↦ absurd (apart (let both : Some start ≡ Some n = sym b.1 ∙ here in cc)) | inr b ↦ rw (get_or-set_other steps n start (length chain + 1) 0 apart) b ]
]

sorted_more : (parents : List (Option ℕ)) (places steps order chain new : List ℕ) (n len : ℕ) → AreSorted parents places steps order chain → n < length parents → get_or places n 0 ≡ 0 → get_or steps n 0 ≡ 0 → IsAt parents chain (Some n) → new ≡ chain ++ n ∷ [] → len ≡ length new → AreSorted parents places (set steps n len) order new
sorted_more parents places steps order chain new n len s small unplaced unstepped at now count = rw (count, now, length_more chain n) (pushed parents places steps order chain n s small unplaced unstepped at)

pub loop-at-preserved : goal.loop-at-preserved
loop-at-preserved c =
    let inv = c.loop-at.invariant in
    let small : c.in-Some.node < length c.args.parents.now = inv.node c.in-Some.node c.in-Some.is in
    let unstepped = from_read c.loop-at.self.steps.items c.in-Some.node c.index-in-Some.result.now (omega (arith, inv.holds.steps_len)) c.index-in-Some.ensures ∙ c.if-index-ne0-2.false in
    let unplaced = from_read c.loop-at.self.places.items c.in-Some.node c.index.result.now (omega (arith, inv.holds.places_len)) c.index.ensures ∙ c.if-index-ne0.false in
    let now : c.push.new.self.items ≡ c.loop-at.self.chain.items ++ c.in-Some.node ∷ [] = search rules in
    let count : c.len.result ≡ length c.push.new.self.items = c.len.ensures ∙ c.push.new.self.ok.0 in
    record {
      holds = sorted_more c.args.parents.now c.loop-at.self.places.items c.loop-at.self.steps.items c.loop-at.self.order.items c.loop-at.self.chain.items c.push.new.self.items c.in-Some.node c.len.result inv.holds small unplaced unstepped (λ j e. inv.at j e ∙ c.in-Some.is) now count;
      at = at_last c.args.parents.now c.loop-at.self.chain.items c.push.new.self.items c.in-Some.node now;
      node = λ n. parent_is_node c.args.parents.now c.in-Some.node n c.requires.nodes;
      kept = inv.kept;
      begun = inr (rw (count, now, length_more c.loop-at.self.chain.items c.in-Some.node) (begun_more c.args.parents.now c.loop-at.self.places.items c.loop-at.self.steps.items c.loop-at.self.order.items c.loop-at.self.chain.items c.in-Some.node c.args.start c.loop-at.at (omega (arith, inv.holds.steps_len)) c.in-Some.is inv.begun));
    }
