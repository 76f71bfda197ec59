use Rattle.std.proofs.Common.{rules, ◌≡◌, ℕ, ◌<◌, ◌-◌, List, [], ◌∷◌, ◌++◌, length, get_or, Option, Some, sym, ◌∙◌, ap, subst, arith, inl, inr, ◌⊎◌}
use Rattle.std.proofs.Math.ListN.{set}
use Rattle.std.proofs.lemmas.Grind.{get_or_default_zero}
use Rattle.gltf_hierarchy.specs.Sorting.{parent_of}
use Rattle.gltf_hierarchy.specs.Trailing.{IsClimb, IsNext, IsTop}
use Rattle.gltf_hierarchy.proofs.Above.{parent_read}
use Rattle.gltf_hierarchy.proofs.Steps.{length_more}
use Rattle.gltf_hierarchy.proofs.Trailing.{pushed_climb, next_up, begun_more}
use Rattle.gltf_hierarchy.proofs.cycles.Trail.climb.Goals as goal

from_read : (xs : List ℕ) (i x : ℕ) → i < length xs → x ≡ get_or xs i x → get_or xs i 0 ≡ x
from_read xs i x h e = sym (get_or_default_zero xs i x h) ∙ sym e

-- a node of this climb closes a cycle
closes : (parents : List (Option ℕ)) (base : ℕ) (old steps nodes : List ℕ) (n step : ℕ) → IsClimb parents base old steps nodes → IsNext parents nodes base (Some n) → get_or steps n 0 ≡ step → base < step → IsTop parents base steps nodes (Some (step - 1))
closes parents base old steps nodes n step c ahead e h =
    let f = c.trail.found n (omega (arith, e, h)) in
    let is : get_or nodes (step - 1) 0 ≡ n = ap (λ x. get_or nodes (x - 1) 0) (sym e) ∙ f.1 in
    (omega (arith, h), omega (arith, f.0, e, h), subst (λ x. IsNext parents nodes base (Some x)) (sym is) ahead)

reached : (steps nodes : List ℕ) (base n start : ℕ) (next : Option ℕ) → next ≡ Some n → 0 < get_or steps n 0 → (((length nodes ≡ base) × (next ≡ Some start)) ⊎ (0 < get_or steps start 0)) → 0 < get_or steps start 0
reached steps nodes base n start next here some begun = elim begun [
  | inl b ↦ (let both : Some n ≡ Some start = sym here ∙ b.1 in let is : n ≡ start = cc in subst (λ x. 0 < get_or steps x 0) is some)
  | inr b ↦ b
]

climb_more : (parents : List (Option ℕ)) (base : ℕ) (old steps nodes new : List ℕ) (n len : ℕ) → IsClimb parents base old steps nodes → IsNext parents nodes base (Some n) → n < length parents → get_or steps n 0 ≡ 0 → new ≡ nodes ++ n ∷ [] → len ≡ length new → IsClimb parents base old (set steps n len) new
climb_more parents base old steps nodes new n len c ahead small unstepped now count = rw (count, now, length_more nodes n) (pushed_climb parents base old steps nodes n c ahead small unstepped)

next_more : (parents : List (Option ℕ)) (base : ℕ) (nodes new : List ℕ) (n : ℕ) → new ≡ nodes ++ n ∷ [] → IsNext parents new base (parent_of parents n)
next_more parents base nodes new n now = rw now (next_up parents base nodes n)

start_more : (steps nodes new : List ℕ) (base n start len : ℕ) (next : Option ℕ) → n < length steps → next ≡ Some n → (((length nodes ≡ base) × (next ≡ Some start)) ⊎ (0 < get_or steps start 0)) → new ≡ nodes ++ n ∷ [] → len ≡ length new → 0 < get_or (set steps n len) start 0
start_more steps nodes new base n start len next small here begun now count = rw (count, now, length_more nodes n) (begun_more steps nodes base n start next small here begun)

pub returns-then-step-base : goal.returns-then-step-base
returns-then-step-base c =
    let inv = c.loop-at.invariant.1 in
    let base : c.len-base.result ≡ length c.args.self.now.nodes.items = c.loop-at.invariant.0 in
    let small : c.in-Some.node < length c.args.parents.now = inv.node c.in-Some.node c.in-Some.is in
    let step = from_read c.loop-at.self.steps.items c.in-Some.node c.index-step.result.now (omega (arith, inv.climb.trail.len)) c.index-step.ensures in
    let later : length c.args.self.now.nodes.items < c.index-step.result.now = omega (arith, base, c.if-step-base.true) in
    record {
      climb = inv.climb;
      reached = reached c.loop-at.self.steps.items c.loop-at.self.nodes.items (length c.args.self.now.nodes.items) c.in-Some.node c.args.start c.loop-at.at c.in-Some.is (omega (arith, step, later)) inv.begun;
      top = closes c.args.parents.now (length c.args.self.now.nodes.items) c.args.self.now.steps.items c.loop-at.self.steps.items c.loop-at.self.nodes.items c.in-Some.node c.index-step.result.now inv.climb (λ j h e. inv.ahead j h e ∙ c.in-Some.is) step later;
    }

pub loop-at-preserved : goal.loop-at-preserved
loop-at-preserved c =
    let inv = c.loop-at.invariant.1 in
    let base : ℕ = length c.args.self.now.nodes.items in
    let n : ℕ = c.in-Some.node in
    let small : n < length c.args.parents.now = inv.node n c.in-Some.is in
    let unstepped = from_read c.loop-at.self.steps.items n c.index-step.result.now (omega (arith, inv.climb.trail.len)) c.index-step.ensures ∙ c.if-step-ne0.false in
    let now : c.push.new.self.items ≡ c.loop-at.self.nodes.items ++ n ∷ [] = search rules in
    let count : c.len.result ≡ length c.push.new.self.items = c.len.ensures ∙ c.push.new.self.ok.0 in (
      c.loop-at.invariant.0,
      record {
        climb = climb_more c.args.parents.now base c.args.self.now.steps.items c.loop-at.self.steps.items c.loop-at.self.nodes.items c.push.new.self.items n c.len.result inv.climb (λ j h e. inv.ahead j h e ∙ c.in-Some.is) small unstepped now count;
        ahead = next_more c.args.parents.now base c.loop-at.self.nodes.items c.push.new.self.items n now;
        node = λ p h. c.requires.nodes n p (parent_read c.args.parents.now n p h);
        begun = inr (start_more c.loop-at.self.steps.items c.loop-at.self.nodes.items c.push.new.self.items base n c.args.start c.len.result c.loop-at.at (omega (arith, small, inv.climb.trail.len)) c.in-Some.is inv.begun now count);
      },
    )
