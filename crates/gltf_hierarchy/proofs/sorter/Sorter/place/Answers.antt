use Rattle.std.proofs.Common.{rules, ◌≡◌, ℕ, List, [], ◌∷◌, ◌++◌, length, Option, ◌∙◌, ap, subst}
use Rattle.std.proofs.Math.ListN.{set}
use Rattle.gltf_hierarchy.specs.Sorting.{AreSorted, IsTopped}
use Rattle.gltf_hierarchy.proofs.Steps.{popped, popped_topped, popped_more, length_more}
use Rattle.gltf_hierarchy.proofs.sorter.Sorter.place.Goals as goal

popped_now : (parents : List (Option ℕ)) (places steps order chain old new : List ℕ) (n len : ℕ) → AreSorted parents places steps order old → IsTopped parents places old → old ≡ chain ++ n ∷ [] → new ≡ order ++ n ∷ [] → len ≡ length new → AreSorted parents (set places n len) steps new chain × IsTopped parents (set places n len) chain
popped_now parents places steps order chain old new n len s topped was now count =
    let s' = subst (λ xs. AreSorted parents places steps order xs) was s in
    let topped' = subst (λ xs. IsTopped parents places xs) was topped in
    rw (count, now, length_more order n) (popped parents places steps order chain n s' topped', popped_topped parents places steps order chain n s')

pub loop-node-preserved : goal.loop-node-preserved
loop-node-preserved c =
    let inv = c.loop-node.invariant in
    let count : c.len.result ≡ length c.push.new.self.items = c.len.ensures ∙ c.push.new.self.ok.0 in
    let both = popped_now c.args.parents.now c.loop-node.self.places.items c.loop-node.self.steps.items c.loop-node.self.order.items c.pop.new.self.items c.loop-node.self.chain.items c.push.new.self.items c.in-Some.node c.len.result inv.climbed.holds inv.climbed.topped (search rules) c.in_ok-push.ensures.items count in
    record { climbed = record { holds = both.0; topped = both.1 }; more = λ n h. rw (count, ap length c.in_ok-push.ensures.items, length_more) (popped_more c.loop-node.self.places.items c.in-Some.node (length c.loop-node.self.order.items) n (inv.more n h)); kept = inv.kept }
