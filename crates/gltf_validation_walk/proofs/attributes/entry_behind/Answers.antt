-- The entry is the first of the map's range behind the key, or of the map.
use Rattle.std.proofs.Common.{rules}
use Rattle.gltf_validation_walk.proofs.AttributesBehind.{all_come, range_comes}
use Rattle.gltf_validation_walk.proofs.attributes.entry_behind.Goals as goal

pub returns-in-Some : goal.returns-in-Some
returns-in-Some c =
    let range = c.range.ensures in
    rw c.in-Some.is (range_comes _ (λ a b. search rules) c.in-Some.key c.args.attributes.now.entries c.range.result c.next.new.self c.next.result range.ordered (range.between tt) c.next.ensures.steps)

pub returns-in-None : goal.returns-in-None
returns-in-None c =
    let next = c.next-in-None in
    rw c.in-None.is (all_come _ (λ a b. search rules) c.args.attributes.now.entries c.iter.result next.new.self next.result c.iter.ensures.ordered c.iter.ensures.rest next.ensures.steps)
