-- A path has room for every place of a document.
use Rattle.std.proofs.Common.{lit≤}
use Rattle.gltf_root.specs.RootDerived.{root_height}
use Rattle.gltf_validation_walk.proofs.walk.Walk.with_rules.Goals as goal

pub new-requires-2 : goal.new-requires-2
new-requires-2 c = rw root_height.1 (lit≤ tt)
