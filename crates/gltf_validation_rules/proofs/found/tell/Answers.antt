-- A sink that refuses the one report.
use Rattle.gltf_validation_rules.proofs.Walks.{walked_refused}
use Rattle.gltf_validation_rules.proofs.found.tell.Goals as goal

pub returns-in-Err : goal.returns-in-Err
returns-in-Err g c = rw c.in-Some.is (walked_refused c.args.path.now _ _ _ 0 _ c.in-Err.ensures.refused)
