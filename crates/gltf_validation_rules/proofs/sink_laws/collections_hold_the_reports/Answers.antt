use Rattle.std.proofs.Common.{[]}
use Rattle.gltf_validation_rules.proofs.Collecting.{collected}
use Rattle.gltf_validation_rules.proofs.sink_laws.collections_hold_the_reports.Goals as goal

pub returns-clause-from_none : goal.returns-clause-from_none
returns-clause-from_none c rs = collected [] rs

pub returns-clause-from_some : goal.returns-clause-from_some
returns-clause-from_some c held rs = collected held rs
