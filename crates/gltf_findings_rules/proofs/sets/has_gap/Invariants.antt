-- No set before has a number that is too large.
use Rattle.std.proofs.Common.{◌≡◌, drop, length}
use Rattle.gltf_findings_rules.specs.Sets.{any_from}
use Rattle.gltf_findings_rules.proofs.sets.has_gap.Given as goal

abbrev pub invariant-loop-set : goal.invariant-loop-set
invariant-loop-set l = any_from (length l.sets) l.sets ≡ any_from (length l.sets) (drop l.set-index l.sets)
