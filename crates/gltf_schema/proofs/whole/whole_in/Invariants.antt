use Rattle.std.proofs.Common.{◌-◌}
use Rattle.gltf_schema.proofs.Digits.{Reads}
use Rattle.gltf_schema.proofs.whole.whole_in.Given as goal

abbrev pub invariant-loop-i : goal.invariant-loop-i
invariant-loop-i l = Reads l.bytes l.i l.value

abbrev pub decreases-loop-i : goal.decreases-loop-i
decreases-loop-i l = l.n - l.i
