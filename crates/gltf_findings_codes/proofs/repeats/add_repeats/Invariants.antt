-- The numbers that are left give all findings.
use Rattle.std.proofs.Common.{◌≡◌, ◌++◌, [], drop, map}
use Rattle.gltf_base.specs.Indexes.{index_number}
use Rattle.gltf_findings_codes.specs.Repeats.{repeat_findings}
use Rattle.gltf_findings_codes.proofs.repeats.add_repeats.Given as goal

abbrev pub invariant-loop-number : goal.invariant-loop-number
invariant-loop-number g l = l.to.items ++ repeat_findings l.object l.name l.before.keys l.number (map index_number (drop l.number l.indexes)) ≡ l.fn.to.items ++ repeat_findings l.object l.name [] 0 (map index_number l.indexes)
