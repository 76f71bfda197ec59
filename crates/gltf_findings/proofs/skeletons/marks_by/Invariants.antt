use Rattle.gltf_findings.specs.Rooting.{AreMarksBy}
use Rattle.gltf_findings.proofs.skeletons.marks_by.Given as goal

abbrev pub invariant-loop-number : goal.invariant-loop-number
invariant-loop-number l = AreMarksBy l.subtrees l.count l.skins l.marks.apart.items l.marks.astray.items l.number
