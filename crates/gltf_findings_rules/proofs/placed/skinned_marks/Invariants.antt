-- The meshes that are left give the other marks.
use Rattle.std.proofs.Common.{◌≡◌, ◌++◌, drop}
use Rattle.gltf_findings_rules.specs.Placed.{skinned_marks}
use Rattle.gltf_findings_rules.proofs.placed.skinned_marks.Given as goal

abbrev pub invariant-loop-mesh : goal.invariant-loop-mesh
invariant-loop-mesh l = l.marks.items ++ skinned_marks (drop l.mesh-index l.meshes) ≡ skinned_marks l.meshes
