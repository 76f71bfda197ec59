-- The meshes that are left mark all.
use Rattle.std.proofs.Common.{◌≡◌, drop}
use Rattle.gltf_findings.specs.Uses.{attribute_marks, index_marks}
use Rattle.gltf_findings_rules.specs.Marking.{marked_by, mesh_attribute_marks, mesh_index_marks}
use Rattle.gltf_findings.proofs.uses.usage_marks.Given as goal

abbrev pub invariant-loop-mesh : goal.invariant-loop-mesh
invariant-loop-mesh l = record {
  attributes : marked_by mesh_attribute_marks (drop l.mesh-index l.root.meshes.items) l.attributes.items ≡ attribute_marks l.root;
  indices : marked_by mesh_index_marks (drop l.mesh-index l.root.meshes.items) l.indices.items ≡ index_marks l.root;
}
