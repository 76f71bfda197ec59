-- The nodes that are left mark all.
use Rattle.std.proofs.Common.{◌≡◌, drop}
use Rattle.gltf_findings_codes.specs.Marks.{mark_some}
use Rattle.gltf_findings.specs.Uses.{camera_marks, mesh_marks, default_marks, skin_marks}
use Rattle.gltf_findings_rules.specs.Marking.{marked_by, default_weight_marks}
use Rattle.gltf_findings.proofs.uses.node_marks.Given as goal

abbrev pub invariant-loop-node : goal.invariant-loop-node
invariant-loop-node l = record {
  cameras : marked_by (λ x marks. mark_some marks x.camera) (drop l.node-index l.root.nodes.items) l.cameras.items ≡ camera_marks l.root;
  meshes : marked_by (λ x marks. mark_some marks x.mesh) (drop l.node-index l.root.nodes.items) l.meshes.items ≡ mesh_marks l.root;
  defaults : marked_by default_weight_marks (drop l.node-index l.root.nodes.items) l.defaults.items ≡ default_marks l.root;
  skins : marked_by (λ x marks. mark_some marks x.skin) (drop l.node-index l.root.nodes.items) l.skins.items ≡ skin_marks l.root;
}
