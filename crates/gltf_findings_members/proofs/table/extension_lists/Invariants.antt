-- The nodes that are left give all lists.
use Rattle.std.proofs.Common.{◌≡◌, ◌++◌, drop}
use Rattle.gltf_findings_members.specs.Format.{extension_lists, lists_in}
use Rattle.gltf_findings_members.proofs.table.extension_lists.Given as goal

abbrev pub invariant-loop-shape : goal.invariant-loop-shape
invariant-loop-shape l = lists_in l.known.items ++ extension_lists l.nodes (drop l.shape-index l.nodes) ≡ extension_lists l.nodes l.nodes
