-- The items that are left mark all.
use Rattle.std.proofs.Common.{◌≡◌, drop}
use Rattle.gltf_findings_rules.specs.Marking.{marked_by}
use Rattle.gltf_findings_rules.proofs.marking.mark_items.Given as goal

abbrev pub invariant-loop-item : goal.invariant-loop-item
invariant-loop-item g l = marked_by (g.M.Marking.marked l.marking) (drop l.item-index l.items) l.marks.items ≡ marked_by (g.M.Marking.marked l.marking) l.items l.fn.marks.items
