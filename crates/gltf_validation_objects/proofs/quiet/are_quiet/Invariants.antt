-- The items that are to come decide.
use Rattle.std.proofs.Common.{◌≡◌, drop}
use Rattle.gltf_schema.specs.Tree.{Tree, absent}
use Rattle.gltf_validation_objects.specs.Checklist.{Checklist}
use Rattle.gltf_validation_objects.specs.ChecklistOf.{checklist}
use Rattle.gltf_validation_objects.proofs.QuietChecklists.{items_quiet}
use Rattle.gltf_validation_objects.proofs.quiet.are_quiet.Given as goal

abbrev pub invariant-loop-item : goal.invariant-loop-item
invariant-loop-item g l =
    let v = g.T.Visitable in
    let f : Tree → Checklist = λ t. checklist v.kind t (g.C.HasContext.context l.context) absent in
    items_quiet f v.tree (drop l.item-index l.items.items) ≡ items_quiet f v.tree l.items.items
