-- The item at the number, or none past the last.
use Rattle.std.proofs.Common.{rules}
use Rattle.gltf_schema.specs.Tree.{absent}
use Rattle.gltf_validation_objects.specs.ChecklistOf.{checklist}
use Rattle.gltf_validation_objects.proofs.Items.{item_comes, items_end}
use Rattle.gltf_validation_objects.proofs.lists.item_at.Goals as goal

pub returns-in-Some-clause-comes : goal.returns-in-Some-clause-comes
returns-in-Some-clause-comes g c =
    let v = g.T.Visitable in
    let context = g.C.HasContext.context c.args.context.now in
    c.item.ensures _ (item_comes (λ t. checklist v.kind t context absent) v.tree c.args.items.now.items _ c.args.number c.in-Some.item.now (search rules) c.in-Some.ensures.lookup.3.0 c.in-Some.ensures.lookup.1)

pub returns-in-None-clause-comes : goal.returns-in-None-clause-comes
returns-in-None-clause-comes g c =
    let v = g.T.Visitable in
    let context = g.C.HasContext.context c.args.context.now in
    c.end.ensures.comes context _ (items_end (λ t. checklist v.kind t context absent) v.tree c.args.items.now.items c.args.number (search rules))
