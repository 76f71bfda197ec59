-- An item that isn't quiet decides; past the last one all were quiet.
use Rattle.std.proofs.Common.{◌≡◌, ◌∙◌, sym, rules, arith, true, false}
use Rattle.gltf_schema.specs.Tree.{Tree, absent}
use Rattle.gltf_validation_objects.specs.Checklist.{Checklist}
use Rattle.gltf_validation_objects.specs.ChecklistOf.{checklist}
use Rattle.gltf_validation_objects.proofs.QuietChecklists.{quiet_item, loud_item, past_items}
use Rattle.gltf_validation_objects.proofs.quiet.are_quiet.Goals as goal

pub loop-item-preserved : goal.loop-item-preserved
loop-item-preserved g c =
    let v = g.T.Visitable in
    let f : Tree → Checklist = λ t. checklist v.kind t (g.C.HasContext.context c.args.context.now) absent in
    let yes : c.is_quiet.result ≡ true = search rules in
    quiet_item f v.tree c.args.items.now.items c.loop-item.item-index c.item-item.result (omega arith) (search rules) (sym c.is_quiet.ensures ∙ yes) ∙ c.loop-item.invariant

pub returns-then-not-is_quiet : goal.returns-then-not-is_quiet
returns-then-not-is_quiet g c =
    let v = g.T.Visitable in
    let f : Tree → Checklist = λ t. checklist v.kind t (g.C.HasContext.context c.args.context.now) absent in
    let no : c.is_quiet.result ≡ false = search rules in
    loud_item f v.tree c.args.items.now.items c.loop-item.item-index c.item-item.result (omega arith) (search rules) (sym c.is_quiet.ensures ∙ no) c.loop-item.invariant

pub returns : goal.returns
returns g c =
    let v = g.T.Visitable in
    let f : Tree → Checklist = λ t. checklist v.kind t (g.C.HasContext.context c.args.context.now) absent in
    past_items f v.tree c.args.items.now.items c.loop-item.item-index (omega arith) c.loop-item.invariant
