-- A move that isn't quiet decides; at the end all were quiet.
use Rattle.std.proofs.Common.{◌∙◌}
use Rattle.gltf_schema.specs.Tree.{absent}
use Rattle.gltf_validation_objects.specs.Checklist.{rest_after}
use Rattle.gltf_validation_objects.specs.ChecklistOf.{checklist}
use Rattle.gltf_validation_objects.proofs.QuietChecklists.{passed, stopped, ended}
use Rattle.gltf_validation_objects.proofs.quiet.is_object_quiet.Goals as goal

pub loop-number-preserved : goal.loop-number-preserved
loop-number-preserved g c =
    let v = g.T.Visitable in
    let whole = checklist v.kind (v.tree c.args.object.now) (g.C.HasContext.context c.args.context.now) absent in
    passed whole c.loop-number.number c.in-Quiet.ensures.comes ∙ c.loop-number.invariant

pub returns-in-Faulty : goal.returns-in-Faulty
returns-in-Faulty g c =
    let v = g.T.Visitable in
    let whole = checklist v.kind (v.tree c.args.object.now) (g.C.HasContext.context c.args.context.now) absent in
    stopped (rest_after whole c.loop-number.number) c.in-Faulty.ensures.comes ∙ c.loop-number.invariant

pub returns-in-Over : goal.returns-in-Over
returns-in-Over g c =
    let v = g.T.Visitable in
    let whole = checklist v.kind (v.tree c.args.object.now) (g.C.HasContext.context c.args.context.now) absent in
    ended (rest_after whole c.loop-number.number) c.in-Over.ensures.comes ∙ c.loop-number.invariant
