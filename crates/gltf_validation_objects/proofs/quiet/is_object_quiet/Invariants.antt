-- The moves that are to come decide.
use Rattle.std.proofs.Common.{◌≡◌, ◌-◌, ◌^◌}
use Rattle.gltf_schema.specs.Tree.{absent}
use Rattle.gltf_validation_objects.specs.Checklist.{quiet, rest_after}
use Rattle.gltf_validation_objects.specs.ChecklistOf.{checklist}
use Rattle.gltf_validation_objects.proofs.quiet.is_object_quiet.Given as goal

abbrev pub invariant-loop-number : goal.invariant-loop-number
invariant-loop-number g l =
    let v = g.T.Visitable in
    let whole = checklist v.kind (v.tree l.object) (g.C.HasContext.context l.context) absent in
    quiet (rest_after whole l.number) ≡ quiet whole

abbrev pub decreases-loop-number : goal.decreases-loop-number
decreases-loop-number g l = 2 ^ 64 - l.number
