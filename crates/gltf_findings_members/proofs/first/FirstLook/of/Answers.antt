-- The rows are those of the outline's type.
use Rattle.std.proofs.Common.{◌≡◌, Some, arith}
use Rattle.std.specs.Prelude.{slice_get}
use Rattle.gltf_schema.specs.declared.outline.Shape.TheVariants.{Object}
use Rattle.gltf_findings_members.proofs.first.FirstLook.of.Goals as goal

pub look_first-requires : goal.look_first-requires
look_first-requires c =
    let o = c.args.outline.now in
    let shape : slice_get o.nodes.items o.root ≡ Some (Object c.in-Some-Object.rows c.in-Some-Object.field-0-1) = grind arith in
    (c.in-Some-Object.rows, c.in-Some-Object.field-0-1, shape, c.deref.ensures.value)
