-- The members are gathered row by row, and the object's own node stands behind those of their values.
use Rattle.std.proofs.Common.{ap}
use Rattle.gltf_schema.proofs.RowsOutlined.{object_drawn, object_outlined}
use Rattle.gltf_schema.proofs.outline.outline_object.Goals as goal

pub returns : goal.returns
returns g c =
    let o = g.T.Object in
    object_outlined c.args.nodes.now.items o.rule o.rows o.keeps c.read_rows.new.from.failed c.read_rows.new.from.nodes.items c.add_node.new.nodes.items c.read_rows.new.from.members c.read_rows.new.from.keeps c.add_node.result
    (object_drawn c.read_rows.ensures (ap (λ v. v.items) c.replace.ensures.value) c.new-2.ensures.items) c.if-outlining.false c.add_node.ensures
