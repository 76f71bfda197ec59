-- The node of an array stands behind that of its numbers.
use Rattle.gltf_schema.proofs.RowsOutlined.{numbers_outlined}
use Rattle.gltf_schema.proofs.leaf.ArrayRealSchema.outline.Goals as goal

pub returns : goal.returns
returns g c =
    numbers_outlined c.args.nodes.now.items c.outline.new.nodes.items c.add_node.new.nodes.items g.row.N c.in_ok-items.items c.add_node.result c.in_ok-items.ensures c.add_node.ensures
