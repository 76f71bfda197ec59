-- The node of a list stands behind those of its items.
use Rattle.gltf_schema.proofs.RowsOutlined.{list_outlined}
use Rattle.gltf_schema.proofs.list.VecSchema.outline.Goals as goal

pub returns : goal.returns
returns g c =
    let kind = g.T.Tabled.kind in
    list_outlined c.args.nodes.now.items c.outline.new.nodes.items c.add_node.new.nodes.items kind c.in_ok-items.items c.add_node.result c.in_ok-items.ensures c.add_node.ensures
