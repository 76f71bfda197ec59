-- The node of attributes stands behind that of their indexes.
use Rattle.gltf_schema.proofs.RowsOutlined.{indexes_outlined}
use Rattle.gltf_schema.proofs.attributes.BTreeMapCheckedSemanticIndexToSchema.outline.Goals as goal

pub returns : goal.returns
returns g c =
    let named = g.P.Item.Listed.list in
    indexes_outlined c.args.nodes.now.items c.outline.new.nodes.items c.add_node.new.nodes.items named c.in_ok-values.values c.add_node.result c.in_ok-values.ensures c.add_node.ensures
