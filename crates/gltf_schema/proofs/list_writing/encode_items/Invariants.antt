use Rattle.std.proofs.Common.{◌≡◌, map, drop}
use Rattle.serde_json.specs.Data.{item}
use Rattle.serde_json.specs.View.{view}
use Rattle.gltf_schema.specs.Tree.{trees}
use Rattle.gltf_schema.specs.Write.{write, write_items}
use Rattle.gltf_schema.proofs.Items.{onto}
use Rattle.gltf_schema.proofs.list_writing.encode_items.Given as goal

abbrev pub invariant-loop-item : goal.invariant-loop-item
invariant-loop-item g l =
    onto item (map view l.written.items) (write_items (write g.I.WriteItem.written_kind) (trees (map g.T.Tabled.tree (drop l.item-index l.items)))) ≡ write_items (write g.I.WriteItem.written_kind) (trees (map g.T.Tabled.tree l.items))
