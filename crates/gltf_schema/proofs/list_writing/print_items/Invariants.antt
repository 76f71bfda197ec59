use Rattle.std.proofs.Common.{map, drop}
use Rattle.gltf_schema.specs.Tree.{trees}
use Rattle.gltf_schema.specs.Write.{write}
use Rattle.gltf_schema.specs.Printings.{printing_state}
use Rattle.gltf_schema.proofs.ItemsPrinted.{ItemsPrinted}
use Rattle.gltf_schema.proofs.list_writing.print_items.Given as goal

-- the items before this one are printed
abbrev pub invariant-loop-item : goal.invariant-loop-item
invariant-loop-item g l =
    let s = g.T.Tabled in
    ItemsPrinted (write g.I.WriteItem.written_kind) (trees (map s.tree (drop l.item-index l.items))) (trees (map s.tree l.items))
    (printing_state g.W.Tokens.written g.W.Tokens.before l.fn.to) (printing_state g.W.Tokens.written g.W.Tokens.before l.to)
