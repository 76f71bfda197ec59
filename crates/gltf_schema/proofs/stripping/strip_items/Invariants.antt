use Rattle.gltf_schema.specs.Stripped.{stripped}
use Rattle.gltf_schema.proofs.RowsStripped.{ChangedTo}
use Rattle.gltf_schema.proofs.stripping.strip_items.Given as goal

-- the items before this one are stripped
abbrev pub invariant-loop-item : goal.invariant-loop-item
invariant-loop-item g l =
    let s = g.T.Tabled in
    ChangedTo l.item-index s.tree (stripped l.what s.kind) l.fn.items l.items
