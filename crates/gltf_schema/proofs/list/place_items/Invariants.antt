use Rattle.std.proofs.Common.{◌≡◌, map, length}
use Rattle.gltf_schema.specs.Tree.{with_tree}
use Rattle.gltf_schema.specs.Read.{read, read_items}
use Rattle.gltf_schema.specs.Refused.{refused_item}
use Rattle.gltf_schema.proofs.Items.{onto, count}
use Rattle.gltf_schema.proofs.list.place_items.Given as goal

-- the items before this one are read, and none of them is refused
abbrev pub invariant-items : goal.invariant-items
invariant-items g l =
    let kind = g.T.Tabled.kind in
    (onto with_tree (map g.T.Tabled.tree l.found.items) (read_items (read kind) (g.S.Source.items l.rest)) ≡ read_items (read kind) (g.S.Source.items l.fn.items))
    × (refused_item kind (length l.found.items) (g.S.Source.items l.rest) ≡ refused_item kind 0 (g.S.Source.items l.fn.items))

abbrev pub decreases-items : goal.decreases-items
decreases-items g l = count (g.S.Source.items l.rest)
