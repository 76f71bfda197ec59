use Rattle.std.proofs.Common.{◌≡◌, map}
use Rattle.gltf_schema.specs.Tree.{with_tree}
use Rattle.gltf_schema.specs.Read.{read, read_items}
use Rattle.gltf_schema.proofs.Items.{onto, count}
use Rattle.gltf_schema.proofs.list.decode_items.Given as goal

abbrev pub invariant-items : goal.invariant-items
invariant-items g l =
    onto with_tree (map g.T.Tabled.tree l.found.items) (read_items (read g.T.Tabled.kind) (g.S.Source.items l.rest)) ≡ read_items (read g.T.Tabled.kind) (g.S.Source.items l.fn.items)

abbrev pub decreases-items : goal.decreases-items
decreases-items g l = count (g.S.Source.items l.rest)
