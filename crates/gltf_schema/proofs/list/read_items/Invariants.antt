use Rattle.std.proofs.Common.{◌≡◌, ℕ, length, map}
use Rattle.json.specs.Json.{value}
use Rattle.serde_json.specs.Data.{Items}
use Rattle.gltf_schema.specs.Read.{read, read_items}
use Rattle.gltf_schema.specs.Tree.{with_tree}
use Rattle.gltf_schema.proofs.Items.{onto}
use Rattle.gltf_schema.proofs.Turns.{IsFurther}
use Rattle.gltf_schema.proofs.list.read_items.Given as goal

-- the items so far
abbrev pub invariant-items : goal.invariant-items
invariant-items g l =
    (n : ℕ) × (before : Items → Items) × IsFurther (value l.initial.from.depth) l.initial.from.reader l.from.reader n before
    × ((ds : Items) → read_items (read g.T.Tabled.kind) (before ds) ≡ onto with_tree (map g.T.Tabled.tree l.list.items) (read_items (read g.T.Tabled.kind) ds))
    × (l.from.depth ≡ l.initial.from.depth) × (l.from.pass ≡ l.initial.from.pass)

abbrev pub decreases-items : goal.decreases-items
decreases-items g l = length l.from.reader
