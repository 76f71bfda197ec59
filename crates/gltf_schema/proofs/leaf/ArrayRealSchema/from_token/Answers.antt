use Rattle.std.proofs.Common.{◌≡◌, ◌∷◌, length, sym, subst}
use Rattle.json.specs.Token.{begin_array}
use Rattle.gltf_schema.specs.Kind.{Number, ListOf}
use Rattle.gltf_schema.specs.Fields.{list_tree, real_tree}
use Rattle.gltf_schema.specs.Streamed.{ReadsAt}
use Rattle.gltf_schema.proofs.OneToken.{array_at}
use Rattle.gltf_schema.proofs.leaf.ArrayRealSchema.from_token.Goals as goal

pub returns-in-Ok-clause-read : goal.returns-in-Ok-clause-read
returns-in-Ok-clause-read g c =
    let xs = c.in_ok-found.found.items in
    let made : (c.in-Ok.numbers ≡ xs) × (length xs ≡ g.row.N) = rw (← c.in_ok-found.found.ok.0) c.in-Ok.ensures in
    let begun = subst (λ ts. ReadsAt (ListOf Number) (list_tree real_tree xs) c.args.from.now.depth ts c.read_items.new.from.reader) (sym c.in_ok-begin_array.ensures) c.in_ok-found.ensures.read in
    array_at _ g.row.N _ _ xs c.in-Ok.numbers made.0 made.1 begun
