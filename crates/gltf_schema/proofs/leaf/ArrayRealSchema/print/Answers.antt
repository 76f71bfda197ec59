-- The items of an array are its numbers.
use Rattle.gltf_schema.proofs.ArrayOfNumbers.{array_as_items, none_invalid}
use Rattle.gltf_schema.proofs.leaf.ArrayRealSchema.print.Goals as goal

pub returns : goal.returns
returns g c =
    let xs = c.args.self.now in
    rw (← array_as_items xs g.row.N c.type_inv.self, ← none_invalid xs) c.print_items.ensures
