use Rattle.std.proofs.Common.{Some, ap, sym}
use Rattle.gltf_base.specs.Spelling.{by_number, by_name}
use Rattle.gltf_schema.proofs.Choosing.{chosen_among}
use Rattle.gltf_schema.proofs.leaf.CheckedSchema.decode_from.Goals as goal

pub returns-in-Number-clause-by_table : goal.returns-in-Number-clause-by_table
returns-in-Number-clause-by_table g c =
    let choice = g.T.Choice in
    rw (← c.in-Number.ensures, ← c.whole.ensures, c.in_ok-n-in-Number.ensures.ok_part, c.item_of.ensures) (ap Some (sym (chosen_among choice.spelling choice.listed (by_number c.in_ok-n-in-Number.n))))

pub returns-clause-by_table : goal.returns-clause-by_table
returns-clause-by_table g c =
    let choice = g.T.Choice in
    rw (← c.in-Name.ensures, ← c.text.ensures, c.in_ok-name-in-Name.ensures.ok_part, c.item_of-in-Name.ensures) (ap Some (sym (chosen_among choice.spelling choice.listed (by_name c.in_ok-name-in-Name.name.now))))
