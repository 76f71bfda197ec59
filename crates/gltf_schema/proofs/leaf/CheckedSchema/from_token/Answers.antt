use Rattle.gltf_schema.proofs.OneToken.{choice_number_at, choice_name_at}
use Rattle.gltf_schema.proofs.leaf.CheckedSchema.from_token.Goals as goal

pub returns-in_ok-whole-in-Number-clause-read : goal.returns-in_ok-whole-in-Number-clause-read
returns-in_ok-whole-in-Number-clause-read g c =
    let choice = g.T.Choice in
    let from = c.args.from.now in
    rw (← c.in-Number.ensures, c.item_of.ensures) (choice_number_at choice.spelling choice.listed from.depth from.reader c.whole.new.self c.in_ok-whole-in-Number.field-0 c.in_ok-whole-in-Number.ensures)

pub returns-in_ok-string-in-Name-clause-read : goal.returns-in_ok-string-in-Name-clause-read
returns-in_ok-string-in-Name-clause-read g c =
    let choice = g.T.Choice in
    let from = c.args.from.now in
    rw (← c.in-Name.ensures, c.item_of-in-Name.ensures) (choice_name_at choice.spelling choice.listed from.depth c.in_ok-string-in-Name.field-0.now from.reader c.string.new.self c.in_ok-string-in-Name.ensures.value)
