-- A list that is written has items.
use Rattle.std.proofs.Common.{◌≡◌, false, nat_eq, length, sym, ◌∙◌, arith}
use Rattle.gltf_schema.proofs.RowSteps.{unless_there, not_the_empty}
use Rattle.gltf_schema.proofs.strict.StrictRows.list_strictly.Goals as goal

pub returns-then-not-is_empty : goal.returns-then-not-is_empty
returns-then-not-is_empty g c =
    let xs = c.args.value.now.items in
    let long : length xs ≡ c.args.value.now.len = omega arith in
    let some : nat_eq (length xs) 0 ≡ false = rw long (sym c.is_empty.ensures ∙ c.if-not-is_empty.true) in
    unless_there (not_the_empty g.T.Tabled.tree xs some) c.always_strictly.ensures.required
