use Rattle.std.proofs.Common.{◌≡◌, true, false, is_some, Some, arith, sym, ap}
use Rattle.serde_json.specs.Find.{as_null}
use Rattle.gltf_schema.proofs.OneRow.{value_read, member_taken, not_null, null_absent}
use Rattle.gltf_schema.proofs.reading.ReadingReadRows.optional.Goals as goal

pub returns-in_default-clause-left_out : goal.returns-in_default-clause-left_out
returns-in_default-clause-left_out g c = member_taken c.in_default.ensures (λ start. ap Some (sym start))

pub returns-in_default-clause-or_null : goal.returns-in_default-clause-or_null
returns-in_default-clause-or_null g c = member_taken c.in_default.ensures (λ start. ap Some (sym start))

pub returns-then-is_null-clause-left_out : goal.returns-then-is_null-clause-left_out
returns-then-is_null-clause-left_out g c =
    let d = g.S.Source.given c.in-Some.value in
    let null : is_some (as_null d) ≡ true = grind arith in
    member_taken c.in-Some.ensures (λ start. null_absent g.T.Tabled.kind d null)

pub returns-then-is_null-clause-or_null : goal.returns-then-is_null-clause-or_null
returns-then-is_null-clause-or_null g c =
    let d = g.S.Source.given c.in-Some.value in
    let null : is_some (as_null d) ≡ true = grind arith in
    member_taken c.in-Some.ensures (λ start. null_absent g.T.Tabled.kind d null)

pub returns-else-is_null-clause-left_out : goal.returns-else-is_null-clause-left_out
returns-else-is_null-clause-left_out g c =
    let d = g.S.Source.given c.in-Some.value in
    let there : is_some (as_null d) ≡ false = grind arith in
    value_read c.in-Some.ensures c.decode_some.ensures (not_null g.T.Tabled.kind d there)

pub returns-else-is_null-clause-or_null : goal.returns-else-is_null-clause-or_null
returns-else-is_null-clause-or_null g c =
    let d = g.S.Source.given c.in-Some.value in
    let there : is_some (as_null d) ≡ false = grind arith in
    value_read c.in-Some.ensures c.decode_some.ensures (not_null g.T.Tabled.kind d there)
