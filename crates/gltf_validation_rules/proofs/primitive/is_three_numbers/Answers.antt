-- Arrays of fewer items, and of more.
use Rattle.std.proofs.Common.{◌≢◌, length, ap, arith}
use Rattle.serde_json.specs.View.{view}
use Rattle.gltf_validation_rules.proofs.Primitives.{no_triple}
use Rattle.gltf_validation_rules.proofs.primitive.is_three_numbers.Goals as goal

pub returns-in_default-as_slice : goal.returns-in_default-as_slice
returns-in_default-as_slice c =
    let other : length c.in-Some.items.now.items ≢ 3 = omega (arith, ap length c.as_slice.ensures.value) in
    no_triple (view c.args.value.now) c.in-Some.items.now.items c.in-Some.ensures other

pub returns-in_default-as_slice-2 : goal.returns-in_default-as_slice-2
returns-in_default-as_slice-2 c =
    let other : length c.in-Some.items.now.items ≢ 3 = omega (arith, ap length c.as_slice.ensures.value) in
    no_triple (view c.args.value.now) c.in-Some.items.now.items c.in-Some.ensures other
