use Rattle.std.proofs.Common.{◌≡◌, Some, arith, sym, ◌∙◌}
use Rattle.serde_json.specs.Find.{as_array}
use Rattle.gltf_schema.specs.Kind.{Number}
use Rattle.gltf_schema.proofs.ArrayOfNumbers.{reals_read, array_of_list, no_array_of_list}
use Rattle.gltf_schema.proofs.Placed.{none_refused}
use Rattle.gltf_schema.proofs.leaf.ArrayRealSchema.decode_or_place.Goals as goal

pub returns-in-Ok : goal.returns-in-Ok
returns-in-Ok g c =
    let ds = g.S.Source.items c.in-Some.items in
    let seen : as_array (g.S.Source.given c.args.source) ≡ Some ds = grind arith in
    let read = reals_read ds c.in_ok-found.found.items c.in_ok-found.ensures.by_table in
    record { by_table = rw (seen, c.in-Ok.ensures.0) (array_of_list ds c.in_ok-found.found.items _ read (sym c.in_ok-found.found.ok.0 ∙ c.in-Ok.ensures.1)) }

pub returns : goal.returns
returns g c =
    let ds = g.S.Source.items c.in-Some.items in
    let seen : as_array (g.S.Source.given c.args.source) ≡ Some ds = grind arith in
    let read = reals_read ds c.in_ok-found.found.items c.in_ok-found.ensures.by_table in
    record { by_table = rw (c.here-in-Err.ensures, seen) (none_refused Number 0 ds _ read, no_array_of_list ds c.in_ok-found.found.items _ read (λ e. c.in-Err.ensures.1 (c.in_ok-found.found.ok.0 ∙ e))) }
