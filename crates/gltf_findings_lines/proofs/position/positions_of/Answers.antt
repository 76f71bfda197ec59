-- A position is that of the token to which a pointer leads.
use Rattle.std.proofs.Common.{◌≡◌, ◌<◌, Some, length, get_or, sym, ap, subst, string_bytes, arith}
use Rattle.std.specs.Prelude.{slice_get}
use Rattle.std.specs.List.{AllZip}
use Rattle.gltf_findings_lines.specs.Found.{ArePlacesIn, IsPositionOf}
use Rattle.gltf_findings_lines.specs.Places.{place_of as place_in}
use Rattle.gltf_findings_lines.specs.Positions.{BeginsAt, tokens_begun}
use Rattle.gltf_findings_lines.proofs.Leading.{zip_join, zip_second}
use Rattle.gltf_findings_lines.proofs.position.positions_of.Goals as goal

pub positions_at-requires : goal.positions_at-requires
positions_at-requires c = λ k d h.
    let text = c.args.text.now in
    let pointers = c.args.pointers.now in
    let places = c.in-Some.places.items in
    let given = subst (ArePlacesIn text pointers) c.in-Some.is c.in_ok-places.ensures in
    let within : k < length places = omega (arith, ap length c.deref.ensures.value) in
    let begun = zip_second (λ q n. (n ≡ place_in (string_bytes q) given.0) × (n < tokens_begun text)) (λ n. n < tokens_begun text) (λ q n r. r.1) pointers places given.2 k d within in
    subst (λ l. get_or l k d < length c.deref-in-Some.result.now) (sym c.deref.ensures.value)
    (omega (arith, begun, c.in_ok-starts-in-Some.ensures.count, c.deref-in-Some.ensures.len))

pub returns-in_ok-positions-in-Some : goal.returns-in_ok-positions-in-Some
returns-in_ok-positions-in-Some c =
    let text = c.args.text.now in
    let pointers = c.args.pointers.now in
    let places = c.in-Some.places.items in
    let starts = c.in_ok-starts-in-Some.starts.items in
    let positions = c.in_ok-positions-in-Some.positions.items in
    let given = subst (ArePlacesIn text pointers) c.in-Some.is c.in_ok-places.ensures in
    let read = subst (λ l. AllZip (λ n p. slice_get starts n ≡ Some p) l positions) c.deref.ensures.value
    (subst (λ l. AllZip (λ n p. slice_get l n ≡ Some p) c.deref.result.now positions) c.deref-in-Some.ensures.value c.in_ok-positions-in-Some.ensures) in
    zip_join (λ q n. (n ≡ place_in (string_bytes q) given.0) × (n < tokens_begun text)) (λ n p. slice_get starts n ≡ Some p) (λ q p. IsPositionOf text (string_bytes q) p)
    (λ q n p due is. (given.0, given.1, subst (λ m. BeginsAt text m p) due.0 (c.in_ok-starts-in-Some.ensures.each n p is))) pointers places positions given.2 read
