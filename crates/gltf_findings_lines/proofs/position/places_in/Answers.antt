-- The nodes of a tape are the tokens of the text.
use Rattle.std.proofs.Common.{◌≡◌, ◌<◌, sym, ◌∙◌, subst, string_bytes}
use Rattle.std.specs.List.{AllZip}
use Rattle.json.specs.Find.{BeginsWith}
use Rattle.json.specs.Tape.{Linked}
use Rattle.gltf_findings_lines.specs.Places.{place_of as place_in}
use Rattle.gltf_findings_lines.proofs.Leading.{some_value}
use Rattle.gltf_findings_lines.proofs.Punctuated.{length_nodes}
use Rattle.gltf_findings_lines.proofs.position.places_in.Goals as goal

pub places_of-requires : goal.places_of-requires
places_of-requires c = subst (λ ts. Linked ts 0 c.nodes.result.now) (sym c.nodes.ensures.tokens) c.nodes.ensures.links

pub returns-in-Ok : goal.returns-in-Ok
returns-in-Ok c =
    let text = c.args.text.now in
    let nodes = c.nodes.result.now in
    let j = some_value _ c.in-Ok.ensures.ok.1 in
    let same = c.nodes.ensures.tokens ∙ c.in-Ok.ensures.ok.0 in
    let begins = subst (λ ts. BeginsWith ts j.0) (sym c.nodes.ensures.tokens) (c.in-Ok.ensures.value j.0 j.1) in
    let places = c.in_ok-places-in-Ok.ensures j.0 begins in (
      j.0,
      j.1,
      subst (λ k. AllZip (λ q n. (n ≡ place_in (string_bytes q) j.0) × (n < k)) c.args.pointers.now c.in_ok-places-in-Ok.places.items) (length_nodes text nodes (sym same)) places,
    )
