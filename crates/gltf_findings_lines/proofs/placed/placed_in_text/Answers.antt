-- Each finding has a pointer, and each pointer a position if the text is JSON.
use Rattle.std.proofs.Common.{length, sym, ap, ◌∙◌, subst, string_bytes, inr, arith}
use Rattle.std.specs.List.{AllZip}
use Rattle.std.proofs.lemmas.List.{length-map}
use Rattle.gltf_findings_lines.specs.Found.{ArePositions, IsPositionOf}
use Rattle.gltf_findings_lines.specs.Placed.{HasPosition, placed_all, pointer_in}
use Rattle.gltf_findings_lines.proofs.Placing.{all_placed, none_placed, zip_length}
use Rattle.gltf_findings_lines.proofs.placed.placed_in_text.Goals as goal

pub placed_at-requires : goal.placed_at-requires
placed_at-requires c =
    let text = c.args.text.now in
    let shown = c.args.shown.now in
    let pointers = c.in_ok-pointers.pointers.items in
    let found = subst (ArePositions text c.deref.result.now) c.in-Some.is c.in_ok-positions.ensures in
    let same = zip_length (λ q p. IsPositionOf text (string_bytes q) p) c.deref.result.now c.in-Some.positions.items found in
    omega (
      arith,
      same,
      ap length c.in_ok-pointers.ensures,
      length-map pointers string_bytes,
      length-map shown pointer_in,
      ap length c.deref.ensures.value,
      ap length c.deref-in-Some.ensures.value,
    )

pub returns-in-Some : goal.returns-in-Some
returns-in-Some c =
    let text = c.args.text.now in
    let shown = c.args.shown.now in
    let pointers = c.in_ok-pointers.pointers.items in
    let positions = c.in-Some.positions.items in
    let found = subst (ArePositions text c.deref.result.now) c.in-Some.is c.in_ok-positions.ensures in
    let beside = subst (λ l. AllZip (λ q p. IsPositionOf text (string_bytes q) p) l positions) c.deref.ensures.value found in
    subst (AllZip (HasPosition text) shown) (sym (c.in_ok-placed-in-Some.ensures ∙ ap (placed_all shown) c.deref-in-Some.ensures.value))
    (all_placed text shown pointers positions c.in_ok-pointers.ensures beside)

pub returns : goal.returns
returns c =
    let text = c.args.text.now in
    let lacks = subst (ArePositions text c.deref.result.now) c.in-None.is c.in_ok-positions.ensures in
    none_placed text c.args.shown.now c.in_ok-placed-in-None.placed.items (inr lacks) c.in_ok-placed-in-None.ensures
