-- What is refused has a kind, since the kind of an object is sound.
use Rattle.std.proofs.Common.{◌∙◌, Some, map, option_map, ap, subst}
use Rattle.serde_json.specs.View.{view}
use Rattle.gltf_schema.specs.Kind.{Object as object_kind}
use Rattle.gltf_schema.specs.Read.{read}
use Rattle.gltf_schema.specs.RowPlacing.{IsPlaceIn, owned_step, place_of}
use Rattle.gltf_schema.specs.Tree.{object}
use Rattle.gltf_root.specs.Mismatch.{IsMismatchAt}
use Rattle.gltf_root.proofs.WantedThere.{mismatch_from}
use Rattle.gltf_root.proofs.mismatch.mismatch_in_text.Goals as goal

pub returns-in-Ok-decode_or_place : goal.returns-in-Ok-decode_or_place
returns-in-Ok-decode_or_place g c =
    let o = g.T.Object in
    let x = c.in-Ok-decode_or_place.field-0 in
    (object (o.members x) (o.unknown x), ap (option_map (read (object_kind o.rule o.rows o.keeps))) c.in-Ok.ensures ∙ ap Some c.in-Ok-decode_or_place.ensures.by_table)

pub returns-in-Err-At : goal.returns-in-Err-At
returns-in-Err-At g c =
    let o = g.T.Object in
    let kind = object_kind o.rule o.rows o.keeps in
    let d = view c.in-Ok.value in
    let refused = subst (λ r. IsPlaceIn (place_of r) kind d) c.in-Err-At.field-0-is c.in-Err-At.ensures.by_table in
    let at = subst (λ xs. IsMismatchAt kind c.args.text.now (map owned_step xs) c.mismatch_at.result) c.deref.ensures.value c.mismatch_at.ensures in
    mismatch_from kind c.args.text.now d (map owned_step c.in-Err-At.steps.items) c.mismatch_at.result g.met.T.Object.kind_is_sound c.in-Ok.ensures refused at
