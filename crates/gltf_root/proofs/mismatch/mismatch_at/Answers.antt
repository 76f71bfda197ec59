-- The outline says what is wanted at the end of the steps.
use Rattle.std.proofs.Common.{rules, ◌∙◌, map, sym, subst}
use Rattle.gltf_schema.specs.Kind.{Object as object_kind}
use Rattle.gltf_schema.specs.Outline.{IsShapeOf}
use Rattle.gltf_schema.specs.RowPlacing.{owned_step}
use Rattle.serde_json.specs.View.{view}
use Rattle.gltf_root.proofs.WantedThere.{none_wanted, wanted_is}
use Rattle.gltf_root.proofs.mismatch.mismatch_at.Goals as goal

pub returns-in_default : goal.returns-in_default
returns-in_default g c =
    let o = g.T.Object in
    let kind = object_kind o.rule o.rows o.keeps in
    let outline = c.in_ok-outline.outline in
    none_wanted (map owned_step c.args.steps.now) kind c.deref.result.now outline.root (subst (λ ns. IsShapeOf ns outline.root kind) (sym c.deref.ensures.value) c.in_ok-outline.ensures) (sym c.in_default.is ∙ c.wanted_at.ensures)

pub returns-in-Ok : goal.returns-in-Ok
returns-in-Ok g c =
    let o = g.T.Object in
    let kind = object_kind o.rule o.rows o.keeps in
    let outline = c.in_ok-outline.outline in
    let steps = map owned_step c.args.steps.now in (
      c.in_ok-place.ensures,
      wanted_is steps kind c.deref.result.now outline.root c.in-Some.wanted (subst (λ ns. IsShapeOf ns outline.root kind) (sym c.deref.ensures.value) c.in_ok-outline.ensures) (sym c.in-Some.is ∙ c.wanted_at.ensures),
      view c.in-Ok.value,
      c.in-Ok.ensures,
      search rules,
    )
