-- Written by tools/derive.py from crates/gltf_scene/src/animation.rt,
-- crates/gltf_scene/specs/Animation.antt and tools/derive_exceptions.py. Do not edit.
use Rattle.gltf_base.specs.Steps.{field}
use Rattle.gltf_scene.specs.Animation.{animation_members, animation_rows, animation_sampler_kind, animation_sampler_members, animation_sampler_rows}
use Rattle.gltf_schema.specs.Fields.{closed_object}
use Rattle.gltf_schema.specs.Tree.{absent}
use Rattle.gltf_validation_objects.proofs.Items.{items_same}
use Rattle.gltf_validation_objects.specs.Checklist.{down, place}
use Rattle.gltf_validation_objects.specs.ChecklistOf.{checklist}
use Rattle.std.proofs.Common.{ap}
use Rattle.std.specs.Prelude.{[], codes, refl}
use Rattle.gltf_validation_objects.proofs.derived.animation.AnimationEvents.event.Goals as goal

-- The samplers name nothing of the animation that holds them.
pub returns-in-0-clause-comes : goal.returns-in-0-clause-comes
unfolding animation_rows animation_sampler_rows animation_members animation_sampler_members
returns-in-0-clause-comes g c =
    let context = g.C.HasContext.context c.args.context.now in
    let above = closed_object (animation_members c.args.self.now) in
    rw c.in-0.is (c.member.ensures _ (ap (λ ps. down (field (codes "samplers")) (place ps []))
    (items_same (λ t. checklist animation_sampler_kind t context absent)
    (λ t. checklist animation_sampler_kind t context above)
    (λ x. closed_object (animation_sampler_members x))
    (λ x. refl) c.args.self.now.samplers.items 0)))
