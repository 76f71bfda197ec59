-- The samplers are those of the animation's tree.
use Rattle.std.proofs.Common.{◌≡◌, length, sym}
use Rattle.gltf_schema.specs.Fields.{closed_object}
use Rattle.gltf_scene.specs.declared.animation.Animation.{Animation}
use Rattle.gltf_scene.specs.Animation.{animation_rows, animation_members, animation_sampler_members}
use Rattle.gltf_root.specs.Lists.{sampler_count}
use Rattle.gltf_validation_rules.proofs.Resolving.{count_of-trees, index_there, index_past}
use Rattle.gltf_validation_rules.proofs.indexes.sampler_fault.Goals as goal

counted : (v : Animation) → sampler_count (closed_object (animation_members v)) ≡ length v.samplers.items
unfolding animation_rows animation_members
counted v = count_of-trees (λ x. closed_object (animation_sampler_members x)) v.samplers.items

pub returns-in-Some : goal.returns-in-Some
returns-in-Some c =
    let items = c.args.animation.now.samplers.items in
    λ base. sym (index_there items _ _ c.in-Some.field-0.now (counted c.args.animation.now)
    c.in-Some.ensures base)

pub returns-in-None : goal.returns-in-None
returns-in-None c =
    let items = c.args.animation.now.samplers.items in
    λ base. sym (index_past items _ _ (counted c.args.animation.now)
    c.in-None.ensures base)
