-- The channel at the number, or none past the last.
use Rattle.std.proofs.Common.{rules}
use Rattle.gltf_scene.specs.Animation.{animation_channel_kind, animation_channel_members, animation_members}
use Rattle.gltf_schema.specs.Fields.{closed_object}
use Rattle.gltf_validation_objects.specs.ChecklistOf.{checklist}
use Rattle.gltf_validation_objects.proofs.Items.{item_comes, items_end}
use Rattle.gltf_validation_objects.proofs.lists.channel_at.Goals as goal

pub returns-in-Some-clause-comes : goal.returns-in-Some-clause-comes
returns-in-Some-clause-comes c context =
    let a = c.args.animation.now in
    item_comes (λ t. checklist animation_channel_kind t context (closed_object (animation_members a))) (λ x. closed_object (animation_channel_members x))
    a.channels.items _ c.args.number c.in-Some.channel.now (search rules) c.in-Some.ensures.lookup.3.0 c.in-Some.ensures.lookup.1

pub returns-in-None-clause-comes : goal.returns-in-None-clause-comes
returns-in-None-clause-comes c context =
    let a = c.args.animation.now in
    items_end (λ t. checklist animation_channel_kind t context (closed_object (animation_members a))) (λ x. closed_object (animation_channel_members x))
    a.channels.items c.args.number (search rules)
