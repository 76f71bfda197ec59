-- The channels that are to come decide.
use Rattle.std.proofs.Common.{◌≡◌, drop}
use Rattle.gltf_scene.specs.Animation.{animation_channel_kind, animation_channel_members, animation_members}
use Rattle.gltf_schema.specs.Fields.{closed_object}
use Rattle.gltf_schema.specs.Tree.{Tree}
use Rattle.gltf_validation_objects.specs.Checklist.{Checklist}
use Rattle.gltf_validation_objects.specs.ChecklistOf.{checklist}
use Rattle.gltf_validation_objects.proofs.QuietChecklists.{items_quiet}
use Rattle.gltf_validation_objects.proofs.lists.are_channels_quiet.Given as goal

abbrev pub invariant-loop-channel : goal.invariant-loop-channel
invariant-loop-channel g l =
    let f : Tree → Checklist = λ t. checklist animation_channel_kind t (g.C.HasContext.context l.context) (closed_object (animation_members l.animation)) in
    items_quiet f (λ x. closed_object (animation_channel_members x)) (drop l.channel-index l.animation.channels.items) ≡ items_quiet f (λ x. closed_object (animation_channel_members x)) l.animation.channels.items
