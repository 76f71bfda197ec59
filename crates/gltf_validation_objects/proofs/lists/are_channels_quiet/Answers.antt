-- A channel that isn't quiet decides; past the last one all were quiet.
use Rattle.std.proofs.Common.{◌≡◌, ◌∙◌, sym, rules, arith, true, false}
use Rattle.gltf_scene.specs.Animation.{animation_channel_kind, animation_channel_members, animation_members}
use Rattle.gltf_schema.specs.Fields.{closed_object}
use Rattle.gltf_schema.specs.Tree.{Tree}
use Rattle.gltf_validation_objects.specs.Checklist.{Checklist}
use Rattle.gltf_validation_objects.specs.ChecklistOf.{checklist}
use Rattle.gltf_validation_objects.proofs.QuietChecklists.{quiet_item, loud_item, past_items}
use Rattle.gltf_validation_objects.proofs.lists.are_channels_quiet.Goals as goal

pub loop-channel-preserved : goal.loop-channel-preserved
loop-channel-preserved g c =
    let a = c.args.animation.now in
    let f : Tree → Checklist = λ t. checklist animation_channel_kind t (g.C.HasContext.context c.args.context.now) (closed_object (animation_members a)) in
    let yes : c.is_channel_quiet.result ≡ true = search rules in
    quiet_item f (λ x. closed_object (animation_channel_members x)) a.channels.items c.loop-channel.channel-index c.channel-item.result (omega arith) (search rules)
    (sym c.is_channel_quiet.ensures ∙ yes) ∙ c.loop-channel.invariant

pub returns-then-not-is_channel_quiet : goal.returns-then-not-is_channel_quiet
returns-then-not-is_channel_quiet g c =
    let a = c.args.animation.now in
    let f : Tree → Checklist = λ t. checklist animation_channel_kind t (g.C.HasContext.context c.args.context.now) (closed_object (animation_members a)) in
    let no : c.is_channel_quiet.result ≡ false = search rules in
    loud_item f (λ x. closed_object (animation_channel_members x)) a.channels.items c.loop-channel.channel-index c.channel-item.result (omega arith) (search rules)
    (sym c.is_channel_quiet.ensures ∙ no) c.loop-channel.invariant

pub returns : goal.returns
returns g c =
    let a = c.args.animation.now in
    let f : Tree → Checklist = λ t. checklist animation_channel_kind t (g.C.HasContext.context c.args.context.now) (closed_object (animation_members a)) in
    past_items f (λ x. closed_object (animation_channel_members x)) a.channels.items c.loop-channel.channel-index (omega arith) c.loop-channel.invariant
