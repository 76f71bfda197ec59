-- The rows of animations (glTF 2.0, sections 5.5 to 5.8).
use Rattle.std.specs.Prelude.{false, codes, [], ◌∷◌}
use Rattle.gltf_base.specs.Lists.{accessors, nodes}
use Rattle.gltf_base.specs.SceneChoices.{interpolation_spelling, interpolations, property_spelling, properties}
use Rattle.gltf_base.specs.declared.choice.Form.TheVariants as form
use Rattle.gltf_base.specs.declared.animation.Interpolation.TheVariants as interpolation
use Rattle.gltf_schema.specs.Tree.{Tree, chosen, list, end, Trees, trees, tree_or_absent}
use Rattle.gltf_schema.specs.Kind.{required, optional, always, unless, Kind, IndexInto, ChannelSampler, Text, ListOf, Object, Rows, ◌◂◌, no_rule, holds_samplers}
use Rattle.gltf_schema.specs.Leaves.{choice_of, checked_tree}
use Rattle.gltf_schema.specs.Extensions.{kept_extensions, dropped_extensions, extensions_and_extras}
use Rattle.gltf_schema.specs.Fields.{index_tree, text_tree, any_tree, list_tree, closed_object, dropped_tree, kept_tree}
use Rattle.gltf_scene.specs.declared.animation.Animation.{Animation}
use Rattle.gltf_scene.specs.declared.animation.Channel.{Channel}
use Rattle.gltf_scene.specs.declared.animation.Target.{Target}
use Rattle.gltf_scene.specs.declared.animation.Sampler.{Sampler}

abbrev pub interpolation_kind : Kind
interpolation_kind = choice_of form.Name interpolation_spelling interpolations

abbrev pub property_kind : Kind
property_kind = choice_of form.Name property_spelling properties

-- values change evenly from one time to the next
abbrev pub linear : Tree
linear = chosen (interpolation_spelling interpolation.Linear)

unfoldable pub animation_sampler_rows : Rows
animation_sampler_rows =
    (codes "input", required, IndexInto accessors)
    ◂ (codes "interpolation", always linear, interpolation_kind)
    ◂ (codes "output", required, IndexInto accessors)
    ◂ extensions_and_extras dropped_extensions

abbrev pub animation_sampler_kind : Kind
animation_sampler_kind = Object no_rule animation_sampler_rows false

unfoldable pub animation_target_rows : Rows
animation_target_rows =
    -- 5.7.1 lets it be missing; it is required as in the ported crate
    (codes "node", required, IndexInto nodes)
    ◂ (codes "path", required, property_kind)
    ◂ extensions_and_extras dropped_extensions

abbrev pub animation_target_kind : Kind
animation_target_kind = Object no_rule animation_target_rows false

-- the sampler is one of the animation that the channel is in (5.6.1)
unfoldable pub animation_channel_rows : Rows
animation_channel_rows =
    (codes "sampler", required, ChannelSampler)
    ◂ (codes "target", required, animation_target_kind)
    ◂ extensions_and_extras dropped_extensions

abbrev pub animation_channel_kind : Kind
animation_channel_kind = Object no_rule animation_channel_rows false

-- 5.5.1 and 5.5.2 require at least one channel and one sampler; a list that is missing is read as
-- an empty one here, and an empty one is not written
unfoldable pub animation_rows : Rows
animation_rows =
    (codes "samplers", unless (list end), ListOf animation_sampler_kind)
    ◂ (codes "channels", unless (list end), ListOf animation_channel_kind)
    ◂ (codes "name", optional, Text)
    ◂ extensions_and_extras kept_extensions

abbrev pub animation_kind : Kind
animation_kind = Object holds_samplers animation_rows false

-- ---- the members of animations, in the rows' order

unfoldable pub animation_sampler_members : Sampler → Trees
animation_sampler_members v = trees (
    index_tree v.input
    ∷ checked_tree interpolation_spelling v.interpolation
    ∷ index_tree v.output
    ∷ tree_or_absent dropped_tree v.extensions
    ∷ tree_or_absent any_tree v.extras
    ∷ [])

unfoldable pub animation_target_members : Target → Trees
animation_target_members v = trees (
    index_tree v.node
    ∷ checked_tree property_spelling v.path
    ∷ tree_or_absent dropped_tree v.extensions
    ∷ tree_or_absent any_tree v.extras
    ∷ [])

unfoldable pub animation_channel_members : Channel → Trees
animation_channel_members v = trees (
    index_tree v.sampler
    ∷ closed_object (animation_target_members v.target)
    ∷ tree_or_absent dropped_tree v.extensions
    ∷ tree_or_absent any_tree v.extras
    ∷ [])

unfoldable pub animation_members : Animation → Trees
animation_members v = trees (
    list_tree (λ x. closed_object (animation_sampler_members x)) v.samplers.items
    ∷ list_tree (λ x. closed_object (animation_channel_members x)) v.channels.items
    ∷ tree_or_absent text_tree v.name
    ∷ tree_or_absent kept_tree v.extensions
    ∷ tree_or_absent any_tree v.extras
    ∷ [])
