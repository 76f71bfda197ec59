-- The rows of lights, by KHR_lights_punctual, and of variants, by KHR_materials_variants.
use Rattle.std.specs.Prelude.{◌*◌, ◌^◌, false, codes, [], ◌∷◌}
use Rattle.std.specs.Float.{Float, binary64}
use Rattle.std.specs.Float.Ieee.{round}
use Rattle.gltf_base.specs.Lists.{lights}
use Rattle.gltf_base.specs.SceneChoices.{light_type_spelling, light_types}
use Rattle.gltf_base.specs.declared.choice.Form.TheVariants as form
use Rattle.gltf_schema.specs.Kind.{required, optional, sometimes, Kind, IndexInto, Number, Numbers, Text, Any, Object, Rows, no_rows, ◌◂◌, no_rule, needs_cone}
use Rattle.gltf_schema.specs.Leaves.{choice_of, checked_tree}
use Rattle.gltf_schema.specs.Tree.{Trees, trees, tree_or_absent}
use Rattle.gltf_schema.specs.Fields.{index_tree, text_tree, real_tree, reals_tree, any_tree, closed_object}
use Rattle.gltf_scene.specs.declared.extensions.scene.khr_lights_punctual.KhrLightsPunctual.{KhrLightsPunctual}
use Rattle.gltf_scene.specs.declared.extensions.scene.khr_lights_punctual.Light.{Light}
use Rattle.gltf_scene.specs.declared.extensions.scene.khr_lights_punctual.Spot.{Spot}
use Rattle.gltf_scene.specs.declared.extensions.scene.khr_materials_variants.Variant.{Variant}

-- the float that is nearest to pi / 4, from the first 37 digits of pi
abbrev pub quarter_of_pi : Float
quarter_of_pi = round binary64 false 3141592653589793238462643383279502884 (4 * 10 ^ 36)

abbrev pub light_type_kind : Kind
light_type_kind = choice_of form.Name light_type_spelling light_types

unfoldable pub light_of_node_rows : Rows
light_of_node_rows =
    (codes "light", required, IndexInto lights)
    ◂ no_rows

abbrev pub light_of_node_kind : Kind
light_of_node_kind = Object no_rule light_of_node_rows false

unfoldable pub spot_rows : Rows
spot_rows =
    (codes "innerConeAngle", sometimes, Number)
    ◂ (codes "outerConeAngle", sometimes, Number)
    ◂ no_rows

abbrev pub spot_kind : Kind
spot_kind = Object no_rule spot_rows false

unfoldable pub light_rows : Rows
light_rows =
    (codes "color", sometimes, Numbers 3)
    ◂ (codes "extensions", optional, Any)
    ◂ (codes "extras", optional, Any)
    ◂ (codes "intensity", sometimes, Number)
    ◂ (codes "name", optional, Text)
    ◂ (codes "range", optional, Number)
    ◂ (codes "spot", optional, spot_kind)
    ◂ (codes "type", required, light_type_kind)
    ◂ no_rows

abbrev pub light_kind : Kind
light_kind = Object needs_cone light_rows false

unfoldable pub variant_rows : Rows
variant_rows =
    (codes "name", required, Text)
    ◂ no_rows

abbrev pub variant_kind : Kind
variant_kind = Object no_rule variant_rows false

-- ---- the members of lights and variants, in the rows' order

unfoldable pub light_of_node_members : KhrLightsPunctual → Trees
light_of_node_members v = trees (
    index_tree v.light
    ∷ [])

unfoldable pub spot_members : Spot → Trees
spot_members v = trees (
    tree_or_absent real_tree v.inner_cone_angle
    ∷ tree_or_absent real_tree v.outer_cone_angle
    ∷ [])

unfoldable pub light_members : Light → Trees
light_members v = trees (
    tree_or_absent reals_tree v.color
    ∷ tree_or_absent any_tree v.extensions
    ∷ tree_or_absent any_tree v.extras
    ∷ tree_or_absent real_tree v.intensity
    ∷ tree_or_absent text_tree v.name
    ∷ tree_or_absent real_tree v.range
    ∷ tree_or_absent (λ x. closed_object (spot_members x)) v.spot
    ∷ checked_tree light_type_spelling v.type_
    ∷ [])

unfoldable pub variant_members : Variant → Trees
variant_members v = trees (
    text_tree v.name
    ∷ [])
