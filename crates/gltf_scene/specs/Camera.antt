-- The rows of cameras and their projections (glTF 2.0, sections 5.12 to 5.14).
use Rattle.std.specs.Prelude.{false, codes, [], ◌∷◌}
use Rattle.gltf_base.specs.SceneChoices.{camera_type_spelling, camera_types}
use Rattle.gltf_base.specs.declared.choice.Form.TheVariants as form
use Rattle.gltf_schema.specs.Kind.{required, optional, Kind, Number, Text, Object, Rows, ◌◂◌, no_rule, needs_projection}
use Rattle.gltf_schema.specs.Leaves.{choice_of, checked_tree}
use Rattle.gltf_schema.specs.Extensions.{kept_extensions, extensions_and_extras}
use Rattle.gltf_schema.specs.Tree.{Trees, trees, tree_or_absent}
use Rattle.gltf_schema.specs.Fields.{text_tree, real_tree, any_tree, closed_object, kept_tree}
use Rattle.gltf_scene.specs.declared.camera.Camera.{Camera}
use Rattle.gltf_scene.specs.declared.camera.Orthographic.{Orthographic}
use Rattle.gltf_scene.specs.declared.camera.Perspective.{Perspective}

abbrev pub camera_type_kind : Kind
camera_type_kind = choice_of form.Name camera_type_spelling camera_types

unfoldable pub orthographic_rows : Rows
orthographic_rows =
    (codes "xmag", required, Number)
    ◂ (codes "ymag", required, Number)
    ◂ (codes "zfar", required, Number)
    ◂ (codes "znear", required, Number)
    ◂ extensions_and_extras kept_extensions

abbrev pub orthographic_kind : Kind
orthographic_kind = Object no_rule orthographic_rows false

unfoldable pub perspective_rows : Rows
perspective_rows =
    (codes "aspectRatio", optional, Number)
    ◂ (codes "yfov", required, Number)
    ◂ (codes "zfar", optional, Number)
    ◂ (codes "znear", required, Number)
    ◂ extensions_and_extras kept_extensions

abbrev pub perspective_kind : Kind
perspective_kind = Object no_rule perspective_rows false

unfoldable pub camera_rows : Rows
camera_rows =
    (codes "name", optional, Text)
    ◂ (codes "orthographic", optional, orthographic_kind)
    ◂ (codes "perspective", optional, perspective_kind)
    ◂ (codes "type", required, camera_type_kind)
    ◂ extensions_and_extras kept_extensions

abbrev pub camera_kind : Kind
camera_kind = Object needs_projection camera_rows false

-- ---- the members of cameras and their projections, in the rows' order

unfoldable pub orthographic_members : Orthographic → Trees
orthographic_members v = trees (
    real_tree v.xmag
    ∷ real_tree v.ymag
    ∷ real_tree v.zfar
    ∷ real_tree v.znear
    ∷ tree_or_absent kept_tree v.extensions
    ∷ tree_or_absent any_tree v.extras
    ∷ [])

unfoldable pub perspective_members : Perspective → Trees
perspective_members v = trees (
    tree_or_absent real_tree v.aspect_ratio
    ∷ real_tree v.yfov
    ∷ tree_or_absent real_tree v.zfar
    ∷ real_tree v.znear
    ∷ tree_or_absent kept_tree v.extensions
    ∷ tree_or_absent any_tree v.extras
    ∷ [])

unfoldable pub camera_members : Camera → Trees
camera_members v = trees (
    tree_or_absent text_tree v.name
    ∷ tree_or_absent (λ x. closed_object (orthographic_members x)) v.orthographic
    ∷ tree_or_absent (λ x. closed_object (perspective_members x)) v.perspective
    ∷ checked_tree camera_type_spelling v.type_
    ∷ tree_or_absent kept_tree v.extensions
    ∷ tree_or_absent any_tree v.extras
    ∷ [])
