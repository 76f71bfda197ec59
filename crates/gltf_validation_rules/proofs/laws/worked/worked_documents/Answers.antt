-- Each document computes.
use Rattle.std.proofs.Common.{refl}
use Rattle.gltf_base.specs.Names as names
use Rattle.gltf_parts.specs.Accessor.{accessor_rows}
use Rattle.gltf_parts.specs.Buffer.{buffer_rows, view_rows}
use Rattle.gltf_scene.specs.Asset.{asset_rows}
use Rattle.gltf_parts.specs.Texture.{texture_rows}
use Rattle.gltf_scene.specs.Mesh.{mesh_rows, primitive_rows}
use Rattle.gltf_scene.specs.Camera.{camera_rows}
use Rattle.gltf_scene.specs.Light.{light_rows, light_of_node_rows}
use Rattle.gltf_scene.specs.Scene.{node_rows, node_extension_rows}
use Rattle.gltf_scene.specs.Animation.{animation_rows, animation_channel_rows, animation_target_rows}
use Rattle.gltf_root.specs.RootExtension.{root_extension_rows, lights_rows}
use Rattle.gltf_root.specs.Root.{root_rows}
use Rattle.gltf_validation_rules.proofs.laws.worked.worked_documents.Goals as goal

pub returns-clause-no_asset : goal.returns-clause-no_asset
unfolding root_rows asset_rows accessor_rows buffer_rows view_rows
returns-clause-no_asset c = refl

pub returns-clause-no_object : goal.returns-clause-no_object
unfolding root_rows asset_rows accessor_rows buffer_rows view_rows
returns-clause-no_object c = refl

pub returns-clause-clean : goal.returns-clause-clean
unfolding root_rows asset_rows accessor_rows buffer_rows view_rows
returns-clause-clean c = refl

pub returns-clause-no_data : goal.returns-clause-no_data
unfolding root_rows asset_rows accessor_rows buffer_rows view_rows
returns-clause-no_data c = refl

pub returns-clause-choice_is_whole : goal.returns-clause-choice_is_whole
unfolding root_rows asset_rows accessor_rows buffer_rows view_rows
returns-clause-choice_is_whole c = refl

pub returns-clause-members_first : goal.returns-clause-members_first
unfolding root_rows asset_rows accessor_rows buffer_rows view_rows
returns-clause-members_first c = refl

pub returns-clause-count_of_64_bits : goal.returns-clause-count_of_64_bits
unfolding root_rows asset_rows accessor_rows buffer_rows view_rows
returns-clause-count_of_64_bits c = refl

pub returns-clause-negative_count : goal.returns-clause-negative_count
unfolding root_rows asset_rows accessor_rows buffer_rows view_rows
returns-clause-negative_count c = refl

pub returns-clause-index_of_33_bits : goal.returns-clause-index_of_33_bits
unfolding root_rows asset_rows accessor_rows buffer_rows view_rows
returns-clause-index_of_33_bits c = refl

pub returns-clause-dangling : goal.returns-clause-dangling
unfolding root_rows asset_rows accessor_rows buffer_rows view_rows
returns-clause-dangling c = refl

pub returns-clause-null_is_absent : goal.returns-clause-null_is_absent
unfolding root_rows asset_rows accessor_rows buffer_rows view_rows
returns-clause-null_is_absent c = refl

pub returns-clause-no_stride : goal.returns-clause-no_stride
unfolding root_rows asset_rows accessor_rows buffer_rows view_rows
returns-clause-no_stride c = refl

pub returns-clause-stride_below : goal.returns-clause-stride_below
unfolding root_rows asset_rows accessor_rows buffer_rows view_rows
returns-clause-stride_below c = refl

pub returns-clause-least_stride : goal.returns-clause-least_stride
unfolding root_rows asset_rows accessor_rows buffer_rows view_rows
returns-clause-least_stride c = refl

pub returns-clause-greatest_stride : goal.returns-clause-greatest_stride
unfolding root_rows asset_rows accessor_rows buffer_rows view_rows
returns-clause-greatest_stride c = refl

pub returns-clause-stride_above : goal.returns-clause-stride_above
unfolding root_rows asset_rows accessor_rows buffer_rows view_rows
returns-clause-stride_above c = refl

pub returns-clause-no_image : goal.returns-clause-no_image
unfolding root_rows asset_rows texture_rows
returns-clause-no_image c = refl

pub returns-clause-no_such_image : goal.returns-clause-no_such_image
unfolding root_rows asset_rows texture_rows
returns-clause-no_such_image c = refl

pub returns-clause-no_projection : goal.returns-clause-no_projection
unfolding root_rows asset_rows camera_rows
returns-clause-no_projection c = refl

pub returns-clause-channel_by_itself : goal.returns-clause-channel_by_itself
unfolding root_rows asset_rows animation_rows animation_channel_rows animation_target_rows
returns-clause-channel_by_itself c = refl

pub returns-clause-not_enabled : goal.returns-clause-not_enabled
unfolding root_rows asset_rows
returns-clause-not_enabled c = refl

pub returns-clause-no_cone : goal.returns-clause-no_cone
unfolding root_rows asset_rows root_extension_rows lights_rows light_rows
returns-clause-no_cone c = refl

pub returns-clause-no_such_light : goal.returns-clause-no_such_light
unfolding root_rows asset_rows node_rows node_extension_rows light_of_node_rows
returns-clause-no_such_light c = refl

pub returns-clause-no_positions : goal.returns-clause-no_positions
unfolding root_rows asset_rows mesh_rows primitive_rows
returns-clause-no_positions c = refl

pub returns-clause-no_such_positions : goal.returns-clause-no_such_positions
unfolding root_rows asset_rows mesh_rows primitive_rows names.key_named
returns-clause-no_such_positions c = refl

pub returns-clause-attributes_in_order : goal.returns-clause-attributes_in_order
unfolding root_rows asset_rows accessor_rows mesh_rows primitive_rows names.key_named
returns-clause-attributes_in_order c = refl

pub returns-clause-unknown_member : goal.returns-clause-unknown_member
unfolding root_rows asset_rows accessor_rows buffer_rows view_rows
returns-clause-unknown_member c = refl
