-- Written by tools/derive.py from crates/gltf_root/src/root.rt and
-- crates/gltf_root/specs/Root.antt. Do not edit.
-- Each row is written in the order of the names.
use Rattle.gltf_schema.proofs.RowsWritten.{all_written, write_none, write_row}
use Rattle.gltf_schema.proofs.NullFreeRows.{null_free, null_free_list}
use Rattle.gltf_parts.specs.Accessor.{accessor_kind}
use Rattle.gltf_parts.specs.AccessorDerived.{accessor_no_nulls}
use Rattle.gltf_parts.specs.Buffer.{buffer_kind, view_kind}
use Rattle.gltf_parts.specs.BufferDerived.{buffer_no_nulls, view_no_nulls}
use Rattle.gltf_parts.specs.Image.{image_kind}
use Rattle.gltf_parts.specs.ImageDerived.{image_no_nulls}
use Rattle.gltf_parts.specs.Texture.{sampler_kind, texture_kind}
use Rattle.gltf_parts.specs.TextureDerived.{sampler_no_nulls, texture_no_nulls}
use Rattle.gltf_root.specs.RootExtension.{root_extensions_kind}
use Rattle.gltf_root.specs.RootExtensionDerived.{root_extension_no_nulls}
use Rattle.gltf_scene.specs.Animation.{animation_kind}
use Rattle.gltf_scene.specs.AnimationDerived.{animation_no_nulls}
use Rattle.gltf_scene.specs.Asset.{asset_kind}
use Rattle.gltf_scene.specs.AssetDerived.{asset_no_nulls}
use Rattle.gltf_scene.specs.Camera.{camera_kind}
use Rattle.gltf_scene.specs.CameraDerived.{camera_no_nulls}
use Rattle.gltf_scene.specs.Mesh.{mesh_kind}
use Rattle.gltf_scene.specs.MeshDerived.{mesh_no_nulls}
use Rattle.gltf_scene.specs.Scene.{node_kind, scene_kind, skin_kind}
use Rattle.gltf_scene.specs.SceneDerived.{node_no_nulls, scene_no_nulls, skin_no_nulls}
use Rattle.gltf_root.specs.Root.{root_rows, root_members}
use Rattle.gltf_root.proofs.root.derived.RootStrictObject.write_strictly.Goals as goal

pub returns : goal.returns
unfolding root_rows root_members
returns g c =
    all_written
    (write_row (null_free_list accessor_kind accessor_no_nulls c.list.ensures)
    (write_row (null_free_list animation_kind animation_no_nulls c.list-2.ensures)
    (write_row (null_free asset_kind asset_no_nulls c.always.ensures.required)
    (write_row (null_free_list view_kind view_no_nulls c.list-3.ensures)
    (write_row (null_free_list buffer_kind buffer_no_nulls c.list-4.ensures)
    (write_row (null_free_list camera_kind camera_no_nulls c.list-5.ensures)
    (write_row (null_free root_extensions_kind root_extension_no_nulls c.optional.ensures.optional)
    (write_row c.list-6.ensures
    (write_row c.list-7.ensures
    (write_row c.optional-2.ensures.optional
    (write_row (null_free_list image_kind image_no_nulls c.list-8.ensures)
    (write_row c.list_strictly.ensures
    (write_row (null_free_list mesh_kind mesh_no_nulls c.list-9.ensures)
    (write_row (null_free_list node_kind node_no_nulls c.list-10.ensures)
    (write_row (null_free_list sampler_kind sampler_no_nulls c.list-11.ensures)
    (write_row c.optional-3.ensures.optional
    (write_row (null_free_list scene_kind scene_no_nulls c.list-12.ensures)
    (write_row (null_free_list skin_kind skin_no_nulls c.list-13.ensures)
    (write_row (null_free_list texture_kind texture_no_nulls c.list-14.ensures) write_none)))))))))))))))))))
