-- The names of the numbers by which a document spells choices (glTF 2.0, sections 5.1.3, 5.11.5,
-- 5.24.4 and 5.26.1 to 5.26.4).
use Rattle.std.specs.Prelude.{ℕ, List, codes}
use Rattle.gltf_base.specs.declared.accessor.ComponentType.{ComponentType}
use Rattle.gltf_base.specs.declared.accessor.ComponentType.TheVariants as component
use Rattle.gltf_base.specs.declared.buffer.Target.{Target}
use Rattle.gltf_base.specs.declared.buffer.Target.TheVariants as target
use Rattle.gltf_base.specs.declared.mesh.Mode.{Mode}
use Rattle.gltf_base.specs.declared.mesh.Mode.TheVariants as mode
use Rattle.gltf_base.specs.declared.texture.MagFilter.{MagFilter}
use Rattle.gltf_base.specs.declared.texture.MagFilter.TheVariants as mag_filter
use Rattle.gltf_base.specs.declared.texture.MinFilter.{MinFilter}
use Rattle.gltf_base.specs.declared.texture.MinFilter.TheVariants as min_filter
use Rattle.gltf_base.specs.declared.texture.WrappingMode.{WrappingMode}
use Rattle.gltf_base.specs.declared.texture.WrappingMode.TheVariants as wrapping_mode

abbrev pub component_type_name : ComponentType → List ℕ
component_type_name component.I8 = codes "BYTE"
component_type_name component.U8 = codes "UNSIGNED_BYTE"
component_type_name component.I16 = codes "SHORT"
component_type_name component.U16 = codes "UNSIGNED_SHORT"
component_type_name component.U32 = codes "UNSIGNED_INT"
component_type_name component.F32 = codes "FLOAT"

abbrev pub target_name : Target → List ℕ
target_name target.ArrayBuffer = codes "ARRAY_BUFFER"
target_name target.ElementArrayBuffer = codes "ELEMENT_ARRAY_BUFFER"

abbrev pub mode_name : Mode → List ℕ
mode_name mode.Points = codes "POINTS"
mode_name mode.Lines = codes "LINES"
mode_name mode.LineLoop = codes "LINE_LOOP"
mode_name mode.LineStrip = codes "LINE_STRIP"
mode_name mode.Triangles = codes "TRIANGLES"
mode_name mode.TriangleStrip = codes "TRIANGLE_STRIP"
mode_name mode.TriangleFan = codes "TRIANGLE_FAN"

abbrev pub mag_filter_name : MagFilter → List ℕ
mag_filter_name mag_filter.Nearest = codes "NEAREST"
mag_filter_name mag_filter.Linear = codes "LINEAR"

abbrev pub min_filter_name : MinFilter → List ℕ
min_filter_name min_filter.Nearest = codes "NEAREST"
min_filter_name min_filter.Linear = codes "LINEAR"
min_filter_name min_filter.NearestMipmapNearest = codes "NEAREST_MIPMAP_NEAREST"
min_filter_name min_filter.LinearMipmapNearest = codes "LINEAR_MIPMAP_NEAREST"
min_filter_name min_filter.NearestMipmapLinear = codes "NEAREST_MIPMAP_LINEAR"
min_filter_name min_filter.LinearMipmapLinear = codes "LINEAR_MIPMAP_LINEAR"

abbrev pub wrapping_mode_name : WrappingMode → List ℕ
wrapping_mode_name wrapping_mode.ClampToEdge = codes "CLAMP_TO_EDGE"
wrapping_mode_name wrapping_mode.MirroredRepeat = codes "MIRRORED_REPEAT"
wrapping_mode_name wrapping_mode.Repeat = codes "REPEAT"
