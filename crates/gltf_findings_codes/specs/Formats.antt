-- Formats of accessors that other objects name.
use Rattle.std.specs.Prelude.{ℕ, List, Bool, true, false, not, ◌&&◌, is_some, slice_get, Option, Some, None}
use Rattle.gltf_base.specs.declared.validation.USize64.{USize64}
use Rattle.gltf_base.specs.declared.validation.Checked.{Checked}
use Rattle.gltf_base.specs.declared.validation.Checked.TheVariants.{Valid, Invalid}
use Rattle.gltf_base.specs.declared.accessor.ComponentType.{ComponentType}
use Rattle.gltf_base.specs.declared.accessor.ComponentType.TheVariants.{I8, U8, I16, U16, U32, F32}
use Rattle.gltf_base.specs.declared.accessor.GenericComponentType.{GenericComponentType}
use Rattle.gltf_base.specs.declared.accessor.AccessorType.{AccessorType}
use Rattle.gltf_base.specs.declared.accessor.AccessorType.TheVariants.{Scalar, Vec2, Vec3, Vec4, Mat4}
use Rattle.gltf_base.specs.declared.index.IndexTo.{IndexTo}
use Rattle.gltf_base.specs.Indexes.{index_number}
use Rattle.gltf_parts.specs.declared.buffer.View.{View}
use Rattle.gltf_parts.specs.declared.accessor.Accessor.{Accessor}
use Rattle.gltf_findings_codes.specs.declared.formats.AllowedFormat.{AllowedFormat}
use Rattle.gltf_findings_codes.specs.declared.formats.AllowedFormat.TheVariants.{Matrices, Times, Indices, Vectors, Rotations, Weights, Tangents, TexCoords, Colors, Joints, JointWeights, QuantizedVectors, QuantizedTangents, QuantizedTexCoords}

-- the accessor that an index names
abbrev pub accessor_of : {P : Type 0} → List Accessor → Option (IndexTo P) → Option Accessor
accessor_of accessors None = None
accessor_of accessors (Some index) = slice_get accessors (index_number index)

abbrev pub has_stride : Option View → Bool
has_stride None = false
has_stride (Some v) = is_some v.byte_stride

-- an index names a view that defines a stride
abbrev pub is_strided : {P : Type 0} → List View → Option (IndexTo P) → Bool
is_strided views None = false
is_strided views (Some index) = has_stride (slice_get views (index_number index))

abbrev pub is_strided_accessor : List View → Option Accessor → Bool
is_strided_accessor views None = false
is_strided_accessor views (Some a) = is_strided views a.buffer_view

-- an index names an accessor whose view defines a stride
abbrev pub is_accessor_strided : {P : Type 0} → List View → List Accessor → Option (IndexTo P) → Bool
is_accessor_strided views accessors index = is_strided_accessor views (accessor_of accessors index)

-- section 3.11: floats, or integers of 8 or 16 bits that are normalized
abbrev pub is_float_or_normalized : ComponentType → Bool → Bool
is_float_or_normalized F32 normalized = not normalized
is_float_or_normalized U32 normalized = false
is_float_or_normalized _ normalized = normalized

-- section 3.7.2.1: floats, or normalized unsigned integers of 8 or 16 bits
abbrev pub is_float_or_unsigned : ComponentType → Bool → Bool
is_float_or_unsigned F32 normalized = not normalized
is_float_or_unsigned U8 normalized = normalized
is_float_or_unsigned U16 normalized = normalized
is_float_or_unsigned _ normalized = false

abbrev pub is_joint : ComponentType → Bool
is_joint U8 = true
is_joint U16 = true
is_joint _ = false

-- KHR_mesh_quantization: floats, or integers of 8 or 16 bits
abbrev pub is_quantized : ComponentType → Bool
is_quantized U32 = false
is_quantized _ = true

abbrev pub is_index : ComponentType → Bool
is_index U8 = true
is_index U16 = true
is_index U32 = true
is_index _ = false

abbrev pub is_float : ComponentType → Bool
is_float F32 = true
is_float _ = false

abbrev pub is_scalar : AccessorType → Bool
is_scalar Scalar = true
is_scalar _ = false

abbrev pub is_vec2 : AccessorType → Bool
is_vec2 Vec2 = true
is_vec2 _ = false

abbrev pub is_color : AccessorType → Bool
is_color Vec3 = true
is_color Vec4 = true
is_color _ = false

abbrev pub is_vec3 : AccessorType → Bool
is_vec3 Vec3 = true
is_vec3 _ = false

abbrev pub is_vec4 : AccessorType → Bool
is_vec4 Vec4 = true
is_vec4 _ = false

abbrev pub is_mat4 : AccessorType → Bool
is_mat4 Mat4 = true
is_mat4 _ = false

-- elements of a type, with components that may be normalized
abbrev pub allows : AllowedFormat → AccessorType → ComponentType → Bool → Bool
-- section 5.28.1
allows Matrices t c normalized = is_mat4 t && (is_float c && not normalized)
-- section 5.8.1
allows Times t c normalized = is_scalar t && (is_float c && not normalized)
-- section 5.24.2
allows Indices t c normalized = (is_scalar t && is_index c) && not normalized
-- section 3.11
allows Vectors t c normalized = is_vec3 t && (is_float c && not normalized)
allows Rotations t c normalized = is_vec4 t && is_float_or_normalized c normalized
allows Weights t c normalized = is_scalar t && is_float_or_normalized c normalized
-- section 3.7.2.1
allows Tangents t c normalized = is_vec4 t && (is_float c && not normalized)
allows TexCoords t c normalized = is_vec2 t && is_float_or_unsigned c normalized
allows Colors t c normalized = is_color t && is_float_or_unsigned c normalized
allows Joints t c normalized = (is_vec4 t && is_joint c) && not normalized
allows JointWeights t c normalized = is_vec4 t && is_float_or_unsigned c normalized
-- KHR_mesh_quantization
allows QuantizedVectors t c normalized = is_vec3 t && is_quantized c
allows QuantizedTangents t c normalized = is_vec4 t && is_quantized c
allows QuantizedTexCoords t c normalized = is_vec2 t && is_quantized c

abbrev pub excludes_types : AllowedFormat → Checked AccessorType → Checked GenericComponentType → Bool → Bool
excludes_types f (Valid t) (Valid c) normalized = not (allows f t c.0 normalized)
excludes_types f _ _ normalized = false

-- an accessor with valid types has elements that may not be so
abbrev pub excludes : AllowedFormat → Accessor → Bool
excludes f a = excludes_types f a.type_ a.component_type a.normalized

abbrev pub excludes_some : AllowedFormat → Option Accessor → Bool
excludes_some f None = false
excludes_some f (Some a) = excludes f a

abbrev pub excludes_named : {P : Type 0} → AllowedFormat → List Accessor → Option (IndexTo P) → Bool
excludes_named f accessors index = excludes_some f (accessor_of accessors index)

abbrev pub has_bounds : Accessor → Bool
has_bounds a = is_some a.min && is_some a.max

-- an offset that isn't there is 0
abbrev pub offset_number : Option USize64 → ℕ
offset_number None = 0
offset_number (Some offset) = offset.0
