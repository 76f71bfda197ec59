-- The attributes of a primitive (glTF 2.0, section 3.7.2.1).
use Rattle.std.specs.Prelude.{ℕ, ◌%◌, ◌==◌, List, [], ◌∷◌, ◌++◌, Bool, true, false, not, ◌&&◌, ◌||◌, if◌then◌else◌, nat_lt, nat_le, length, slice_get, is_none, Option, Some, None}
use Rattle.gltf_base.specs.declared.validation.Checked.{Checked}
use Rattle.gltf_base.specs.declared.validation.Checked.TheVariants.{Valid, Invalid}
use Rattle.gltf_base.specs.declared.accessor.ComponentType.{ComponentType}
use Rattle.gltf_base.specs.declared.accessor.ComponentType.TheVariants.{U32}
use Rattle.gltf_base.specs.declared.accessor.GenericComponentType.{GenericComponentType}
use Rattle.gltf_base.specs.declared.accessor.AccessorType.{AccessorType}
use Rattle.gltf_base.specs.declared.index.IndexTo.{IndexTo}
use Rattle.gltf_base.specs.Indexes.{index_number}
use Rattle.gltf_base.specs.Keys as key
use Rattle.gltf_layout.specs.Sizes.{element_size}
use Rattle.gltf_parts.specs.declared.buffer.View.{View}
use Rattle.gltf_parts.specs.declared.accessor.Accessor.{Accessor}
use Rattle.gltf_findings_codes.specs.declared.attribute.Attribute.TheVariants.{Positions, Normals, Tangents, Colors, TexCoords, Joints, Weights}
use Rattle.gltf_findings_codes.specs.declared.code.Code.TheVariants.{UnresolvedReference, MeshPrimitiveInvalidAttribute, MeshPrimitiveAttributesAccessorInvalidFormat, MeshPrimitiveAttributesAccessorUnsignedInt, MeshPrimitivePositionAccessorWithoutBounds, MeshPrimitiveUnequalAccessorCount, MeshPrimitiveAccessorUnaligned}
use Rattle.gltf_findings_codes.specs.declared.name.Name.TheVariants.{Meshes, Primitives, Attributes}
use Rattle.gltf_findings_codes.specs.declared.finding.Object.{Object as Of}
use Rattle.gltf_findings_codes.specs.declared.finding.Object.TheVariants.{NestedPart}
use Rattle.gltf_findings_codes.specs.declared.finding.Subject.{Subject}
use Rattle.gltf_findings_codes.specs.declared.finding.Subject.TheVariants.{Object, Attribute}
use Rattle.gltf_findings_codes.specs.declared.finding.Finding.{Finding}
use Rattle.gltf_findings_codes.specs.declared.formats.AllowedFormat.{AllowedFormat}
use Rattle.gltf_findings_codes.specs.declared.formats.AllowedFormat.TheVariants as format
use Rattle.gltf_findings_codes.specs.Found.{broken, found}
use Rattle.gltf_findings_codes.specs.Formats.{excludes, has_bounds, offset_number}
use Rattle.gltf_findings_rules.specs.Counts.{count_at, differ}

abbrev pub attributes_at : ℕ → ℕ → Of
attributes_at n k = NestedPart Meshes n Primitives k Attributes

-- an attribute is found at its name, or at all attributes if the specification has no name for it
abbrev pub attribute_place : ℕ → ℕ → key.Key → Subject
attribute_place n k key.positions = Attribute (attributes_at n k) Positions
attribute_place n k key.normals = Attribute (attributes_at n k) Normals
attribute_place n k key.tangents = Attribute (attributes_at n k) Tangents
attribute_place n k (key.colors set) = Attribute (attributes_at n k) (Colors set)
attribute_place n k (key.tex_coords set) = Attribute (attributes_at n k) (TexCoords set)
attribute_place n k (key.joints set) = Attribute (attributes_at n k) (Joints set)
attribute_place n k (key.weights set) = Attribute (attributes_at n k) (Weights set)
attribute_place n k _ = Object (attributes_at n k)

abbrev pub vector_format : Bool → AllowedFormat
vector_format is_quantized = if is_quantized then format.QuantizedVectors else format.Vectors

-- section 3.7.2.1: the formats of attributes, and those that KHR_mesh_quantization adds
abbrev pub attribute_format : Bool → key.Key → Option AllowedFormat
attribute_format q key.positions = Some (vector_format q)
attribute_format q key.normals = Some (vector_format q)
attribute_format q key.tangents = Some (if q then format.QuantizedTangents else format.Tangents)
attribute_format q (key.tex_coords set) = Some (if q then format.QuantizedTexCoords else format.TexCoords)
attribute_format q (key.colors set) = Some format.Colors
attribute_format q (key.joints set) = Some format.Joints
attribute_format q (key.weights set) = Some format.JointWeights
attribute_format q _ = None

abbrev pub has_other_format : Option AllowedFormat → Option Accessor → Bool
has_other_format (Some f) (Some a) = excludes f a
has_other_format _ _ = false

abbrev pub is_unknown : key.Key → Bool
is_unknown key.unknown = true
is_unknown _ = false

abbrev pub is_position : key.Key → Bool
is_position key.positions = true
is_position _ = false

abbrev pub is_extra : key.Key → Bool
is_extra (key.extras name) = true
is_extra _ = false

abbrev pub is_u32 : ComponentType → Bool
is_u32 U32 = true
is_u32 _ = false

abbrev pub is_unsigned_int : Checked GenericComponentType → Bool
is_unsigned_int (Valid c) = is_u32 c.0
is_unsigned_int Invalid = false

abbrev pub is_unsigned_extra : Option Accessor → Bool
is_unsigned_extra None = false
is_unsigned_extra (Some a) = is_unsigned_int a.component_type

abbrev pub lacks_bounds : Option Accessor → Bool
lacks_bounds None = false
lacks_bounds (Some a) = not (has_bounds a)

-- elements that are packed tightly, and more than one
abbrev pub is_packed_unaligned : ℕ → Checked AccessorType → Checked GenericComponentType → Bool
is_packed_unaligned count (Valid t) (Valid c) = nat_lt 1 count && not (element_size t c.0 % 4 == 0)
is_packed_unaligned count _ _ = false

-- section 3.6.2.4: "each element of a vertex attribute MUST be aligned to 4-byte boundaries inside a bufferView"
abbrev pub is_unaligned_in : Accessor → View → Bool
is_unaligned_in a v = not (offset_number a.byte_offset % 4 == 0) || (is_none v.byte_stride && is_packed_unaligned a.count.0 a.type_ a.component_type)

abbrev pub is_unaligned_in_named : Accessor → Option View → Bool
is_unaligned_in_named a None = false
is_unaligned_in_named a (Some v) = is_unaligned_in a v

abbrev pub is_unaligned_by : {P : Type 0} → List View → Accessor → Option (IndexTo P) → Bool
is_unaligned_by views a None = false
is_unaligned_by views a (Some i) = is_unaligned_in_named a (slice_get views (index_number i))

abbrev pub is_unaligned : List View → Option Accessor → Bool
is_unaligned views None = false
is_unaligned views (Some a) = is_unaligned_by views a a.buffer_view

-- an attribute by its meaning and the number of its accessor, in a primitive with so many vertices
abbrev pub attribute_rules : Bool → Option ℕ → List View → List Accessor → ℕ → ℕ → key.Key → ℕ → List (Option Finding)
attribute_rules is_quantized vertices views accessors n k x a =
    broken (nat_le (length accessors) a) UnresolvedReference (attribute_place n k x)
    ∷ broken (is_unknown x) MeshPrimitiveInvalidAttribute (attribute_place n k x)
    ∷ broken (has_other_format (attribute_format is_quantized x) (slice_get accessors a)) MeshPrimitiveAttributesAccessorInvalidFormat (attribute_place n k x)
    -- "Application-specific attribute semantics MUST NOT use unsigned int component type"
    ∷ broken (is_extra x && is_unsigned_extra (slice_get accessors a)) MeshPrimitiveAttributesAccessorUnsignedInt (attribute_place n k x)
    -- "POSITION accessor MUST have its min and max properties defined"
    ∷ broken (is_position x && lacks_bounds (slice_get accessors a)) MeshPrimitivePositionAccessorWithoutBounds (attribute_place n k x)
    -- "All attribute accessors for a given primitive MUST have the same count"
    ∷ broken (differ vertices (count_at accessors (Some a))) MeshPrimitiveUnequalAccessorCount (attribute_place n k x)
    ∷ broken (is_unaligned views (slice_get accessors a)) MeshPrimitiveAccessorUnaligned (attribute_place n k x)
    ∷ []

-- all attributes, in the order of their meanings
abbrev pub attribute_findings : Bool → Option ℕ → List View → List Accessor → ℕ → ℕ → List (key.Key × ℕ) → List Finding
attribute_findings is_quantized vertices views accessors n k [] = []
attribute_findings is_quantized vertices views accessors n k (e ∷ es) = found (attribute_rules is_quantized vertices views accessors n k e.0 e.1) ++ attribute_findings is_quantized vertices views accessors n k es
