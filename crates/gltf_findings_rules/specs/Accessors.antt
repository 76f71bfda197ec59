-- Accessors (glTF 2.0, sections 5.1 to 5.4 and 3.6.2).
use Rattle.std.specs.Prelude.{◌≡◌, ℕ, ◌+◌, ◌-◌, ◌*◌, ◌%◌, List, [], ◌∷◌, ◌++◌, Bool, true, false, not, ◌&&◌, ◌==◌, nat_lt, length, slice_get, is_some, is_none, Option, Some, None, option_map}
use Rattle.serde_json.specs.declared.value.Value.{Value}
use Rattle.serde_json.specs.Events.{items_len}
use Rattle.serde_json.specs.Find.{as_array}
use Rattle.serde_json.specs.View.{view}
use Rattle.gltf_base.specs.declared.validation.Checked.{Checked}
use Rattle.gltf_base.specs.declared.validation.Checked.TheVariants.{Valid, Invalid}
use Rattle.gltf_base.specs.declared.accessor.ComponentType.{ComponentType as Numeric}
use Rattle.gltf_base.specs.declared.accessor.ComponentType.TheVariants.{U32, F32}
use Rattle.gltf_base.specs.declared.accessor.GenericComponentType.{GenericComponentType}
use Rattle.gltf_base.specs.declared.accessor.AccessorType.{AccessorType}
use Rattle.gltf_base.specs.declared.accessor.AccessorType.TheVariants.{Mat2, Mat3, Mat4}
use Rattle.gltf_base.specs.Elements.{component_size, component_count}
use Rattle.gltf_base.specs.Indexes.{index_number}
use Rattle.gltf_layout.specs.Sizes.{element_size}
use Rattle.gltf_parts.specs.declared.buffer.View.{View}
use Rattle.gltf_parts.specs.declared.buffer.Stride.{Stride}
use Rattle.gltf_parts.specs.declared.accessor.Accessor.{Accessor}
use Rattle.gltf_parts.specs.declared.accessor.sparse.Sparse.{Sparse as Deviating}
use Rattle.gltf_findings_codes.specs.declared.code.Code.TheVariants.{UnresolvedReference, UnsatisfiedDependency, ValueNotInRange, ValueNotInList, AccessorNormalizedInvalid, AccessorMatrixAlignment, AccessorSparseCountOutOfRange, AccessorOffsetAlignment, AccessorTotalOffsetAlignment, AccessorSmallBytestride, AccessorTooLong, ArrayLengthNotInList}
use Rattle.gltf_findings_codes.specs.declared.name.Name.TheVariants.{Accessors, BufferView, ByteOffset, ComponentType, «Type», Count, Normalized, Sparse, Indices, Values, Min, Max}
use Rattle.gltf_findings_codes.specs.declared.finding.Object.{Object as Of}
use Rattle.gltf_findings_codes.specs.declared.finding.Object.TheVariants.{Item, Part, Inner}
use Rattle.gltf_findings_codes.specs.declared.finding.Subject.TheVariants.{Object, Member}
use Rattle.gltf_findings_codes.specs.declared.finding.Finding.{Finding}
use Rattle.gltf_findings_codes.specs.Found.{broken, found, findings_if}
use Rattle.gltf_findings_codes.specs.Formats.{offset_number}
use Rattle.gltf_findings_codes.specs.Rules.{is_invalid, is_unresolved, is_some_unresolved}

abbrev pub accessor_at : ℕ → Of
accessor_at n = Item Accessors n

abbrev pub component_of : Checked GenericComponentType → Option Numeric
component_of (Valid c) = Some c.0
component_of Invalid = None

abbrev pub type_of_elements : Checked AccessorType → Option AccessorType
type_of_elements (Valid t) = Some t
type_of_elements Invalid = None

-- section 5.1.4: `normalized` "MUST NOT be set to true for accessors with FLOAT or UNSIGNED_INT component type"
abbrev pub is_wide : Option Numeric → Bool
is_wide (Some U32) = true
is_wide (Some F32) = true
is_wide _ = false

abbrev pub cannot_be_normalized : Checked GenericComponentType → Bool
cannot_be_normalized c = is_wide (component_of c)

abbrev pub is_matrix : Checked AccessorType → Bool
is_matrix (Valid Mat2) = true
is_matrix (Valid Mat3) = true
is_matrix (Valid Mat4) = true
is_matrix _ = false

-- an accessor among so many views
abbrev pub accessor_rules : ℕ → ℕ → Accessor → List (Option Finding)
accessor_rules views n a =
    broken (is_some_unresolved views a.buffer_view) UnresolvedReference (Member (accessor_at n) BufferView)
    -- section 5.1.2: `byteOffset` "MUST NOT be defined when bufferView is undefined"
    ∷ broken (is_some a.byte_offset && is_none a.buffer_view) UnsatisfiedDependency (Member (accessor_at n) ByteOffset)
    -- sections 5.1.3 and 5.1.6
    ∷ broken (is_invalid a.component_type) ValueNotInList (Member (accessor_at n) ComponentType)
    ∷ broken (is_invalid a.type_) ValueNotInList (Member (accessor_at n) «Type»)
    -- section 5.1.5: `count` is at least 1
    ∷ broken (nat_lt a.count.0 1) ValueNotInRange (Member (accessor_at n) Count)
    ∷ broken (a.normalized && cannot_be_normalized a.component_type) AccessorNormalizedInvalid (Member (accessor_at n) Normalized)
    -- section 3.6.2.4: "the start of each column MUST be aligned to 4-byte boundaries"
    ∷ broken (is_matrix a.type_ && not (offset_number a.byte_offset % 4 == 0)) AccessorMatrixAlignment (Member (accessor_at n) ByteOffset)
    ∷ []

-- how many items a value has, if it is an array
abbrev pub item_count : Value → Option ℕ
item_count v = option_map items_len (as_array (view v))

abbrev pub is_other_count : Option ℕ → Option AccessorType → Bool
is_other_count (Some n) (Some t) = not (n == component_count t)
is_other_count _ _ = false

abbrev pub has_other_length : Option Value → Option AccessorType → Bool
has_other_length None t = false
has_other_length (Some v) t = is_other_count (item_count v) t

-- sections 5.1.8 and 5.1.9: "Array elements MUST be treated as having the same data type as accessor's componentType", one for each component
abbrev pub bound_rules : ℕ → Accessor → List (Option Finding)
bound_rules n a =
    broken (has_other_length a.min (type_of_elements a.type_)) ArrayLengthNotInList (Member (accessor_at n) Min)
    ∷ broken (has_other_length a.max (type_of_elements a.type_)) ArrayLengthNotInList (Member (accessor_at n) Max)
    ∷ []

-- sections 5.2 to 5.4: the deviating elements of an accessor with so many elements
abbrev pub sparse_rules : ℕ → ℕ → ℕ → Deviating → List (Option Finding)
sparse_rules views n count s =
    broken (nat_lt s.count.0 1) ValueNotInRange (Member (Part Accessors n Sparse) Count)
    -- section 3.6.2.3
    ∷ broken (nat_lt count s.count.0) AccessorSparseCountOutOfRange (Member (Part Accessors n Sparse) Count)
    ∷ broken (is_unresolved views s.indices.buffer_view) UnresolvedReference (Member (Inner Accessors n Sparse Indices) BufferView)
    ∷ broken (is_invalid s.indices.component_type) ValueNotInList (Member (Inner Accessors n Sparse Indices) ComponentType)
    ∷ broken (is_unresolved views s.values.buffer_view) UnresolvedReference (Member (Inner Accessors n Sparse Values) BufferView)
    ∷ []

-- the view that an accessor names
abbrev pub view_of_index : List View → Option ℕ → Option View
view_of_index views None = None
view_of_index views (Some n) = slice_get views n

abbrev pub view_of : List View → Accessor → Option View
view_of views a = view_of_index views (option_map index_number a.buffer_view)

-- section 3.6.2.4: EFFECTIVE_BYTE_STRIDE, by the size of an element
abbrev pub stride_or : Option Stride → ℕ → ℕ
stride_or None size = size
stride_or (Some s) size = s.0

-- section 3.6.2.4: accessor.byteOffset + EFFECTIVE_BYTE_STRIDE * (accessor.count - 1) + SIZE_OF_COMPONENT * NUMBER_OF_COMPONENTS
abbrev pub is_behind_view : Accessor → View → ℕ → Bool
is_behind_view a v size = nat_lt v.byte_length.0 (offset_number a.byte_offset + stride_or v.byte_stride size * (a.count.0 - 1) + size)

abbrev pub is_small : Option Stride → ℕ → Bool
is_small None size = false
is_small (Some s) size = nat_lt s.0 size

-- where elements with components of so many bytes, and so many bytes in all, lie in a view (section 3.6.2.4)
abbrev pub layout_rules : ℕ → Accessor → View → ℕ → ℕ → List (Option Finding)
layout_rules n a v component size =
    broken (not (offset_number a.byte_offset % component == 0)) AccessorOffsetAlignment (Member (accessor_at n) ByteOffset)
    ∷ broken (not ((offset_number v.byte_offset + offset_number a.byte_offset) % component == 0)) AccessorTotalOffsetAlignment (Member (accessor_at n) ByteOffset)
    ∷ broken (is_small v.byte_stride size) AccessorSmallBytestride (Object (accessor_at n))
    ∷ broken (is_behind_view a v size) AccessorTooLong (Object (accessor_at n))
    ∷ []

-- the same by the types of an accessor, if they are valid, and its view
abbrev pub elements_of : ℕ → Accessor → Option Numeric → Option AccessorType → Option View → List (Option Finding)
elements_of n a (Some c) (Some t) (Some v) = layout_rules n a v (component_size c) (element_size t c)
elements_of n a _ _ _ = []

abbrev pub elements_rules : List View → ℕ → Accessor → List (Option Finding)
elements_rules views n a = elements_of n a (component_of a.component_type) (type_of_elements a.type_) (view_of views a)

abbrev pub accessor_findings : List View → ℕ → Accessor → List Finding
accessor_findings views n a =
    found (accessor_rules (length views) n a)
    ++ found (bound_rules n a)
    ++ findings_if (λ s. found (sparse_rules (length views) n a.count.0 s)) a.sparse
    ++ found (elements_rules views n a)
