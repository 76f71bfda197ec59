-- Accessors that fit their views, and views that fit their buffers (glTF 2.0, section 3.6.2.4).
use Rattle.std.specs.Prelude.{◌≡◌, ◌≢◌, ℕ, ◌+◌, ◌-◌, ◌*◌, ◌%◌, ◌<◌, ◌≤◌, unwrap_or}
use Rattle.gltf_layout.specs.declared.view.ViewLayout.{ViewLayout}
use Rattle.gltf_layout.specs.declared.span.AccessorLayout.{AccessorLayout}
use Rattle.gltf_layout.specs.declared.span.Span.{Span}
use Rattle.gltf_layout.specs.declared.misfit.Misfit.{Misfit}
use Rattle.gltf_layout.specs.declared.misfit.Misfit.TheVariants.{ViewTooLong, StrideTooSmall, NoElements, AccessorTooLong, OffsetUnaligned, StartUnaligned, StrideUnaligned}
use Rattle.gltf_base.specs.Elements.{component_size}
use Rattle.gltf_layout.specs.Sizes.{element_size}

-- SIZE_OF_COMPONENT * NUMBER_OF_COMPONENTS, with what pads matrices
abbrev pub size_of : AccessorLayout → ℕ
size_of a = element_size a.type_ a.component_type

-- EFFECTIVE_BYTE_STRIDE: "When bufferView.byteStride is not defined, accessor elements are tightly packed"
abbrev pub stride_of : AccessorLayout → ViewLayout → ℕ
stride_of a v = unwrap_or v.byte_stride (size_of a)

-- accessor.byteOffset + EFFECTIVE_BYTE_STRIDE * (accessor.count - 1) + SIZE_OF_COMPONENT * NUMBER_OF_COMPONENTS
abbrev pub end_of : AccessorLayout → ViewLayout → ℕ
end_of a v = a.byte_offset + stride_of a v * (a.count - 1) + size_of a

-- the offset of an accessor into a buffer
abbrev pub start_of : AccessorLayout → ViewLayout → ℕ
start_of a v = v.byte_offset + a.byte_offset

-- a multiple of the size of the accessor's component type
abbrev pub IsAligned : AccessorLayout → ℕ → Type 0
IsAligned a n = n % component_size a.component_type ≡ 0

-- a view ends within a buffer of so many bytes (section 5.11)
abbrev pub ViewFits : ViewLayout → ℕ → Type 0
ViewFits v buffer_length = v.byte_offset + v.byte_length ≤ buffer_length

pub record Fits (a : AccessorLayout) (v : ViewLayout) (buffer_length : ℕ) : Type 0 where
  pub view : ViewFits v buffer_length
  -- no element reaches into the next one
  pub stride : size_of a ≤ stride_of a v
  -- section 5.1.5: `count` is at least 1
  pub some : 1 ≤ a.count
  pub end : end_of a v ≤ v.byte_length
  pub offset_aligned : IsAligned a a.byte_offset
  pub start_aligned : IsAligned a (start_of a v)
  pub stride_aligned : IsAligned a (stride_of a v)

abbrev pub span_of : AccessorLayout → ViewLayout → Span
span_of a v = record { start = start_of a v; stride = stride_of a v; size = size_of a; count = a.count }

-- the rule that a misfit breaks
abbrev pub IsMisfit : AccessorLayout → ViewLayout → ℕ → Misfit → Type 0
IsMisfit a v buffer_length ViewTooLong = buffer_length < v.byte_offset + v.byte_length
IsMisfit a v buffer_length StrideTooSmall = stride_of a v < size_of a
IsMisfit a v buffer_length NoElements = a.count ≡ 0
IsMisfit a v buffer_length AccessorTooLong = v.byte_length < end_of a v
IsMisfit a v buffer_length OffsetUnaligned = a.byte_offset % component_size a.component_type ≢ 0
IsMisfit a v buffer_length StartUnaligned = start_of a v % component_size a.component_type ≢ 0
IsMisfit a v buffer_length StrideUnaligned = stride_of a v % component_size a.component_type ≢ 0

-- the rules in front of the one that a misfit breaks
abbrev pub AreMetBefore : AccessorLayout → ViewLayout → ℕ → Misfit → Type 0
AreMetBefore a v buffer_length ViewTooLong = Unit {0}
AreMetBefore a v buffer_length StrideTooSmall = ViewFits v buffer_length
AreMetBefore a v buffer_length NoElements = ViewFits v buffer_length × (size_of a ≤ stride_of a v)
AreMetBefore a v buffer_length AccessorTooLong = ViewFits v buffer_length × (size_of a ≤ stride_of a v) × (1 ≤ a.count)
AreMetBefore a v buffer_length OffsetUnaligned = ViewFits v buffer_length × (size_of a ≤ stride_of a v) × (1 ≤ a.count) × (end_of a v ≤ v.byte_length)
AreMetBefore a v buffer_length StartUnaligned = ViewFits v buffer_length × (size_of a ≤ stride_of a v) × (1 ≤ a.count) × (end_of a v ≤ v.byte_length) × IsAligned a a.byte_offset
AreMetBefore a v buffer_length StrideUnaligned = ViewFits v buffer_length × (size_of a ≤ stride_of a v) × (1 ≤ a.count) × (end_of a v ≤ v.byte_length) × IsAligned a a.byte_offset × IsAligned a (start_of a v)

abbrev pub IsFirstMisfit : AccessorLayout → ViewLayout → ℕ → Misfit → Type 0
IsFirstMisfit a v buffer_length m = AreMetBefore a v buffer_length m × IsMisfit a v buffer_length m
