-- Buffers and buffer views (glTF 2.0, sections 5.10 and 5.11).
use Rattle.std.specs.Prelude.{◌≡◌, ℕ, ◌+◌, ◌%◌, List, [], ◌∷◌, ◌++◌, Bool, true, false, not, ◌&&◌, ◌==◌, nat_lt, nat_le, length, slice_get, Option, Some, None}
use Rattle.gltf_base.specs.declared.validation.USize64.{USize64}
use Rattle.gltf_base.specs.declared.validation.Checked.{Checked}
use Rattle.gltf_base.specs.declared.validation.Checked.TheVariants.{Valid}
use Rattle.gltf_base.specs.declared.buffer.Target.{Target as Use}
use Rattle.gltf_base.specs.declared.buffer.Target.TheVariants.{ElementArrayBuffer}
use Rattle.gltf_base.specs.Indexes.{index_number}
use Rattle.gltf_parts.specs.declared.buffer.Buffer.{Buffer as StoredBuffer}
use Rattle.gltf_parts.specs.declared.buffer.View.{View}
use Rattle.gltf_parts.specs.declared.buffer.Stride.{Stride}
use Rattle.gltf_findings_codes.specs.declared.code.Code.TheVariants.{UnresolvedReference, ValueNotInRange, ValueNotInList, ValueMultipleOf, BufferViewTooBigByteStride, BufferViewInvalidByteStride, BufferViewTooLong}
use Rattle.gltf_findings_codes.specs.declared.name.Name.TheVariants.{Buffers, BufferViews, Buffer, ByteLength, ByteStride, Target}
use Rattle.gltf_findings_codes.specs.declared.finding.Object.{Object}
use Rattle.gltf_findings_codes.specs.declared.finding.Object.TheVariants.{Item}
use Rattle.gltf_findings_codes.specs.declared.finding.Subject.TheVariants.{Member}
use Rattle.gltf_findings_codes.specs.declared.finding.Finding.{Finding}
use Rattle.gltf_findings_codes.specs.Found.{broken, found}
use Rattle.gltf_findings_codes.specs.Rules.{is_some_invalid, is_unresolved}

abbrev pub view_at : ℕ → Object
view_at n = Item BufferViews n

-- section 5.10.2: `byteLength` is at least 1
abbrev pub buffer_rules : ℕ → StoredBuffer → List (Option Finding)
buffer_rules n b = broken (nat_lt b.byte_length.0 1) ValueNotInRange (Member (Item Buffers n) ByteLength) ∷ []

-- section 5.11.4: from 4 to 252
abbrev pub is_stride : ℕ → Bool
is_stride s = nat_le 4 s && nat_le s 252

-- section 5.11.5: the view holds indices
abbrev pub is_for_indices : Option (Checked Use) → Bool
is_for_indices (Some (Valid ElementArrayBuffer)) = true
is_for_indices _ = false

-- so many bytes from an offset on, which is 0 if it isn't there, end behind a length
abbrev pub ends_behind : Option USize64 → ℕ → ℕ → Bool
ends_behind None size len = nat_lt len size
ends_behind (Some offset) size len = nat_lt len (offset.0 + size)

abbrev pub ends_behind_named : Option StoredBuffer → View → Bool
ends_behind_named None v = false
ends_behind_named (Some b) v = ends_behind v.byte_offset v.byte_length.0 b.byte_length.0

-- section 5.11: a view is a part of its buffer
abbrev pub is_behind_buffer : List StoredBuffer → View → Bool
is_behind_buffer buffers v = ends_behind_named (slice_get buffers (index_number v.buffer)) v

abbrev pub view_rules : List StoredBuffer → ℕ → View → List (Option Finding)
view_rules buffers n v =
    broken (is_unresolved (length buffers) v.buffer) UnresolvedReference (Member (view_at n) Buffer)
    -- section 5.11.3
    ∷ broken (nat_lt v.byte_length.0 1) ValueNotInRange (Member (view_at n) ByteLength)
    ∷ broken (is_some_invalid v.target) ValueNotInList (Member (view_at n) Target)
    ∷ broken (is_behind_buffer buffers v) BufferViewTooLong (Member (view_at n) ByteLength)
    ∷ []

-- section 5.11.4: the stride of a view of so many bytes, which may hold indices
abbrev pub stride_rules : ℕ → ℕ → Bool → ℕ → List (Option Finding)
stride_rules n len is_for_indices s =
    broken (not (is_stride s)) ValueNotInRange (Member (view_at n) ByteStride)
    ∷ broken (is_stride s && not (s % 4 == 0)) ValueMultipleOf (Member (view_at n) ByteStride)
    ∷ broken (is_stride s && nat_lt len s) BufferViewTooBigByteStride (Member (view_at n) ByteStride)
    ∷ broken (is_stride s && is_for_indices) BufferViewInvalidByteStride (Member (view_at n) ByteStride)
    ∷ []

abbrev pub stride_findings : ℕ → View → Option Stride → List Finding
stride_findings n v None = []
stride_findings n v (Some s) = found (stride_rules n v.byte_length.0 (is_for_indices v.target) s.0)

abbrev pub view_findings : List StoredBuffer → ℕ → View → List Finding
view_findings buffers n v = found (view_rules buffers n v) ++ stride_findings n v v.byte_stride
