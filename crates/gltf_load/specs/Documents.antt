-- What the buffers, views and accessors of a document say (glTF 2.0, sections 5.1 to 5.4, 5.10 and 5.11).
use Rattle.std.specs.Prelude.{◌≡◌, ℕ, ◌+◌, ◌*◌, ◌≤◌, ◌<◌, List, Option, Some, None, IfSome, map, option_map, slice_get}
use Rattle.gltf_base.specs.declared.validation.Checked.{Checked}
use Rattle.gltf_base.specs.declared.validation.Checked.TheVariants.{Valid, Invalid}
use Rattle.gltf_base.specs.Indexes.{index_number}
use Rattle.gltf_parts.specs.declared.accessor.Accessor.{Accessor}
use Rattle.gltf_parts.specs.declared.accessor.sparse.Sparse.{Sparse}
use Rattle.gltf_parts.specs.declared.buffer.View.{View}
use Rattle.gltf_parts.specs.declared.buffer.Buffer.{Buffer}
use Rattle.gltf_layout.specs.declared.storage.StoredView.{StoredView}
use Rattle.gltf_layout.specs.declared.storage.StoredAccessor.{StoredAccessor}
use Rattle.gltf_layout.specs.declared.storage.StoredSparse.{StoredSparse}
use Rattle.gltf_layout.specs.declared.place.Location.{Location}
use Rattle.gltf_layout.specs.declared.place.Place.{Place}
use Rattle.gltf_layout.specs.Stored.{Stored}
use Rattle.gltf_load.specs.Spans.{offset_or_0, view_layout}

-- a value of a choice, if the document has one
abbrev pub chosen : {X : Type 0} → Checked X → Option X
chosen (Valid x) = Some x
chosen Invalid = None

abbrev pub stored_view : View → StoredView
stored_view v = record { buffer = index_number v.buffer; layout = view_layout v }

abbrev pub stored_sparse : Sparse → StoredSparse
stored_sparse s = record {
  count = s.count.0;
  indices = record { view = index_number s.indices.buffer_view; byte_offset = s.indices.byte_offset.0 };
  index_type = option_map (λ c. c.0) (chosen s.indices.component_type);
  values = record { view = index_number s.values.buffer_view; byte_offset = s.values.byte_offset.0 };
}

abbrev pub stored_accessor : Accessor → StoredAccessor
stored_accessor a = record {
  view = option_map index_number a.buffer_view;
  byte_offset = offset_or_0 a.byte_offset;
  component_type = option_map (λ c. c.0) (chosen a.component_type);
  type_ = chosen a.type_;
  count = a.count.0;
  sparse = option_map stored_sparse a.sparse;
}

-- what the lists of a document hold
abbrev pub stored_in : List Buffer → List View → List Accessor → Stored
stored_in buffers views accessors = record {
  buffers = map (λ b. b.byte_length.0) buffers;
  views = map stored_view views;
  accessors = map stored_accessor accessors;
}

-- each of so many elements ends within the `byteLength` of its buffer
abbrev pub EndWithin : List Buffer → ℕ → Location → Type 0
EndWithin buffers count at = (b : Buffer) × (slice_get buffers at.buffer ≡ Some b) × ((i : ℕ) → i < count → at.span.start + i * at.span.stride + at.span.size ≤ b.byte_length.0)

-- so do the elements of an accessor, and the indices and values of a sparse one
abbrev pub LieWithin : List Buffer → Place → Type 0
LieWithin buffers p = IfSome p.elements (EndWithin buffers p.count) × IfSome p.sparse (λ s. EndWithin buffers s.count s.indices × EndWithin buffers s.count s.values)
