-- Where the elements of accessors lie (glTF 2.0, sections 3.6.1, 3.6.2 and 5.1 to 5.4).
use Rattle.std.specs.Prelude.{◌≡◌, ℕ, ◌+◌, ◌*◌, ◌≤◌, ◌<◌, List, length, slice_get, Option, Some, None, IsSome, IfSome}
use Rattle.gltf_base.specs.declared.accessor.ComponentType.{ComponentType}
use Rattle.gltf_base.specs.declared.accessor.ComponentType.TheVariants.{I8, U8, I16, U16, U32, F32}
use Rattle.gltf_base.specs.declared.accessor.AccessorType.TheVariants.{Scalar}
use Rattle.gltf_layout.specs.declared.storage.StoredView.{StoredView}
use Rattle.gltf_layout.specs.declared.storage.StoredAccessor.{StoredAccessor}
use Rattle.gltf_layout.specs.declared.storage.StoredSparse.{StoredSparse}
use Rattle.gltf_layout.specs.declared.span.AccessorLayout.{AccessorLayout}
use Rattle.gltf_layout.specs.declared.place.Location.{Location}
use Rattle.gltf_layout.specs.declared.place.SparsePlace.{SparsePlace}
use Rattle.gltf_layout.specs.declared.place.Place.{Place}
use Rattle.gltf_layout.specs.Stored.{Stored}
use Rattle.gltf_layout.specs.Fits.{Fits, ViewFits, span_of}

-- a view, and the length of the buffer that it names
abbrev pub IsViewOf : Stored → ℕ → StoredView → ℕ → Type 0
IsViewOf d number v buffer_length = (slice_get d.views number ≡ Some v) × (slice_get d.buffers v.buffer ≡ Some buffer_length)

-- elements lie in a view, and the view in its buffer
pub record LieIn (d : Stored) (view : ℕ) (l : AccessorLayout) (at : Location) : Type 0 where
  pub v : StoredView
  pub buffer_length : ℕ
  pub is_view : IsViewOf d view v buffer_length
  pub fits : Fits l v.layout buffer_length
  pub buffer : at.buffer ≡ v.buffer
  pub span : at.span ≡ span_of l v.layout

-- a view exists and defines `byteStride`
abbrev pub IsStrided : Stored → ℕ → Type 0
IsStrided d view = (v : StoredView) × (slice_get d.views view ≡ Some v) × IsSome v.layout.byte_stride

-- sections 5.3.1 and 5.4.1: the view of indices or values "MUST NOT have its target or byteStride properties defined"
abbrev pub LieTightly : Stored → ℕ → AccessorLayout → Location → Type 0
LieTightly d view l at = LieIn d view l at × (IsStrided d view → ⊥)

-- section 5.1.1: without a view the elements are zeros
abbrev pub LieInNamed : Stored → Option ℕ → AccessorLayout → Option Location → Type 0
LieInNamed d None l None = Unit {0}
LieInNamed d (Some view) l (Some at) = LieIn d view l at
LieInNamed d None l (Some at) = ⊥
LieInNamed d (Some view) l None = ⊥

-- section 5.3.3: indices are unsigned integers
abbrev pub IsIndexType : ComponentType → Type 0
IsIndexType U8 = Unit {0}
IsIndexType U16 = Unit {0}
IsIndexType U32 = Unit {0}
IsIndexType I8 = ⊥
IsIndexType I16 = ⊥
IsIndexType F32 = ⊥

-- the indices of a sparse accessor: as many numbers as elements deviate (section 3.6.2.3)
abbrev pub index_layout : StoredSparse → ComponentType → AccessorLayout
index_layout s c = record { byte_offset = s.indices.byte_offset; component_type = c; type_ = Scalar; count = s.count }

-- its values: as many elements of the accessor's own type
abbrev pub value_layout : StoredSparse → AccessorLayout → AccessorLayout
value_layout s l = record l { byte_offset = s.values.byte_offset; count = s.count }

-- section 3.6.2.3: where the deviating elements of a sparse accessor lie
pub record IsSparsePlace (d : Stored) (s : StoredSparse) (l : AccessorLayout) (p : SparsePlace) : Type 0 where
  -- "This number MUST NOT be greater than the number of the base accessor elements"
  pub count : s.count ≤ l.count
  pub same_count : p.count ≡ s.count
  pub index_type : s.index_type ≡ Some p.index_type
  pub is_index_type : IsIndexType p.index_type
  pub indices : LieTightly d s.indices.view (index_layout s p.index_type) p.indices
  pub values : LieTightly d s.values.view (value_layout s l) p.values

abbrev pub IsPlaceOfSparse : Stored → Option StoredSparse → AccessorLayout → Option SparsePlace → Type 0
IsPlaceOfSparse d None l None = Unit {0}
IsPlaceOfSparse d (Some s) l (Some p) = IsSparsePlace d s l p
IsPlaceOfSparse d None l (Some p) = ⊥
IsPlaceOfSparse d (Some s) l None = ⊥

-- an accessor has elements of valid types (sections 5.1.3, 5.1.5 and 5.1.6), which are so laid out
pub record HasElements (a : StoredAccessor) (l : AccessorLayout) : Type 0 where
  pub byte_offset : l.byte_offset ≡ a.byte_offset
  pub component_type : a.component_type ≡ Some l.component_type
  pub type_ : a.type_ ≡ Some l.type_
  pub count : l.count ≡ a.count
  pub some : 1 ≤ a.count

-- where the elements of an accessor lie
pub record IsPlace (d : Stored) (a : StoredAccessor) (p : Place) : Type 0 where
  pub l : AccessorLayout
  pub has : HasElements a l
  pub component_type : p.component_type ≡ l.component_type
  pub type_ : p.type_ ≡ l.type_
  pub count : p.count ≡ l.count
  pub elements : LieInNamed d a.view l p.elements
  pub sparse : IsPlaceOfSparse d a.sparse l p.sparse

-- section 5.11: a view is a part of its buffer
abbrev pub IsPart : Stored → StoredView → Type 0
IsPart d v = (buffer_length : ℕ) × (slice_get d.buffers v.buffer ≡ Some buffer_length) × ViewFits v.layout buffer_length

-- the views with these numbers are parts of their buffers
abbrev pub AreParts : Stored → ℕ → ℕ → Type 0
AreParts d from bound = (n : ℕ) (v : StoredView) → from ≤ n → n < bound → slice_get d.views n ≡ Some v → IsPart d v

-- the elements of the accessors with these numbers have places
abbrev pub HavePlaces : Stored → ℕ → ℕ → Type 0
HavePlaces d from bound = (n : ℕ) (a : StoredAccessor) → from ≤ n → n < bound → slice_get d.accessors n ≡ Some a → (p : Place) × IsPlace d a p

-- from a view and an accessor on, every view is a part of its buffer, and the elements of every accessor have a place
abbrev pub AreFaultless : Stored → ℕ → ℕ → Type 0
AreFaultless d from_view from_accessor = AreParts d from_view (length d.views) × HavePlaces d from_accessor (length d.accessors)

-- this holds of the whole document
abbrev pub HasLayout : Stored → Type 0
HasLayout d = AreFaultless d 0 0

-- the places of the first accessors
pub record ArePlacesBelow (d : Stored) (places : List Place) (bound : ℕ) : Type 0 where
  pub len : length places ≡ bound
  pub each : (n : ℕ) (a : StoredAccessor) (p : Place) → slice_get d.accessors n ≡ Some a → slice_get places n ≡ Some p → IsPlace d a p

-- the place of each accessor
abbrev pub ArePlaces : Stored → List Place → Type 0
ArePlaces d places = ArePlacesBelow d places (length d.accessors)

-- each of so many elements ends within the buffer
abbrev pub AreWithin : Stored → ℕ → Location → Type 0
AreWithin d count at = (buffer_length : ℕ) × (slice_get d.buffers at.buffer ≡ Some buffer_length) × ((i : ℕ) → i < count → at.span.start + i * at.span.stride + at.span.size ≤ buffer_length)

-- so do the elements of an accessor, and the indices and values of a sparse one
abbrev pub IsWithinBuffers : Stored → Place → Type 0
IsWithinBuffers d p = IfSome p.elements (AreWithin d p.count) × IfSome p.sparse (λ s. AreWithin d s.count s.indices × AreWithin d s.count s.values)
