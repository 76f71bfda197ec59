-- What is wrong first with a view or an accessor of a document.
use Rattle.std.specs.Prelude.{◌≡◌, ℕ, ◌+◌, ◌<◌, ◌≤◌, length, slice_get, Option, Some, None, IsSome}
use Rattle.gltf_base.specs.declared.accessor.ComponentType.{ComponentType}
use Rattle.gltf_layout.specs.declared.storage.StoredView.{StoredView}
use Rattle.gltf_layout.specs.declared.storage.StoredAccessor.{StoredAccessor}
use Rattle.gltf_layout.specs.declared.storage.StoredSparse.{StoredSparse}
use Rattle.gltf_layout.specs.declared.span.AccessorLayout.{AccessorLayout}
use Rattle.gltf_layout.specs.declared.place.Location.{Location}
use Rattle.gltf_layout.specs.declared.fault.ViewFault.{ViewFault}
use Rattle.gltf_layout.specs.declared.fault.ViewFault.TheVariants as view
use Rattle.gltf_layout.specs.declared.fault.PlaceFault.{PlaceFault}
use Rattle.gltf_layout.specs.declared.fault.PlaceFault.TheVariants.{NoSuchView, NoSuchBuffer, Strided, Misfit}
use Rattle.gltf_layout.specs.declared.fault.SparseFault.{SparseFault}
use Rattle.gltf_layout.specs.declared.fault.SparseFault.TheVariants.{TooMany, InvalidIndexType, Indices, Values}
use Rattle.gltf_layout.specs.declared.fault.AccessorFault.{AccessorFault}
use Rattle.gltf_layout.specs.declared.fault.AccessorFault.TheVariants.{InvalidComponentType, InvalidType, NoElements, Elements, Sparse}
use Rattle.gltf_layout.specs.declared.fault.StorageFault.{StorageFault}
use Rattle.gltf_layout.specs.declared.fault.StorageFault.TheVariants.{View, Accessor}
use Rattle.gltf_layout.specs.declared.fault.LayoutError.{LayoutError}
use Rattle.gltf_layout.specs.declared.fault.LayoutError.TheVariants.{Fault, Memory}
use Rattle.gltf_layout.specs.Stored.{Stored}
use Rattle.gltf_layout.specs.Fits.{IsFirstMisfit}
use Rattle.gltf_layout.specs.Places.{IsViewOf, IsStrided, LieTightly, LieInNamed, IsIndexType, HasElements, index_layout, value_layout, AreParts, HavePlaces}

-- why a view is no part of its buffer
abbrev pub IsViewFault : Stored → StoredView → ViewFault → Type 0
IsViewFault d v (view.NoSuchBuffer n) = (n ≡ v.buffer) × (slice_get d.buffers n ≡ None)
IsViewFault d v view.TooLong = (buffer_length : ℕ) × (slice_get d.buffers v.buffer ≡ Some buffer_length) × (buffer_length < v.layout.byte_offset + v.layout.byte_length)

-- why elements don't lie in a view
abbrev pub IsPlaceFault : Stored → ℕ → AccessorLayout → PlaceFault → Type 0
IsPlaceFault d number l (NoSuchView n) = (n ≡ number) × (slice_get d.views n ≡ None)
IsPlaceFault d number l (NoSuchBuffer n) = (v : StoredView) × (slice_get d.views number ≡ Some v) × (n ≡ v.buffer) × (slice_get d.buffers n ≡ None)
IsPlaceFault d number l Strided = ⊥
IsPlaceFault d number l (Misfit m) = (v : StoredView) × (buffer_length : ℕ) × IsViewOf d number v buffer_length × IsFirstMisfit l v.layout buffer_length m

-- why they don't lie in one without a stride: a stride comes first
abbrev pub IsTightFault : Stored → ℕ → AccessorLayout → PlaceFault → Type 0
IsTightFault d number l Strided = IsStrided d number
IsTightFault d number l f = (IsStrided d number → ⊥) × IsPlaceFault d number l f

abbrev pub IsNamedFault : Stored → Option ℕ → AccessorLayout → PlaceFault → Type 0
IsNamedFault d None l f = ⊥
IsNamedFault d (Some number) l f = IsPlaceFault d number l f

-- what is wrong with deviating elements
abbrev pub IsSparseFault : Stored → StoredSparse → AccessorLayout → SparseFault → Type 0
IsSparseFault d s l TooMany = l.count < s.count
IsSparseFault d s l InvalidIndexType = (s.count ≤ l.count) × ((c : ComponentType) → s.index_type ≡ Some c → IsIndexType c → ⊥)
IsSparseFault d s l (Indices f) = (s.count ≤ l.count) × (c : ComponentType) × (s.index_type ≡ Some c) × IsIndexType c × IsTightFault d s.indices.view (index_layout s c) f
IsSparseFault d s l (Values f) = (s.count ≤ l.count) × (c : ComponentType) × (s.index_type ≡ Some c) × IsIndexType c × (at : Location) × LieTightly d s.indices.view (index_layout s c) at × IsTightFault d s.values.view (value_layout s l) f

abbrev pub IsFaultOfSparse : Stored → Option StoredSparse → AccessorLayout → SparseFault → Type 0
IsFaultOfSparse d None l f = ⊥
IsFaultOfSparse d (Some s) l f = IsSparseFault d s l f

-- what is wrong with an accessor
abbrev pub IsAccessorFault : Stored → StoredAccessor → AccessorFault → Type 0
IsAccessorFault d a InvalidComponentType = a.component_type ≡ None
IsAccessorFault d a InvalidType = IsSome a.component_type × (a.type_ ≡ None)
IsAccessorFault d a NoElements = IsSome a.component_type × IsSome a.type_ × (a.count ≡ 0)
IsAccessorFault d a (Elements f) = (l : AccessorLayout) × HasElements a l × IsNamedFault d a.view l f
IsAccessorFault d a (Sparse f) = (l : AccessorLayout) × HasElements a l × (at : Option Location) × LieInNamed d a.view l at × IsFaultOfSparse d a.sparse l f

-- the first view from a number on that is at fault
abbrev pub IsNextViewFault : Stored → ℕ → ℕ → ViewFault → Type 0
IsNextViewFault d from n f = (from ≤ n) × (n < length d.views) × AreParts d from n × (v : StoredView) × (slice_get d.views n ≡ Some v) × IsViewFault d v f

-- the first accessor
abbrev pub IsNextAccessorFault : Stored → ℕ → ℕ → AccessorFault → Type 0
IsNextAccessorFault d from n f = (from ≤ n) × (n < length d.accessors) × HavePlaces d from n × (a : StoredAccessor) × (slice_get d.accessors n ≡ Some a) × IsAccessorFault d a f

-- the first fault from a view and an accessor on: the views come first
abbrev pub IsNextFault : Stored → ℕ → ℕ → StorageFault → Type 0
IsNextFault d from_view from_accessor (View n f) = IsNextViewFault d from_view n f
IsNextFault d from_view from_accessor (Accessor n f) = AreParts d from_view (length d.views) × IsNextAccessorFault d from_accessor n f

-- the view and the accessor from which on the faults behind a fault are
abbrev pub view_behind : Stored → StorageFault → ℕ
view_behind d (View n f) = n + 1
view_behind d (Accessor n f) = length d.views

abbrev pub accessor_behind : ℕ → StorageFault → ℕ
accessor_behind from_accessor (View n f) = from_accessor
accessor_behind from_accessor (Accessor n f) = n + 1

-- why a document has no layout: the first fault, or memory is refused
abbrev pub IsLayoutError : Stored → LayoutError → Type 0
IsLayoutError d (Fault f) = IsNextFault d 0 0 f
IsLayoutError d (Memory e) = Unit {0}

abbrev pub IsOutOfMemory : LayoutError → Type 0
IsOutOfMemory (Fault f) = ⊥
IsOutOfMemory (Memory e) = Unit {0}
