-- The data of an accessor in the buffers of a document (glTF 2.0, sections 5.1 and 5.2): `at` gives the bytes of each buffer.
use Rattle.std.specs.Prelude.{◌≡◌, ℕ, List, Bool, Option, Some, None}
use Rattle.gltf_layout.specs.declared.place.Location.{Location}
use Rattle.gltf_layout.specs.declared.place.SparsePlace.{SparsePlace}
use Rattle.gltf_layout.specs.declared.place.Place.{Place}
use Rattle.gltf_accessors.specs.declared.components.Components.{Components}
use Rattle.gltf_accessors.specs.declared.index_type.IndexType.{IndexType}
use Rattle.gltf_accessors.specs.Indices.{IsIndexType}
use Rattle.gltf_accessors.specs.declared.accessor.Accessor.{Accessor}
use Rattle.gltf_accessors.specs.declared.sparse.Sparse.{Sparse}
use Rattle.gltf_accessors.specs.declared.format.Format.{Format}
use Rattle.gltf_accessors.specs.declared.fault.PartFault.{PartFault}
use Rattle.gltf_accessors.specs.declared.fault.DeviatingFault.{DeviatingFault}
use Rattle.gltf_accessors.specs.declared.fault.DeviatingFault.TheVariants as deviating
use Rattle.gltf_accessors.specs.declared.fault.AccessorDataFault.{AccessorDataFault}
use Rattle.gltf_accessors.specs.declared.fault.AccessorDataFault.TheVariants as fault
use Rattle.gltf_accessors.specs.Parts.{IsPart, IsComponentsFault, IsIndicesFault}
use Rattle.gltf_accessors.specs.Sparse.{IsSparseFault}

-- what the elements of an accessor are
abbrev pub format_of : Place → Bool → Format
format_of p normalized = record { type_ = p.type_; component_type = p.component_type; normalized = normalized }

-- the elements of its view, if it has one
abbrev pub IsBase : {T : Type 0} {N : ℕ} {c : _} → (ℕ → Option (List ℕ)) → Option Location → Option (Components T N c) → Type 0
IsBase at None None = Unit {0}
IsBase at (Some l) (Some b) = IsPart at l b.elements.bytes.now b.elements.span
IsBase at None (Some b) = ⊥
IsBase at (Some l) None = ⊥

-- those that deviate from so many: their indices and their values
pub record IsSparseAt {T : Type 0} {N : ℕ} {c : _} (at : ℕ → Option (List ℕ)) (p : SparsePlace) (count : ℕ) (s : Sparse T N c) : Type 0 where
  pub same_count : s.count ≡ count
  pub indices : IsPart at p.indices s.indices.elements.bytes.now s.indices.elements.span
  pub index_type : IsIndexType p.index_type s.indices.kind
  pub values : IsPart at p.values s.values.elements.bytes.now s.values.elements.span

abbrev pub IsSparseOf : {T : Type 0} {N : ℕ} {c : _} → (ℕ → Option (List ℕ)) → Option SparsePlace → ℕ → Option (Sparse T N c) → Type 0
IsSparseOf at None count None = Unit {0}
IsSparseOf at (Some p) count (Some s) = IsSparseAt at p count s
IsSparseOf at None count (Some s) = ⊥
IsSparseOf at (Some p) count None = ⊥

-- an accessor that lies at a place
pub record IsAccessorAt {T : Type 0} {N : ℕ} {c : _} (at : ℕ → Option (List ℕ)) (p : Place) (a : Accessor T N c) : Type 0 where
  pub count : a.count ≡ p.count
  pub base : IsBase at p.elements a.base
  pub sparse : IsSparseOf at p.sparse p.count a.sparse

-- why there are no such elements of n components in a view
abbrev pub IsBaseFault : (List ℕ → Bool) → ℕ → ℕ → (ℕ → Option (List ℕ)) → Option Location → PartFault → Type 0
IsBaseFault may_be size n at None f = ⊥
IsBaseFault may_be size n at (Some l) f = IsComponentsFault may_be size n at l f

-- why none deviate from so many
abbrev pub IsSparseAtFault : (List ℕ → Bool) → ℕ → ℕ → (ℕ → Option (List ℕ)) → SparsePlace → ℕ → DeviatingFault → Type 0
IsSparseAtFault may_be size n at p count (deviating.Indices f) = IsIndicesFault p.index_type at p.indices f
IsSparseAtFault may_be size n at p count (deviating.Values f) = IsComponentsFault may_be size n at p.values f
IsSparseAtFault may_be size n at p count (deviating.Sparse f) = (bytes : List ℕ) × (t : IndexType) × (at p.indices.buffer ≡ Some bytes) × IsIndexType p.index_type t × IsSparseFault t bytes p.indices.span p.values.span.count count f

abbrev pub IsSparseOfFault : (List ℕ → Bool) → ℕ → ℕ → (ℕ → Option (List ℕ)) → Option SparsePlace → ℕ → DeviatingFault → Type 0
IsSparseOfFault may_be size n at None count f = ⊥
IsSparseOfFault may_be size n at (Some p) count f = IsSparseAtFault may_be size n at p count f

-- why an accessor of n components can't be read
abbrev pub IsDataFault : (List ℕ → Bool) → ℕ → ℕ → (ℕ → Option (List ℕ)) → Place → AccessorDataFault → Type 0
IsDataFault may_be size n at p (fault.Elements f) = IsBaseFault may_be size n at p.elements f
IsDataFault may_be size n at p (fault.Deviating f) = IsSparseOfFault may_be size n at p.sparse p.count f
IsDataFault may_be size n at p fault.Count = (l : Location) × (p.elements ≡ Some l) × (l.span.count ≡ p.count → ⊥)
