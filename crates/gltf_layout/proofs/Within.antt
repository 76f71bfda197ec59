-- The elements of a place end within their buffers.
use Rattle.std.proofs.Common.{◌≡◌, ℕ, ◌+◌, ◌*◌, ◌<◌, ◌≤◌, List, Some, None, subst, sym}
use Rattle.std.specs.Prelude.{slice_get, Option, IfSome}
use Rattle.std.proofs.lemmas.Option.{slice_get_within}
use Rattle.gltf_base.specs.declared.accessor.AccessorType.TheVariants.{Scalar}
use Rattle.gltf_layout.specs.declared.view.ViewLayout.{ViewLayout}
use Rattle.gltf_layout.specs.declared.span.AccessorLayout.{AccessorLayout}
use Rattle.gltf_layout.specs.declared.storage.StoredAccessor.{StoredAccessor}
use Rattle.gltf_layout.specs.declared.storage.StoredSparse.{StoredSparse}
use Rattle.gltf_layout.specs.declared.place.Location.{Location}
use Rattle.gltf_layout.specs.declared.place.SparsePlace.{SparsePlace}
use Rattle.gltf_layout.specs.declared.place.Place.{Place}
use Rattle.gltf_layout.specs.Stored.{Stored}
use Rattle.gltf_layout.specs.Fits.{Fits, start_of, stride_of, size_of}
use Rattle.gltf_layout.specs.Places.{LieIn, LieInNamed, IsPlaceOfSparse, IsPlace, ArePlaces, AreWithin, IsWithinBuffers}
use Rattle.gltf_layout.proofs.Checked.{is_there}

-- what is known of one accessor, a view and a buffer
abbrev pub FitsIsWithin : Type 0
FitsIsWithin = (a : AccessorLayout) (v : ViewLayout) (buffer_length i : ℕ) → Fits a v buffer_length → i < a.count → start_of a v + i * stride_of a v + size_of a ≤ buffer_length

are_within : FitsIsWithin → (d : Stored) (view count : ℕ) (l : AccessorLayout) (at : Location) → count ≡ l.count → LieIn d view l at → AreWithin d count at
are_within within d view count l at same h = (
  h.buffer_length,
  subst (λ n. slice_get d.buffers n ≡ Some h.buffer_length) (sym h.buffer) h.is_view.1,
  λ i small. subst (λ s. s.start + i * s.stride + s.size ≤ h.buffer_length) (sym h.span) (within l h.v.layout h.buffer_length i h.fits (subst (λ n. i < n) same small)),
)

elements_within : FitsIsWithin → (d : Stored) (view : Option ℕ) (count : ℕ) (l : AccessorLayout) (at : Option Location) → count ≡ l.count → LieInNamed d view l at → IfSome at (AreWithin d count)
elements_within within d view count l None same h = tt
elements_within within d None count l (Some at) same h = absurd h
elements_within within d (Some view) count l (Some at) same h = are_within within d view count l at same h

sparse_within : FitsIsWithin → (d : Stored) (sparse : Option StoredSparse) (l : AccessorLayout) (p : Option SparsePlace) → IsPlaceOfSparse d sparse l p → IfSome p (λ s. AreWithin d s.count s.indices × AreWithin d s.count s.values)
sparse_within within d sparse l None h = tt
sparse_within within d None l (Some p) h = absurd h
sparse_within within d (Some s) l (Some p) h = (
  are_within within d s.indices.view p.count (record { byte_offset = s.indices.byte_offset; component_type = p.index_type; type_ = Scalar; count = s.count }) p.indices h.same_count h.indices.0,
  are_within within d s.values.view p.count (record l { byte_offset = s.values.byte_offset; count = s.count }) p.values h.same_count h.values.0,
)

pub place_within : FitsIsWithin → (d : Stored) (a : StoredAccessor) (p : Place) → IsPlace d a p → IsWithinBuffers d p
place_within within d a p h = (elements_within within d a.view p.count h.l p.elements h.count h.elements, sparse_within within d a.sparse h.l p.sparse h.sparse)

pub layout_within : FitsIsWithin → (d : Stored) (places : List Place) (n : ℕ) (p : Place) → ArePlaces d places → slice_get places n ≡ Some p → IsWithinBuffers d p
layout_within within d places n p s at =
    let accessor = is_there d.accessors n (subst (λ k. n < k) s.len (slice_get_within places n p at)) in
    place_within within d accessor.0 p (s.each n accessor.0 p accessor.1 at)
