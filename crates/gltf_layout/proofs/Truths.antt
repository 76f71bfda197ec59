-- What is at fault has no place: the faults are no false alarms.
use Rattle.std.proofs.Common.{◌≡◌, ℕ, length, Some, None, subst, sym, ◌∙◌, ap, arith}
use Rattle.std.specs.Prelude.{slice_get, Option}
use Rattle.gltf_base.specs.declared.accessor.ComponentType.{ComponentType}
use Rattle.gltf_base.specs.declared.accessor.AccessorType.{AccessorType}
use Rattle.gltf_layout.specs.declared.view.ViewLayout.{ViewLayout}
use Rattle.gltf_layout.specs.declared.span.AccessorLayout.{AccessorLayout}
use Rattle.gltf_layout.specs.declared.storage.StoredAccessor.{StoredAccessor}
use Rattle.gltf_layout.specs.declared.storage.StoredSparse.{StoredSparse}
use Rattle.gltf_layout.specs.declared.place.Location.{Location}
use Rattle.gltf_layout.specs.declared.place.SparsePlace.{SparsePlace}
use Rattle.gltf_layout.specs.declared.place.Place.{Place}
use Rattle.gltf_layout.specs.declared.misfit.Misfit.{Misfit as MisfitKind}
use Rattle.gltf_layout.specs.declared.misfit.Misfit.TheVariants.{ViewTooLong, StrideTooSmall, NoElements as NoElement, AccessorTooLong, OffsetUnaligned, StartUnaligned, StrideUnaligned}
use Rattle.gltf_layout.specs.declared.fault.PlaceFault.{PlaceFault}
use Rattle.gltf_layout.specs.declared.fault.PlaceFault.TheVariants.{NoSuchView, NoSuchBuffer, Strided, Misfit}
use Rattle.gltf_layout.specs.declared.fault.SparseFault.{SparseFault}
use Rattle.gltf_layout.specs.declared.fault.SparseFault.TheVariants.{TooMany, InvalidIndexType, Indices, Values}
use Rattle.gltf_layout.specs.declared.fault.AccessorFault.{AccessorFault}
use Rattle.gltf_layout.specs.declared.fault.AccessorFault.TheVariants.{InvalidComponentType, InvalidType, NoElements, Elements, Sparse}
use Rattle.gltf_layout.specs.Stored.{Stored}
use Rattle.gltf_layout.specs.Fits.{Fits, IsMisfit}
use Rattle.gltf_layout.specs.Places.{LieIn, LieTightly, LieInNamed, IsSparsePlace, IsPlaceOfSparse, HasElements, IsPlace, HavePlaces, index_layout}
use Rattle.gltf_layout.specs.Faults.{IsPlaceFault, IsTightFault, IsNamedFault, IsSparseFault, IsFaultOfSparse, IsAccessorFault, IsNextAccessorFault}

no_misfit : (l : AccessorLayout) (v : ViewLayout) (b : ℕ) (m : MisfitKind) → IsMisfit l v b m → Fits l v b → ⊥
no_misfit l v b ViewTooLong h f = omega (arith, h, f.view)
no_misfit l v b StrideTooSmall h f = omega (arith, h, f.stride)
no_misfit l v b NoElement h f = omega (arith, h, f.some)
no_misfit l v b AccessorTooLong h f = omega (arith, h, f.end)
no_misfit l v b OffsetUnaligned h f = h f.offset_aligned
no_misfit l v b StartUnaligned h f = h f.start_aligned
no_misfit l v b StrideUnaligned h f = h f.stride_aligned

-- nothing is there and is something
none_is_some : {X : Type 0} (o : Option X) (x : X) → o ≡ None → o ≡ Some x → ⊥
none_is_some o x e f = let both : None ≡ Some x = sym e ∙ f in cc

only_one : {X : Type 0} (o : Option X) (x y : X) → o ≡ Some x → o ≡ Some y → x ≡ y
only_one o x y e f = let both : Some x ≡ Some y = sym e ∙ f in cc

no_place : (d : Stored) (n : ℕ) (l : AccessorLayout) (f : PlaceFault) (at : Location) → IsPlaceFault d n l f → LieIn d n l at → ⊥
no_place d n l (NoSuchView m) at h p = none_is_some (slice_get d.views n) p.v (subst (λ x. slice_get d.views x ≡ None) h.0 h.1) p.is_view.0
no_place d n l (NoSuchBuffer m) at h p =
    let same : h.0 ≡ p.v = only_one (slice_get d.views n) h.0 p.v h.1 p.is_view.0 in
    let here : m ≡ p.v.buffer = h.2 ∙ ap (λ v. v.buffer) same in
    none_is_some (slice_get d.buffers p.v.buffer) p.buffer_length (subst (λ x. slice_get d.buffers x ≡ None) here h.3) p.is_view.1
no_place d n l Strided at h p = h
no_place d n l (Misfit m) at h p =
    let same : h.0 ≡ p.v = only_one (slice_get d.views n) h.0 p.v h.2.0 p.is_view.0 in
    let there : slice_get d.buffers p.v.buffer ≡ Some h.1 = subst (λ v. slice_get d.buffers v.buffer ≡ Some h.1) same h.2.1 in
    let length : h.1 ≡ p.buffer_length = only_one (slice_get d.buffers p.v.buffer) h.1 p.buffer_length there p.is_view.1 in
    let of_view : IsMisfit l p.v.layout h.1 m = subst (λ v. IsMisfit l v.layout h.1 m) same h.3.1 in
    no_misfit l p.v.layout p.buffer_length m (subst (λ b. IsMisfit l p.v.layout b m) length of_view) p.fits

no_tight_place : (d : Stored) (n : ℕ) (l : AccessorLayout) (f : PlaceFault) (at : Location) → IsTightFault d n l f → LieTightly d n l at → ⊥
no_tight_place d n l Strided at h p = p.1 h
no_tight_place d n l (NoSuchView m) at h p = no_place d n l (NoSuchView m) at h.1 p.0
no_tight_place d n l (NoSuchBuffer m) at h p = no_place d n l (NoSuchBuffer m) at h.1 p.0
no_tight_place d n l (Misfit m) at h p = no_place d n l (Misfit m) at h.1 p.0

no_named_place : (d : Stored) (o : Option ℕ) (l : AccessorLayout) (f : PlaceFault) (at : Option Location) → IsNamedFault d o l f → LieInNamed d o l at → ⊥
no_named_place d None l f at h p = h
no_named_place d (Some n) l f None h p = p
no_named_place d (Some n) l f (Some at) h p = no_place d n l f at h p

no_sparse_place : (d : Stored) (s : StoredSparse) (l : AccessorLayout) (f : SparseFault) (at : SparsePlace) → IsSparseFault d s l f → IsSparsePlace d s l at → ⊥
no_sparse_place d s l TooMany at h p = omega (arith, h, p.count)
no_sparse_place d s l InvalidIndexType at h p = h.1 at.index_type p.index_type p.is_index_type
no_sparse_place d s l (Indices f) at h p =
    let same : h.1 ≡ at.index_type = only_one s.index_type h.1 at.index_type h.2 p.index_type in
    no_tight_place d s.indices.view (index_layout s at.index_type) f at.indices (subst (λ c. IsTightFault d s.indices.view (index_layout s c) f) same h.4) p.indices
no_sparse_place d s l (Values f) at h p = no_tight_place d s.values.view (record l { byte_offset = s.values.byte_offset; count = s.count }) f at.values h.6 p.values

no_place_of_sparse : (d : Stored) (o : Option StoredSparse) (l : AccessorLayout) (f : SparseFault) (at : Option SparsePlace) → IsFaultOfSparse d o l f → IsPlaceOfSparse d o l at → ⊥
no_place_of_sparse d None l f at h p = h
no_place_of_sparse d (Some s) l f None h p = p
no_place_of_sparse d (Some s) l f (Some at) h p = no_sparse_place d s l f at h p

abbrev layout_of : ℕ → ComponentType → AccessorType → ℕ → AccessorLayout
layout_of o c t n = record { byte_offset = o; component_type = c; type_ = t; count = n }

same_layout : (a : StoredAccessor) (l m : AccessorLayout) → HasElements a l → HasElements a m → l ≡ m
same_layout a l m h k =
    let byte_offset : l.byte_offset ≡ m.byte_offset = h.byte_offset ∙ sym k.byte_offset in
    let component_type : l.component_type ≡ m.component_type = only_one a.component_type l.component_type m.component_type h.component_type k.component_type in
    let type_ : l.type_ ≡ m.type_ = only_one a.type_ l.type_ m.type_ h.type_ k.type_ in
    let count : l.count ≡ m.count = h.count ∙ sym k.count in
    ap (λ o. layout_of o l.component_type l.type_ l.count) byte_offset ∙ ap (λ c. layout_of m.byte_offset c l.type_ l.count) component_type ∙ ap (λ t. layout_of m.byte_offset m.component_type t l.count) type_ ∙ ap (λ n. layout_of m.byte_offset m.component_type m.type_ n) count

pub no_accessor_place : (d : Stored) (a : StoredAccessor) (f : AccessorFault) (p : Place) → IsAccessorFault d a f → IsPlace d a p → ⊥
no_accessor_place d a InvalidComponentType at h p = none_is_some a.component_type p.l.component_type h p.has.component_type
no_accessor_place d a InvalidType at h p = none_is_some a.type_ p.l.type_ h.1 p.has.type_
no_accessor_place d a NoElements at h p = omega (arith, h.2, p.has.some)
no_accessor_place d a (Elements f) at h p =
    let same : h.0 ≡ p.l = same_layout a h.0 p.l h.1 p.has in
    no_named_place d a.view p.l f at.elements (subst (λ l. IsNamedFault d a.view l f) same h.2) p.elements
no_accessor_place d a (Sparse f) at h p =
    let same : h.0 ≡ p.l = same_layout a h.0 p.l h.1 p.has in
    no_place_of_sparse d a.sparse p.l f at.sparse (subst (λ l. IsFaultOfSparse d a.sparse l f) same h.4) p.sparse

pub no_next_accessor : (d : Stored) (from n : ℕ) (f : AccessorFault) → IsNextAccessorFault d from n f → HavePlaces d from (length d.accessors) → ⊥
no_next_accessor d from n f h have =
    let found = have n h.3 h.0 h.1 h.4 in
    no_accessor_place d h.3 f found.0 h.5 found.1
