-- Places within the buffers of a document.
use Rattle.std.proofs.Common.{◌≡◌, ℕ, ◌+◌, ◌*◌, ◌≤◌, List, Option, Some, None, refl, sym, ◌∙◌, subst}
use Rattle.std.specs.Prelude.{slice_get, option_map, IfSome}
use Rattle.std.proofs.lemmas.Option.{slice_get-map}
use Rattle.gltf_parts.specs.declared.accessor.Accessor.{Accessor}
use Rattle.gltf_parts.specs.declared.buffer.View.{View}
use Rattle.gltf_parts.specs.declared.buffer.Buffer.{Buffer}
use Rattle.gltf_layout.specs.declared.place.Location.{Location}
use Rattle.gltf_layout.specs.declared.place.SparsePlace.{SparsePlace}
use Rattle.gltf_layout.specs.declared.place.Place.{Place}
use Rattle.gltf_layout.specs.Places.{AreWithin, IsWithinBuffers}
use Rattle.gltf_load.specs.Documents.{stored_in, EndWithin, LieWithin}

-- what is found in a list that was mapped
mapped_from : {X Y : Type 0} (f : X → Y) (y : Y) (o : Option X) → option_map f o ≡ Some y → (x : X) × (o ≡ Some x) × (f x ≡ y)
mapped_from f y None e = absurd (let none : None ≡ Some y = e in cc)
mapped_from f y (Some x) e = let some : Some (f x) ≡ Some y = e in let same : f x ≡ y = cc in (x, refl, same)

end_within : (buffers : List Buffer) (views : List View) (accessors : List Accessor) (count : ℕ) (at : Location) → AreWithin (stored_in buffers views accessors) count at → EndWithin buffers count at
end_within buffers views accessors count at h =
    let found = mapped_from (λ (b : Buffer). b.byte_length.0) h.0 (slice_get buffers at.buffer) (sym (slice_get-map (λ (b : Buffer). b.byte_length.0) buffers at.buffer) ∙ h.1) in
    (found.0, found.1, λ i small. subst (λ n. at.span.start + i * at.span.stride + at.span.size ≤ n) (sym found.2) (h.2 i small))

elements_within : (buffers : List Buffer) (views : List View) (accessors : List Accessor) (count : ℕ) (o : Option Location) → IfSome o (AreWithin (stored_in buffers views accessors) count) → IfSome o (EndWithin buffers count)
elements_within buffers views accessors count None h = h
elements_within buffers views accessors count (Some at) h = end_within buffers views accessors count at h

sparse_within : (buffers : List Buffer) (views : List View) (accessors : List Accessor) (o : Option SparsePlace) → IfSome o (λ s. AreWithin (stored_in buffers views accessors) s.count s.indices × AreWithin (stored_in buffers views accessors) s.count s.values) → IfSome o (λ s. EndWithin buffers s.count s.indices × EndWithin buffers s.count s.values)
sparse_within buffers views accessors None h = h
sparse_within buffers views accessors (Some s) h = (end_within buffers views accessors s.count s.indices h.0, end_within buffers views accessors s.count s.values h.1)

pub lie_within : (buffers : List Buffer) (views : List View) (accessors : List Accessor) (p : Place) → IsWithinBuffers (stored_in buffers views accessors) p → LieWithin buffers p
lie_within buffers views accessors p h = (elements_within buffers views accessors p.count p.elements h.0, sparse_within buffers views accessors p.sparse h.1)
