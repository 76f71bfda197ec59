-- The parts of an accessor in the buffers of a document: `at` gives the bytes of each buffer.
use Rattle.std.specs.Prelude.{◌≡◌, ℕ, List, Bool, length, Option, Some, None}
use Rattle.gltf_base.specs.declared.accessor.ComponentType.{ComponentType}
use Rattle.gltf_layout.specs.declared.span.Span.{Span}
use Rattle.gltf_layout.specs.declared.place.Location.{Location}
use Rattle.gltf_accessors.specs.Elements.{AreWithin}
use Rattle.gltf_accessors.specs.Components.{IsComponentsFault as AreNoComponents}
use Rattle.gltf_accessors.specs.Indices.{IsIndicesFault as AreNoIndices}
use Rattle.gltf_accessors.specs.declared.fault.PartFault.{PartFault}
use Rattle.gltf_accessors.specs.declared.fault.PartFault.TheVariants.{NoSuchBuffer, Elements, Components, Indices}

-- the bytes of the buffer at a place, and where in them
abbrev pub IsPart : (ℕ → Option (List ℕ)) → Location → List ℕ → Span → Type 0
IsPart at l bytes s = (at l.buffer ≡ Some bytes) × (s ≡ l.span)

-- why there are no elements of n components at a place: no buffer, one that is too short, or other components
abbrev pub IsComponentsFault : (List ℕ → Bool) → ℕ → ℕ → (ℕ → Option (List ℕ)) → Location → PartFault → Type 0
IsComponentsFault may_be size n at l (NoSuchBuffer b) = (b ≡ l.buffer) × (at b ≡ None)
IsComponentsFault may_be size n at l (Elements f) = (bytes : List ℕ) × (at l.buffer ≡ Some bytes) × (AreWithin (length bytes) l.span → ⊥)
IsComponentsFault may_be size n at l (Components f) = (bytes : List ℕ) × (at l.buffer ≡ Some bytes) × AreNoComponents may_be size n bytes l.span f
IsComponentsFault may_be size n at l (Indices f) = ⊥

-- why there are no indices
abbrev pub IsIndicesFault : ComponentType → (ℕ → Option (List ℕ)) → Location → PartFault → Type 0
IsIndicesFault c at l (NoSuchBuffer b) = (b ≡ l.buffer) × (at b ≡ None)
IsIndicesFault c at l (Elements f) = (bytes : List ℕ) × (at l.buffer ≡ Some bytes) × (AreWithin (length bytes) l.span → ⊥)
IsIndicesFault c at l (Components f) = ⊥
IsIndicesFault c at l (Indices f) = AreNoIndices c l.span.size f
