-- The elements of an accessor, by its view and by those that deviate (glTF 2.0, sections 3.6.2.3 and 5.1.1).
use Rattle.std.specs.Prelude.{◌≡◌, ◌≢◌, ℕ, ◌<◌, ⊤, List, length, slice_get, Some, IfSome, MatchOption}
use Rattle.gltf_accessors.specs.Indices.{index_at}
use Rattle.gltf_accessors.specs.Components.{AreComponents}
use Rattle.gltf_accessors.specs.declared.accessor.Accessor.{Accessor}

-- each of ys is what f makes of the one of xs at its place
pub record AreEach {X Y : Type 0} (f : X → Y) (xs : List X) (ys : List Y) : Type 0 where
  pub len : length ys ≡ length xs
  pub each : (k : ℕ) (x : X) → slice_get xs k ≡ Some x → slice_get ys k ≡ Some (f x)

-- the components of element i: of the value at the place of its index, else of the view, else zeros
pub record IsElement {T : Type 0} {N : ℕ} {c : _} (number_of : List ℕ → T) (size : ℕ) (zero : T) (a : Accessor T N c) (i : ℕ) (xs : List T) : Type 0 where
  pub sparse : IfSome a.sparse (λ s. (j : ℕ) → j < s.indices.elements.span.count → index_at s.indices.kind s.indices.elements.bytes.now s.indices.elements.span j ≡ i → AreComponents number_of size N s.values.elements.bytes.now s.values.elements.span j xs)
  pub base : MatchOption a.sparse ⊤ (λ s. (j : ℕ) → j < s.indices.elements.span.count → index_at s.indices.kind s.indices.elements.bytes.now s.indices.elements.span j ≢ i) → MatchOption a.base ((length xs ≡ N) × ((k : ℕ) → k < N → slice_get xs k ≡ Some zero)) (λ b. AreComponents number_of size N b.elements.bytes.now b.elements.span i xs)
