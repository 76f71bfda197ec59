-- The components of elements (glTF 2.0, sections 3.6.2.2 and 3.6.2.4).
use Rattle.std.specs.Prelude.{◌≡◌, ℕ, ◌+◌, ◌*◌, ◌<◌, List, Bool, true, false, length, take, drop, slice_get, Some}
use Rattle.gltf_layout.specs.declared.span.Span.{Span}
use Rattle.gltf_accessors.specs.declared.fault.ComponentsFault.{ComponentsFault}
use Rattle.gltf_accessors.specs.declared.fault.ComponentsFault.TheVariants.{Size, NotFinite}

-- component k of element i: components of so many bytes follow each other with nothing between
abbrev pub component_at : ℕ → List ℕ → Span → ℕ → ℕ → List ℕ
component_at size bytes s i k = take size (drop (s.start + i * s.stride + k * size) bytes)

-- the n components of element i are the numbers that their bytes stand for
pub record AreComponents {X : Type 0} (number_of : List ℕ → X) (size n : ℕ) (bytes : List ℕ) (s : Span) (i : ℕ) (xs : List X) : Type 0 where
  pub len : length xs ≡ n
  pub each : (k : ℕ) → k < n → slice_get xs k ≡ Some (number_of (component_at size bytes s i k))

-- each component of each element may be present
abbrev pub MayBe : (List ℕ → Bool) → ℕ → ℕ → List ℕ → Span → Type 0
MayBe may_be size n bytes s = (i k : ℕ) → i < s.count → k < n → may_be (component_at size bytes s i k) ≡ true

-- those of the first elements
abbrev pub MayBeBelow : (List ℕ → Bool) → ℕ → ℕ → List ℕ → Span → ℕ → Type 0
MayBeBelow may_be size n bytes s bound = (i k : ℕ) → i < bound → k < n → may_be (component_at size bytes s i k) ≡ true

-- component k of element i may not be present, and is the first one
pub record IsFirstInvalid (may_be : List ℕ → Bool) (size n : ℕ) (bytes : List ℕ) (s : Span) (i k : ℕ) : Type 0 where
  pub element : i < s.count
  pub component : k < n
  pub invalid : may_be (component_at size bytes s i k) ≡ false
  pub elements_before : MayBeBelow may_be size n bytes s i
  pub components_before : (m : ℕ) → m < k → may_be (component_at size bytes s i m) ≡ true

-- why elements are not made of n components
abbrev pub IsComponentsFault : (List ℕ → Bool) → ℕ → ℕ → List ℕ → Span → ComponentsFault → Type 0
IsComponentsFault may_be size n bytes s Size = s.size ≡ n * size → ⊥
IsComponentsFault may_be size n bytes s (NotFinite i k) = (s.size ≡ n * size) × IsFirstInvalid may_be size n bytes s i k
