-- The bytes of elements (glTF 2.0, section 3.6.2.4).
use Rattle.std.specs.Prelude.{ℕ, zero, suc, ◌+◌, ◌*◌, ◌<◌, ◌≤◌, List, [], ◌∷◌, take, drop}
use Rattle.gltf_layout.specs.declared.span.Span.{Span}

-- each element ends within so many bytes
abbrev pub AreWithin : ℕ → Span → Type 0
AreWithin len s = (i : ℕ) → i < s.count → s.start + i * s.stride + s.size ≤ len

-- element i begins where `stride` is counted i times from the start, and has `size` bytes
abbrev pub element_at : List ℕ → Span → ℕ → List ℕ
element_at bytes s i = take s.size (drop (s.start + i * s.stride) bytes)

-- so many elements from element i on, in order
abbrev pub elements_from : List ℕ → Span → ℕ → ℕ → List (List ℕ)
elements_from bytes s i zero = []
elements_from bytes s i (suc n) = element_at bytes s i ∷ elements_from bytes s (i + 1) n
