-- Sparse accessors (glTF 2.0, section 3.6.2.3).
use Rattle.std.specs.Prelude.{◌≡◌, ℕ, ◌+◌, ◌<◌, ◌≤◌, List}
use Rattle.gltf_layout.specs.declared.span.Span.{Span}
use Rattle.gltf_accessors.specs.declared.index_type.IndexType.{IndexType}
use Rattle.gltf_accessors.specs.declared.fault.SparseFault.{SparseFault}
use Rattle.gltf_accessors.specs.declared.fault.SparseFault.TheVariants.{Count, NotRising, BehindEnd}
use Rattle.gltf_accessors.specs.Indices.{index_at}

-- "indices MUST form a strictly increasing sequence": the first so many do
abbrev pub AreRising : IndexType → List ℕ → Span → ℕ → Type 0
AreRising t bytes s bound = (i j : ℕ) → i < j → j < bound → index_at t bytes s i < index_at t bytes s j

-- they "MUST NOT be greater than or equal to the number of the base accessor elements"
abbrev pub AreBelow : IndexType → List ℕ → Span → ℕ → ℕ → Type 0
AreBelow t bytes s count bound = (i : ℕ) → i < bound → index_at t bytes s i < count

-- the index behind a place is the first that is not above the one before
abbrev pub IsFirstNotRising : IndexType → List ℕ → Span → ℕ → ℕ → Type 0
IsFirstNotRising t bytes s place index = (place + 1 < s.count) × (index ≡ index_at t bytes s (place + 1)) × (index ≤ index_at t bytes s place) × AreRising t bytes s (place + 1)

-- the index at a place is the first that is that of no element
abbrev pub IsFirstBehindEnd : IndexType → List ℕ → Span → ℕ → ℕ → ℕ → Type 0
IsFirstBehindEnd t bytes s count place index = (place < s.count) × (index ≡ index_at t bytes s place) × (count ≤ index) × AreBelow t bytes s count place

-- Why indices and so many values can't deviate from so many elements, first: not as many indices as values, then the first index that is not above the one before, then the first that is that of no element.
abbrev pub IsSparseFault : IndexType → List ℕ → Span → ℕ → ℕ → SparseFault → Type 0
IsSparseFault t bytes s values count Count = s.count ≡ values → ⊥
IsSparseFault t bytes s values count (NotRising place index) = (s.count ≡ values) × IsFirstNotRising t bytes s place index
IsSparseFault t bytes s values count (BehindEnd place index) = (s.count ≡ values) × AreRising t bytes s s.count × IsFirstBehindEnd t bytes s count place index
