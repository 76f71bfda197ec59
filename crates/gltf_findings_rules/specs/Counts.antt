-- Numbers of elements.
use Rattle.std.specs.Prelude.{ℕ, ◌==◌, List, Bool, false, not, slice_get, Option, Some, None}
use Rattle.gltf_parts.specs.declared.accessor.Accessor.{Accessor}

abbrev pub count_of : Option Accessor → Option ℕ
count_of None = None
count_of (Some a) = Some a.count.0

-- how many elements the accessor with a number has
abbrev pub count_at : List Accessor → Option ℕ → Option ℕ
count_at accessors None = None
count_at accessors (Some n) = count_of (slice_get accessors n)

-- both are known, and they differ
abbrev pub differ : Option ℕ → Option ℕ → Bool
differ (Some a) (Some b) = not (a == b)
differ _ _ = false
