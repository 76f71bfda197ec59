-- What a list holds.
use Rattle.std.proofs.Common.{◌≡◌, ℕ, List, Some, slice_get}

-- a list has an item at a number
abbrev pub IsListed : {X : Type 0} → List X → X → Type 0
IsListed xs x = (k : ℕ) × (slice_get xs k ≡ Some x)
