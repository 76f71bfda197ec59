-- Where elements and their components end.
use Rattle.std.proofs.Common.{◌≡◌, ℕ, ◌<◌, ◌≤◌, ◌+◌, ◌*◌, arith}
use Rattle.std.proofs.lemmas.Nat.{mul-le}
use Rattle.gltf_layout.specs.declared.span.Span.{Span}
use Rattle.gltf_accessors.specs.Elements.{AreWithin}

pub component_within : (size k n : ℕ) → k < n → k * size + size ≤ n * size
component_within size k n h = omega (arith, mul-le (k + 1) size n size (omega arith) (omega arith))

up_to_last : (stride i last : ℕ) → i ≤ last → i * stride ≤ stride * last
up_to_last stride i last h = omega (arith, mul-le i stride last stride h (omega arith))

-- if the last element ends within so many bytes, each does
pub all_within : (length : ℕ) (s : Span) (last : ℕ) → s.count ≡ last + 1 → s.start + s.stride * last + s.size ≤ length → AreWithin length s
all_within length s last e h = λ i lt. omega (arith, up_to_last s.stride i last (omega arith))

-- the last one is one of them
pub last_within : (length : ℕ) (s : Span) (last : ℕ) → s.count ≡ last + 1 → AreWithin length s → s.start + s.stride * last + s.size ≤ length
last_within length s last e h = omega (arith, h last (omega arith))
