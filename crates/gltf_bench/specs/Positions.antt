-- Bytes that are positions: three floats each, one position behind the other.
use Rattle.std.specs.Prelude.{◌≡◌, ℕ, ◌+◌, ◌*◌, ◌≤◌, ◌/◌, List, true, length, take, drop}
use Rattle.gltf_layout.specs.declared.span.Span.{Span}
use Rattle.gltf_accessors.specs.Numbers.{is_finite}

-- where the positions in so many bytes lie
pub record IsSpanOf (len : ℕ) (s : Span) : Type 0 where
  pub start : s.start ≡ 0
  pub stride : s.stride ≡ 12
  pub count : s.count ≡ len / 12

-- no coordinate of a position is NaN or infinite
pub record AreFinite (bytes : List ℕ) : Type 0 where
  pub x : (i : ℕ) → 12 * i + 12 ≤ length bytes → is_finite (take 4 (drop (12 * i) bytes)) ≡ true
  pub y : (i : ℕ) → 12 * i + 12 ≤ length bytes → is_finite (take 4 (drop (12 * i + 4) bytes)) ≡ true
  pub z : (i : ℕ) → 12 * i + 12 ≤ length bytes → is_finite (take 4 (drop (12 * i + 8) bytes)) ≡ true
