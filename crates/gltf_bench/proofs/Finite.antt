-- Positions that are read as elements are finite.
use Rattle.std.proofs.Common.{◌≡◌, ℕ, ◌<◌, ◌≤◌, ◌+◌, ◌*◌, List, true, length, take, drop, subst, sym, refl, arith}
use Rattle.gltf_layout.specs.declared.span.Span.{Span}
use Rattle.gltf_accessors.specs.Components.{MayBe}
use Rattle.gltf_accessors.specs.Numbers.{is_finite}
use Rattle.gltf_bench.specs.Positions.{IsSpanOf, AreFinite}

-- the float at place p is component k of element i
at_place : (bytes : List ℕ) (s : Span) → IsSpanOf (length bytes) s → MayBe is_finite 4 3 bytes s → (i k p : ℕ) → k < 3 → 12 * i + 12 ≤ length bytes → p ≡ 12 * i + 4 * k → is_finite (take 4 (drop p bytes)) ≡ true
at_place bytes s at may_be i k p small within e =
    let begin : s.start ≡ 0 = at.start in
    let stride : s.stride ≡ 12 = at.stride in
    let product : i * s.stride ≡ i * 12 = subst (λ n. i * n ≡ i * 12) (sym stride) refl in
    let same : s.start + i * s.stride + k * 4 ≡ p = omega arith in
    let inside : i < s.count = omega (arith, at.count) in
    subst (λ n. is_finite (take 4 (drop n bytes)) ≡ true) same (may_be i k inside small)

pub are_finite : (bytes : List ℕ) (s : Span) → IsSpanOf (length bytes) s → MayBe is_finite 4 3 bytes s → AreFinite bytes
are_finite bytes s at may_be = record {
  x = λ i within. at_place bytes s at may_be i 0 (12 * i) (omega arith) within (omega arith);
  y = λ i within. at_place bytes s at may_be i 1 (12 * i + 4) (omega arith) within (omega arith);
  z = λ i within. at_place bytes s at may_be i 2 (12 * i + 8) (omega arith) within (omega arith);
}
