use Rattle.std.proofs.Common.{◌≡◌, ℕ, ◌<◌, length, slice_get, Some}
use Rattle.gltf_accessors.proofs.attributes.widened.Given as goal

abbrev pub invariant-loop-k : goal.invariant-loop-k
invariant-loop-k l = record {
  len : length l.wide ≡ 4;
  each : (m : ℕ) (x : ℕ) → m < l.k → slice_get l.numbers m ≡ Some x → slice_get l.wide m ≡ Some x;
}
