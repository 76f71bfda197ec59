use Rattle.std.proofs.Common.{◌≡◌, ℕ, ◌<◌, length, slice_get, Some}
use Rattle.gltf_accessors.proofs.vectors.to_floats.Given as goal

abbrev pub invariant-loop-k : goal.invariant-loop-k
invariant-loop-k g l = record {
  len : length l.floats ≡ g.row.N;
  each : (m : ℕ) (x : g.row.T.Denot) → m < l.k → slice_get l.integers m ≡ Some x → slice_get l.floats m ≡ Some (g.T.Normalized.normalized x);
}
