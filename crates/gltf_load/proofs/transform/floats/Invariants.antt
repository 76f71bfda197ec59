use Rattle.std.proofs.Common.{◌≡◌, ℕ, ◌<◌, length, slice_get, Some}
use Rattle.gltf_base.specs.declared.real.Real.{Real}
use Rattle.gltf_load.specs.Transforms.{nearest}
use Rattle.gltf_load.proofs.transform.floats.Given as goal

abbrev pub invariant-loop-k : goal.invariant-loop-k
invariant-loop-k g l = record {
  len : length l.floats ≡ g.row.N;
  each : (m : ℕ) (x : Real) → m < l.k → slice_get l.reals m ≡ Some x → slice_get l.floats m ≡ Some (nearest x);
}
