use Rattle.std.proofs.Common.{◌≡◌, ℕ, ◌<◌, ◌≤◌, List}
use Rattle.std.specs.Prelude.{slice_get, Some}
use Rattle.gltf_hierarchy.proofs.cycles.least_from.Given as goal

pub record IsLeastSo (nodes : List ℕ) (first least bound : ℕ) : Type 0 where
  pub at : (i : ℕ) × (first ≤ i) × (slice_get nodes i ≡ Some least)
  pub no_less : (i n : ℕ) → first ≤ i → i < bound → slice_get nodes i ≡ Some n → least ≤ n

abbrev pub invariant-loop-place : goal.invariant-loop-place
invariant-loop-place l = IsLeastSo l.nodes l.first l.least l.place
