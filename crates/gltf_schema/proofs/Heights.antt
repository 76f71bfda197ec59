-- A height that is known bounds itself.
use Rattle.std.proofs.Common.{◌≡◌, ◌≤◌, ℕ, subst}
use Rattle.std.proofs.Math.Nat.{le_refl}
use Rattle.gltf_schema.specs.Kind.{Kind}
use Rattle.gltf_schema.specs.Height.{kind_height}

pub at_most : (kind : Kind) (n : ℕ) → kind_height kind ≡ n → kind_height kind ≤ n
at_most kind n known = subst (λ m. kind_height kind ≤ m) known (le_refl (kind_height kind))
