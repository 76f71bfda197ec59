use Rattle.std.proofs.Common.{ℕ, ◌≤◌}
use Rattle.gltf_layout.specs.Layouts.{AreZerosBelow, AreZerosWithin}
use Rattle.gltf_layout.proofs.layout.Layout.most_zeros.Given as goal

abbrev pub invariant-loop-number : goal.invariant-loop-number
invariant-loop-number l = AreZerosBelow l.self.places.items l.most l.number × ((m : ℕ) → AreZerosWithin l.self.places.items m → l.most ≤ m)
