use Rattle.std.proofs.Common.{◌≡◌, ℕ, ◌<◌, ◌≤◌, length, get_or}
use Rattle.gltf_schema.proofs.value.is_same.Given as goal

-- the bytes from `i` on agree
abbrev pub invariant-loop-i : goal.invariant-loop-i
invariant-loop-i l = record {
  within : l.i ≤ length l.x;
  behind : (k : ℕ) → l.i ≤ k → k < length l.x → get_or l.x k 0 ≡ get_or l.y k 0;
}

abbrev pub decreases-loop-i : goal.decreases-loop-i
decreases-loop-i l = l.i
