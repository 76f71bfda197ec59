use Rattle.std.proofs.Common.{◌≡◌, ℕ, ◌-◌, ◌<◌, true, false, get_or}
use Rattle.gltf_schema.proofs.stream.all_seen.Given as goal

-- the rows so far had their members
abbrev pub invariant-loop-r : goal.invariant-loop-r
invariant-loop-r l = (i : ℕ) → i < l.r → get_or l.seen i false ≡ true

abbrev pub decreases-loop-r : goal.decreases-loop-r
decreases-loop-r l = l.rows - l.r
