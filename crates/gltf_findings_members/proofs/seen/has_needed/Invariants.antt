-- The rows so far have their member, if they need one.
use Rattle.std.proofs.Common.{◌≡◌, ℕ, ◌<◌, Some, true, false, get_or}
use Rattle.std.specs.Prelude.{slice_get}
use Rattle.gltf_schema.specs.declared.outline.Member.{Member}
use Rattle.gltf_findings_members.specs.Rows.{is_needed}
use Rattle.gltf_findings_members.proofs.seen.has_needed.Given as goal

abbrev pub invariant-loop-i : goal.invariant-loop-i
invariant-loop-i l = (k : ℕ) (m : Member) → k < l.i → slice_get l.rows k ≡ Some m → is_needed m ≡ true → get_or l.seen k false ≡ true
