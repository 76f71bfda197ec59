-- Each start so far is that of a token, and there are as many as tokens begun.
use Rattle.std.proofs.Common.{◌≡◌, ℕ, ◌-◌, length, vec_len, slice_get, Some}
use Rattle.gltf_findings_lines.specs.declared.position.Position.{Position}
use Rattle.gltf_findings_lines.specs.Positions.{BeginsAt}
use Rattle.gltf_findings_lines.specs.Modes.{begun_at, IsCursor, RestsAt}
use Rattle.gltf_findings_lines.proofs.starts.starts_of.Given as goal

abbrev pub invariant-loop-cursor : goal.invariant-loop-cursor
invariant-loop-cursor l =
    record {
      cursor : IsCursor l.bytes l.cursor;
      rests : RestsAt l.bytes l.cursor.offset;
      count : vec_len l.starts ≡ begun_at l.bytes l.cursor.offset;
      each : (n : ℕ) (p : Position) → slice_get l.starts.items n ≡ Some p → BeginsAt l.bytes n p;
    }

abbrev pub decreases-loop-cursor : goal.decreases-loop-cursor
decreases-loop-cursor l = length l.bytes - l.cursor.offset
