-- A word goes on until a byte ends it.
use Rattle.std.proofs.Common.{◌≡◌, ◌-◌, ◌≤◌, length}
use Rattle.json.specs.Lex.{in_word}
use Rattle.gltf_findings_lines.specs.Modes.{mode_at, begun_at, IsCursor}
use Rattle.gltf_findings_lines.proofs.starts.Cursor.past_word.Given as goal

abbrev pub invariant-loop-cursor : goal.invariant-loop-cursor
invariant-loop-cursor l =
    record {
      cursor : IsCursor l.bytes l.cursor;
      further : l.fn.self.offset ≤ l.cursor.offset;
      count : begun_at l.bytes l.cursor.offset ≡ begun_at l.bytes l.fn.self.offset;
      mode : mode_at l.bytes l.cursor.offset ≡ in_word;
    }

abbrev pub decreases-loop-cursor : goal.decreases-loop-cursor
decreases-loop-cursor l = length l.bytes - l.cursor.offset
