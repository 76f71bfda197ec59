use Rattle.std.proofs.Common.{◌≡◌, ◌+◌, ◌-◌, ◌≤◌, length, drop}
use Rattle.json.specs.Lex.{in_string, lex}
use Rattle.gltf_schema.proofs.quoted.text_end.Given as goal

abbrev pub invariant-loop-end : goal.invariant-loop-end
invariant-loop-end l = (lex in_string (drop (l.at + 1) l.text) ≡ lex in_string (drop l.end l.text)) × (l.at + 1 ≤ l.end) × (l.end ≤ length l.text)

abbrev pub decreases-loop-end : goal.decreases-loop-end
decreases-loop-end l = length l.text - l.end
