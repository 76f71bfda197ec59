use Rattle.std.proofs.Common.{length, ◌-◌, ◌≡◌, ◌≤◌}
use Rattle.gltf_schema.specs.Lexemes.{lexemes_at}
use Rattle.gltf_schema.proofs.bytes.past_blanks.Given as goal

abbrev pub invariant-loop-next : goal.invariant-loop-next
invariant-loop-next l = (lexemes_at l.text l.next ≡ lexemes_at l.text l.at) × (l.next ≤ length l.text)

abbrev pub decreases-loop-next : goal.decreases-loop-next
decreases-loop-next l = length l.text - l.next
