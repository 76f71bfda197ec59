-- The first row of the name is here.
use Rattle.std.proofs.Common.{sym, ◌∙◌}
use Rattle.gltf_findings_members.proofs.Places.{found_here}
use Rattle.gltf_findings_members.proofs.seen.place_of.Goals as goal

pub returns-then-eq : goal.returns-then-eq
returns-then-eq c = found_here c.args.rows.now c.args.name.now c.loop-i.i _ c.loop-i-test.true c.loop-i.invariant (sym c.eq.ensures ∙ c.if-eq.true)
