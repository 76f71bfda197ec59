-- What was looked for is known from then on.
use Rattle.std.proofs.Common.{arith}
use Rattle.gltf_findings_lines.proofs.Leading.{at_node, known_more}
use Rattle.gltf_findings_lines.proofs.place.child_of.Goals as goal

pub returns-then-at-nodes-clause-child : goal.returns-then-at-nodes-clause-child
returns-then-at-nodes-clause-child c = λ j is. absurd (omega (arith, at_node c.args.nodes.now c.args.at j is))

pub returns-clause-kept : goal.returns-clause-kept
returns-clause-kept c = known_more c.args.nodes.now c.args.known.now c.insert.new.self c.args.at c.in_ok-children.children c.requires.1 c.in_ok-children.ensures c.in_ok-insert.ensures.updates

pub returns-clause-child : goal.returns-clause-child
returns-clause-child c = λ j is. c.find-found.ensures c.args.nodes.now c.args.at j (c.in_ok-children.ensures j is)
