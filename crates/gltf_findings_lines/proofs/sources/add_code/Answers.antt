-- The code is there before or behind.
use Rattle.std.proofs.Common.{arith}
use Rattle.std.proofs.lemmas.Grind.{common_steps}
use Rattle.gltf_findings_lines.proofs.Apart.{named_before, named_behind}
use Rattle.gltf_findings_lines.proofs.sources.add_code.Goals as goal

pub returns-then-has_name : goal.returns-then-has_name
returns-then-has_name c = λ other.
    let there = named_before c.args.to.now.items c.args.code other in
    grind (arith, common_steps, there)

pub returns : goal.returns
returns c = λ other.
    let behind = named_behind c.args.to.now.items c.args.code other in
    grind (arith, common_steps, behind)
