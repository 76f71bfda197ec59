-- A code that is none of those is said by none.
use Rattle.std.proofs.Common.{◌≡◌, false, sym, arith}
use Rattle.std.proofs.lemmas.Grind.{common_steps}
use Rattle.gltf_base.specs.Pointers.{pointer_text}
use Rattle.gltf_findings_codes.specs.Places.{place_steps}
use Rattle.gltf_findings_lines.specs.Sources.{has_name}
use Rattle.gltf_findings_lines.proofs.sources.is_said.Goals as goal

pub returns-then-not-has_name : goal.returns-then-not-has_name
returns-then-not-has_name c =
    let f = c.args.finding.now in
    let none : has_name c.args.codes.now f.code ≡ false = grind (arith, common_steps) in
    sym (c.requires f.code (pointer_text (place_steps f.place)) none)
