-- Each code leaves the rest to come.
use Rattle.std.proofs.Common.{◌∙◌, ap, arith}
use Rattle.std.specs.Prelude.{◌||◌}
use Rattle.gltf_findings_members.specs.declared.notice.Notice.{Notice}
use Rattle.gltf_findings_lines.specs.Sources.{codes_in, has_name, is_named}
use Rattle.gltf_findings_lines.proofs.Apart.{one_code_more}
use Rattle.gltf_findings_lines.proofs.sources.codes_of.Goals as goal

pub loop-notice-preserved : goal.loop-notice-preserved
loop-notice-preserved c = λ code.
    let n = c.notice-item.result in
    let i = c.loop-notice.notice-index in
    let added = c.in_ok-add_code.ensures code ∙ ap (λ (m : Notice). has_name c.loop-notice.codes.items code || is_named code m.code) c.notice-item.is in
    one_code_more code c.args.notices.now i n (has_name c.loop-notice.codes.items code) (has_name c.add_code.new.to.items code) (has_name (codes_in c.args.notices.now) code) (c.loop-notice.invariant code) (omega arith) added
