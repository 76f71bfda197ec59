-- No other name is kept.
use Rattle.std.proofs.Common.{rules}
use Rattle.std.specs.BTreeSet.{contains_text}
use Rattle.gltf_findings_members.proofs.Reaching.{kept_only}
use Rattle.gltf_findings_members.proofs.first.names_to_keep.Goals as goal

pub returns : goal.returns
returns c =
    let one = c.keep_name.new.keep in
    let two = c.keep_name-2.new.keep in
    let all = c.keep_needed.new.keep in (
      search rules,
      search rules,
      search rules,
      search rules,
      λ q. kept_only c.args.loud c.args.rows.now q (contains_text one q) (contains_text two q) (contains_text all q) (c.in_ok-keep_name.ensures.only q) (c.in_ok-keep_name-2.ensures.only q) (c.in_ok-keep_needed.ensures.only q),
    )
