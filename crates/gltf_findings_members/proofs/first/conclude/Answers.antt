-- No member may have notices, or those that may are kept.
use Rattle.std.proofs.Common.{◌≡◌, false, sym, ◌∙◌}
use Rattle.std.specs.BTreeSet.{contains_text}
use Rattle.serde_json.specs.View.{view}
use Rattle.gltf_findings_members.specs.Rows.{is_target}
use Rattle.gltf_findings_members.proofs.Viewing.{excerpt_tells, quiet_text}
use Rattle.gltf_findings_members.proofs.first.conclude.Goals as goal

pub returns-then-is_empty : goal.returns-then-is_empty
returns-then-is_empty c = λ d is. quiet_text c.args.outline.now c.args.rows.now c.args.text.now c.args.seen c.requires.rows c.requires.seen.0 c.if-seen.true (c.is_empty.ensures c.if-is_empty.true) d is

pub returns-in-Some-excerpt_of : goal.returns-in-Some-excerpt_of
returns-in-Some-excerpt_of c = λ d is.
    let P = contains_text c.in-Some.keep in
    let kept = c.in-Some.ensures in
    let target : is_target c.args.rows.now ≡ false = sym c.is_target.ensures ∙ c.if-is_target.false in
    excerpt_tells P c.args.outline.now c.args.rows.now c.args.text.now c.args.seen (view c.in-Some-excerpt_of.value) c.requires.rows c.requires.seen.0 target kept.0 kept.1 kept.2 kept.3 d is (c.in-Some-excerpt_of.ensures d is)

pub excerpt_of-requires : goal.excerpt_of-requires
excerpt_of-requires c = c.requires.seen.1 (contains_text c.in-Some.keep) c.in-Some.ensures.4
