-- The value that was read is put under the name.
use Rattle.std.proofs.Common.{◌≡◌, true, sym, ap, ◌∙◌, subst, arith}
use Rattle.std.specs.BTreeSet.{contains_text}
use Rattle.serde_json.specs.Data.{put}
use Rattle.serde_json.specs.View.{view, members_view}
use Rattle.serde_json.proofs.Views.{members_view-insert_entry}
use Rattle.gltf_schema.specs.Streamed.{HasValue}
use Rattle.gltf_findings_members.specs.Kept.{Takes}
use Rattle.gltf_findings_members.proofs.excerpt.take_member.Goals as goal

pub returns-clause-takes : goal.returns-clause-takes
returns-clause-takes c =
    let from = c.args.from.now in
    let n = c.args.name.now in
    let es = c.args.found.now.entries in
    let v = c.in_ok-value.value in
    let r = c.value.new.self.reader in
    let held : contains_text c.args.keep.now n ≡ true = grind arith in
    let has : HasValue from.depth from.reader (view v) r = c.in_ok-value.ensures.value in
    let put_in = ap members_view c.in_ok-insert.ensures.entries ∙ members_view-insert_entry es c.in_ok-key.key v ∙ ap (λ k. put k (view v) (members_view es)) c.in_ok-key.ensures.ok in
    subst (λ t. Takes t from.depth n from.reader r (members_view es) (members_view c.insert.new.self.entries)) (sym held) (view v, has, put_in)
