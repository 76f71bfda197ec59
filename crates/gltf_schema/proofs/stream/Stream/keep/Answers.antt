use Rattle.std.proofs.Common.{ap, ◌∙◌}
use Rattle.serde_json.specs.Data.{put}
use Rattle.serde_json.specs.View.{view, members_view}
use Rattle.serde_json.proofs.Views.{members_view-insert_entry}
use Rattle.gltf_schema.proofs.stream.Stream.keep.Goals as goal

pub returns-clause-value : goal.returns-clause-value
returns-clause-value c =
    let v = c.in_ok-value.value in
    let es = c.args.place.now.entries in (
      view v,
      c.in_ok-value.ensures.ok,
      ap members_view c.in_ok-insert.ensures.entries ∙ members_view-insert_entry es c.in_ok-key.key v ∙ ap (λ n. put n (view v) (members_view es)) c.in_ok-key.ensures.ok,
    )
