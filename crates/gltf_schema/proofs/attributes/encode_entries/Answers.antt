use Rattle.std.proofs.Common.{◌≡◌, map, string_bytes, sym, ap, ◌∙◌, subst, rules}
use Rattle.std.proofs.lemmas.Bool.{or_right}
use Rattle.std.proofs.lemmas.Result.{err_from_is_err_and}
use Rattle.serde_json.specs.Data.{put}
use Rattle.serde_json.specs.View.{view, members_view}
use Rattle.serde_json.proofs.Views.{members_view-insert_entry}
use Rattle.gltf_base.specs.Semantics.{checked_key}
use Rattle.gltf_base.specs.Indexes.{index_number}
use Rattle.gltf_schema.specs.Fields.{entry_of}
use Rattle.gltf_schema.specs.Write.{write_entries}
use Rattle.gltf_schema.specs.Invalid.{is_unknown, any_unknown}
use Rattle.gltf_schema.specs.Outcome.{Withholds}
use Rattle.gltf_schema.proofs.Entries.{in_order}
use Rattle.gltf_schema.proofs.Putting.{entry_written, key_withheld}
use Rattle.gltf_schema.proofs.attributes.encode_entries.Goals as goal

pub loop-key-preserved : goal.loop-key-preserved
loop-key-preserved g c =
    let before = members_view c.loop-key.written.entries in
    let rest = map entry_of c.next.new.self in
    let after : members_view c.insert.new.self.entries ≡ put (string_bytes c.in_ok-name.name) (view c.in_ok-encode.field-0) before =
    ap (λ es. members_view es) c.in_ok-insert.ensures.entries ∙ members_view-insert_entry c.loop-key.written.entries c.in_ok-name.name c.in_ok-encode.field-0 in (
      ap (write_entries rest) after
          ∙ sym (entry_written (entry_of (c.in-Some.key.now, c.in-Some.index.now)) rest before (string_bytes c.in_ok-name.name) (view c.in_ok-encode.field-0) c.in_ok-name.ensures c.in_ok-encode.ensures)
          ∙ ap (λ es. write_entries (map entry_of es) before) (sym c.in-Some.ensures.steps)
          ∙ c.loop-key.invariant.0,
      λ h. c.loop-key.invariant.1 (rw c.in-Some.ensures.steps (or_right (is_unknown (entry_of (c.in-Some.key.now, c.in-Some.index.now)).0) _ h)),
    )

pub returns-in_err-name-clause-written : goal.returns-in_err-name-clause-written
returns-in_err-name-clause-written g c =
    let exit = err_from_is_err_and c.from_residual.result c.from_residual.ensures.1 in
    let before = members_view c.loop-key.written.entries in
    let whole = ap (λ es. write_entries (map entry_of es) before) (sym c.in-Some.ensures.steps) ∙ c.loop-key.invariant.0 in
    let all = any_unknown (map entry_of c.args.attributes.now.entries) in
    rw (exit.1, exit.2) (subst (λ w. Withholds c.in_err-name.field-0.0 w all) whole
    (key_withheld c.in_err-name.field-0.0 (entry_of (c.in-Some.key.now, c.in-Some.index.now)) (map entry_of c.next.new.self) before all
    (λ h. c.loop-key.invariant.1 (rw c.in-Some.ensures.steps h)) c.in_err-name.ensures))

pub returns-clause-in_order : goal.returns-clause-in_order
returns-clause-in_order g c = in_order _ checked_key index_number (λ a b. search rules) c.args.attributes.now.entries c.iter-key-items.ensures.ordered
