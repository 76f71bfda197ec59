-- A name that isn't quiet decides; past the last one all were quiet.
use Rattle.std.proofs.Common.{◌≡◌, ◌∙◌, sym, rules, arith, true, false}
use Rattle.gltf_schema.specs.Fields.{text_tree}
use Rattle.gltf_validation_objects.specs.ChecklistOf.{name_checklist}
use Rattle.gltf_validation_objects.proofs.QuietChecklists.{quiet_item, loud_item, past_items}
use Rattle.gltf_validation_objects.proofs.lists.are_names_quiet.Goals as goal

pub loop-name-preserved : goal.loop-name-preserved
loop-name-preserved g c =
    let f = name_checklist (g.C.HasContext.context c.args.context.now).rules.enabled in
    let yes : c.is_name_quiet.result ≡ true = search rules in
    quiet_item f text_tree c.args.names.now.items c.loop-name.name-index c.name-item.result (omega arith) (search rules) (sym c.is_name_quiet.ensures ∙ yes) ∙ c.loop-name.invariant

pub returns-then-not-is_name_quiet : goal.returns-then-not-is_name_quiet
returns-then-not-is_name_quiet g c =
    let f = name_checklist (g.C.HasContext.context c.args.context.now).rules.enabled in
    let no : c.is_name_quiet.result ≡ false = search rules in
    loud_item f text_tree c.args.names.now.items c.loop-name.name-index c.name-item.result (omega arith) (search rules) (sym c.is_name_quiet.ensures ∙ no) c.loop-name.invariant

pub returns : goal.returns
returns g c =
    let f = name_checklist (g.C.HasContext.context c.args.context.now).rules.enabled in
    past_items f text_tree c.args.names.now.items c.loop-name.name-index (omega arith) c.loop-name.invariant
