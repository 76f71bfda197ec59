-- The name at the number, or none past the last.
use Rattle.std.proofs.Common.{rules}
use Rattle.gltf_schema.specs.Fields.{text_tree}
use Rattle.gltf_validation_objects.specs.ChecklistOf.{name_checklist}
use Rattle.gltf_validation_objects.proofs.Items.{item_comes, items_end}
use Rattle.gltf_validation_objects.proofs.lists.extension_at.Goals as goal

pub returns-in-Some-clause-comes : goal.returns-in-Some-clause-comes
returns-in-Some-clause-comes c context =
    item_comes (name_checklist context.rules.enabled) text_tree c.args.names.now.items _ c.args.number c.in-Some.name.now (search rules) c.in-Some.ensures.lookup.3.0 c.in-Some.ensures.lookup.1

pub returns-in-None-clause-comes : goal.returns-in-None-clause-comes
returns-in-None-clause-comes c context =
    items_end (name_checklist context.rules.enabled) text_tree c.args.names.now.items c.args.number (search rules)
