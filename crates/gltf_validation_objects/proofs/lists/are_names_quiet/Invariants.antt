-- The names that are to come decide.
use Rattle.std.proofs.Common.{◌≡◌, drop}
use Rattle.gltf_schema.specs.Fields.{text_tree}
use Rattle.gltf_validation_objects.specs.ChecklistOf.{name_checklist}
use Rattle.gltf_validation_objects.proofs.QuietChecklists.{items_quiet}
use Rattle.gltf_validation_objects.proofs.lists.are_names_quiet.Given as goal

abbrev pub invariant-loop-name : goal.invariant-loop-name
invariant-loop-name g l =
    let f = name_checklist (g.C.HasContext.context l.context).rules.enabled in
    items_quiet f text_tree (drop l.name-index l.names.items) ≡ items_quiet f text_tree l.names.items
