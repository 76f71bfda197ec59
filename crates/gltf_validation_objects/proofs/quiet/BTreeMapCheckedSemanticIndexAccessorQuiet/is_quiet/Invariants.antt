-- The attributes that are to come decide.
use Rattle.std.specs.Prelude.{◌≡◌, map}
use Rattle.gltf_base.specs.Lists.{ListName}
use Rattle.gltf_schema.specs.Fields.{entry_of}
use Rattle.gltf_root.specs.Lists.{count_in}
use Rattle.gltf_validation_objects.specs.Checklist.{all_quiet}
use Rattle.gltf_validation_objects.specs.ChecklistOf.{entry_checklists}
use Rattle.gltf_validation_objects.proofs.quiet.BTreeMapCheckedSemanticIndexAccessorQuiet.is_quiet.Given as goal

abbrev pub invariant-loop-semantic : goal.invariant-loop-semantic
invariant-loop-semantic g l =
    let count = count_in ListName.accessors (g.C.HasContext.context l.context).root in
    all_quiet (entry_checklists count (map entry_of l.semantic-iterator)) ≡ all_quiet (entry_checklists count (map entry_of l.self.entries))
