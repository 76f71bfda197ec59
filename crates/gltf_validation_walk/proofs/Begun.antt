-- A walk that begins has all reports of the value to come.
use Rattle.std.proofs.Common.{◌≡◌, ◌≤◌, List, [], ◌∷◌, append-nil, arith, ap, ◌∙◌}
use Rattle.gltf_base.specs.Steps.{Step}
use Rattle.gltf_schema.specs.Kind.{Kind}
use Rattle.gltf_schema.specs.Tree.{Tree, absent}
use Rattle.gltf_validation_rules.specs.Context.{Context}
use Rattle.gltf_validation_rules.specs.Reports.{reports}
use Rattle.gltf_schema.specs.Height.{kind_height}
use Rattle.gltf_validation_objects.specs.ValueRefs.{checklist_of}
use Rattle.gltf_validation_objects.specs.ChecklistOf.{checklist}
use Rattle.gltf_validation_objects.specs.declared.value_ref.ValueRef.{ValueRef}
use Rattle.gltf_validation_walk.specs.Rest.{first_frame, checklists_left}
use Rattle.gltf_validation_walk.specs.Stacks.{reach, to_come_of}
use Rattle.gltf_validation_walk.specs.declared.frame.Frame.{Frame}
use Rattle.gltf_validation_walk.proofs.Moves.{begun_left}
use Rattle.gltf_validation_walk.proofs.ChecklistHeight.{bounded}
use Rattle.gltf_validation_walk.proofs.ChecklistReports.{checklist_reports}
use Rattle.gltf_validation_walk.proofs.Stacks.{of_last}

-- the one checklist is the value's
begun_checklists : (kind : Kind) (t : Tree) (context : Context) (q : ValueRef) (fs : List Frame) → fs ≡ first_frame q ∷ [] → checklist_of context q ≡ checklist kind t context absent
    → checklists_left context fs ≡ checklist kind t context absent ∷ []
begun_checklists kind t context q fs h p = ap (checklists_left context) h ∙ ap (λ r. r ∷ []) (begun_left context q ∙ p)

pub begun_fits : (kind : Kind) (t : Tree) (context : Context) (q : ValueRef) (fs : List Frame) → fs ≡ first_frame q ∷ [] → checklist_of context q ≡ checklist kind t context absent
    → reach 0 (checklists_left context fs) ≤ kind_height kind
begun_fits kind t context q fs h p = omega (arith, ap (reach 0) (begun_checklists kind t context q fs h p), bounded kind t context absent)

pub begun_to_come : (kind : Kind) (t : Tree) (context : Context) (q : ValueRef) (fs : List Frame) (steps : List Step) → fs ≡ first_frame q ∷ []
    → checklist_of context q ≡ checklist kind t context absent → to_come_of steps (checklists_left context fs) ≡ reports kind t context absent steps
begun_to_come kind t context q fs steps h p =
    let whole = checklist kind t context absent in
    ap (to_come_of steps) (begun_checklists kind t context q fs h p)
    ∙ (of_last steps [] whole (omega arith) ∙ (append-nil _ ∙ checklist_reports kind t context absent steps))
