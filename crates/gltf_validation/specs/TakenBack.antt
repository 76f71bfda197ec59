-- The last item of a list that is taken out of a document without reports.
use Rattle.std.specs.Prelude.{◌≡◌, List, [], Option, Some, None, Result, Ok, Err}
use Rattle.std.specs.List.{last_or}
use Rattle.gltf_base.specs.Lists.{ListName}
use Rattle.gltf_base.specs.declared.validation.Error.{Error}
use Rattle.gltf_schema.specs.Tree.{Tree}
use Rattle.gltf_validation_rules.specs.Report.{first_fault_of}
use Rattle.gltf_root.specs.Undone.{without_last_item}
use Rattle.gltf_validation_rules.specs.Context.{Rules}
use Rattle.gltf_validation_rules.specs.Reports.{document_reports}
use Rattle.gltf_validation.specs.Clean.{IsClean}

-- what became of the last item of a list that was to be taken back by rules. The list is empty, and nothing changed; or the item is
-- gone, and the document without it has no report; or that document has a report, and nothing changed
abbrev pub IsTakenBack : {X : Type 0} → Rules → ListName → List X → Tree → Result (Option X) Error → Tree → Type 0
IsTakenBack rules named items old (Ok None) new = (items ≡ []) × (new ≡ old)
IsTakenBack rules named items old (Ok (Some item)) new =
    (last_or None items ≡ Some item) × IsClean rules (without_last_item named old) × (new ≡ without_last_item named old)
IsTakenBack rules named items old (Err error) new =
    (first_fault_of (document_reports rules (without_last_item named old)) ≡ Some error) × (new ≡ old)
