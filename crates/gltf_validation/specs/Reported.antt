-- What the calls do that return the first report of what they refuse.
use Rattle.std.specs.Prelude.{◌≡◌, List, Some, None, Result, Ok, Err}
use Rattle.std.specs.List.{last_or}
use Rattle.gltf_base.specs.Lists.{ListName}
use Rattle.gltf_base.specs.declared.index.IndexTo.{IndexTo}
use Rattle.gltf_base.specs.declared.validation.Error.{Error}
use Rattle.gltf_schema.specs.Tree.{Tree}
use Rattle.gltf_validation_rules.specs.Report.{first_fault_of}
use Rattle.gltf_root.specs.Root.{root_tree}
use Rattle.gltf_root.specs.declared.root.Root.{Root}
use Rattle.gltf_validation_rules.specs.Context.{Rules}
use Rattle.gltf_validation_rules.specs.Reports.{document_reports}
use Rattle.gltf_validation.specs.Clean.{IsClean, IsFull, IsPushed, HasRoom, item_reports}
use Rattle.gltf_validation.specs.FirstReport.{first_report, report_shown}
use Rattle.gltf_validation.specs.Held.{IsHeld}
use Rattle.gltf_validation.specs.declared.clean.Clean.{Clean}
use Rattle.gltf_validation.specs.declared.refused.Refused.{Refused}
use Rattle.gltf_validation.specs.declared.refused.Refused.TheVariants.{Full, Memory, NoItem, Faulty}

-- a root is held by rules as `IsHeld` says, or handed back with its first report; the report is left out where its path had no
-- memory
abbrev pub IsHeldOrReported : Rules → Root → Result Clean (Refused Root) → Type 0
IsHeldOrReported rules root (Ok c) = IsHeld rules root (Ok c)
IsHeldOrReported rules root (Err (Faulty back report)) =
    (first_report (document_reports rules (root_tree root)) ≡ Some (report_shown report)) × (back ≡ root)
IsHeldOrReported rules root (Err (Memory back)) = (¬ IsClean rules (root_tree root)) × (back ≡ root)
IsHeldOrReported rules root (Err (Full back)) = ⊥
IsHeldOrReported rules root (Err (NoItem back)) = ⊥

-- why an item was not pushed onto a list of a document: as in `IsPushed`, but a faulty item is handed back with its first report
abbrev pub IsPushRefused : {X : Type 0} → Rules → ListName → X → Tree → Tree → Refused X → Tree → Type 0
IsPushRefused rules named item x old (Full back) new = IsFull named old × (back ≡ item) × (new ≡ old)
IsPushRefused rules named item x old (Memory back) new = HasRoom named old × (back ≡ item) × (new ≡ old)
IsPushRefused rules named item x old (Faulty back report) new =
    HasRoom named old × (first_report (item_reports rules named x old) ≡ Some (report_shown report)) × (back ≡ item) × (new ≡ old)
IsPushRefused rules named item x old (NoItem back) new = ⊥

-- what became of a push, with the first report of an item that is refused
abbrev pub IsPushedOrReported : {P X : Type 0} → Rules → ListName → X → Tree → Tree → Result (IndexTo P) (Refused X) → Tree → Type 0
IsPushedOrReported rules named item x old (Ok index) new = IsPushed rules named item x old (Ok index) new
IsPushedOrReported rules named item x old (Err refused) new = IsPushRefused rules named item x old refused new

-- ---- how it is done

-- an item, which a tree stands for, is the last of a root's list and has a first fault there: the root has the reports that the
-- item has where it is pushed onto the document that was before
abbrev pub IsFaultyLast : {X : Type 0} → Rules → ListName → X → Tree → Tree → List X → Tree → Error → Type 0
IsFaultyLast rules named item x before items root error =
    (last_or None items ≡ Some item) × HasRoom named before × (first_fault_of (item_reports rules named x before) ≡ Some error)
    × (document_reports rules root ≡ item_reports rules named x before)
