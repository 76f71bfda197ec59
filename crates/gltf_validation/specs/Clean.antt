-- Documents without reports, and pushes onto them.
use Rattle.std.specs.Prelude.{◌≡◌, ◌-◌, ◌^◌, ◌<◌, ◌≤◌, List, [], Some, Result, Ok, Err}
use Rattle.gltf_base.specs.Indexes.{index_number}
use Rattle.gltf_base.specs.Lists.{ListName}
use Rattle.gltf_base.specs.declared.index.IndexTo.{IndexTo}
use Rattle.gltf_schema.specs.Tree.{Tree}
use Rattle.gltf_validation_rules.specs.Report.{Report, first_fault_of}
use Rattle.gltf_root.specs.Lists.{count_in}
use Rattle.gltf_root.specs.Pushed.{pushed, item_kind, item_place}
use Rattle.gltf_validation_rules.specs.Context.{Rules}
use Rattle.gltf_validation_rules.specs.Reports.{document_reports, reports_by_rules}
use Rattle.gltf_validation.specs.NoItems.{none-prop}
use Rattle.gltf_validation.specs.declared.push.CleanError.{CleanError}
use Rattle.gltf_validation.specs.declared.push.CleanError.TheVariants.{Full, Memory, Faulty}

-- a document has no report by rules, against itself
abbrev pub IsClean : Rules → Tree → Type 0
IsClean rules root = document_reports rules root ≡ []

pub IsClean-prop : (rules : Rules) (root : Tree) → IsProp (IsClean rules root)
IsClean-prop rules root = none-prop (document_reports rules root)

-- what is wrong with an item that is pushed onto a list of a document: at its place, in the document with the item
abbrev pub item_reports : Rules → ListName → Tree → Tree → List Report
item_reports rules named x root = reports_by_rules rules (item_kind named) x (pushed named x root) (item_place named (count_in named root))

-- a list has 2^32 - 1 items or more; a list has room
abbrev pub IsFull : ListName → Tree → Type 0
IsFull named root = 2 ^ 32 - 1 ≤ count_in named root

abbrev pub HasRoom : ListName → Tree → Type 0
HasRoom named root = count_in named root < 2 ^ 32 - 1

-- what became of a push of an item, which a tree stands for, onto a list of a document. The item is at the list's end, where
-- it has no report; or the document stays, and the item is handed back
abbrev pub IsPushed : {P X : Type 0} → Rules → ListName → X → Tree → Tree → Result (IndexTo P) (CleanError X) → Tree → Type 0
IsPushed rules named item x old (Ok index) new =
    HasRoom named old × (item_reports rules named x old ≡ []) × (index_number index ≡ count_in named old) × (new ≡ pushed named x old)
IsPushed rules named item x old (Err (Full back)) new = IsFull named old × (back ≡ item) × (new ≡ old)
IsPushed rules named item x old (Err (Memory back)) new = HasRoom named old × (back ≡ item) × (new ≡ old)
IsPushed rules named item x old (Err (Faulty back error)) new =
    HasRoom named old × (first_fault_of (item_reports rules named x old) ≡ Some error) × (back ≡ item) × (new ≡ old)
