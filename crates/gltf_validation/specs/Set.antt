-- Members of a document that aren't lists of items, set to other values.
use Rattle.std.specs.Prelude.{◌≡◌, ◌<◌, length, ⊤, Option, Some, None, Result, Ok, Err, String}
use Rattle.std.specs.declared.alloc.Global.{Global}
use Rattle.std.specs.declared.vec.Vec.{Vec}
use Rattle.gltf_base.specs.Indexes.{index_number}
use Rattle.gltf_base.specs.declared.index.IndexTo.{IndexTo}
use Rattle.gltf_root.specs.Root.{root_tree}
use Rattle.gltf_root.specs.declared.root.Root.{Root}
use Rattle.gltf_validation_rules.specs.Context.{Rules}
use Rattle.gltf_validation_rules.specs.Reports.{document_reports}
use Rattle.gltf_validation.specs.Clean.{IsClean}
use Rattle.gltf_validation.specs.FirstReport.{first_report, report_shown}
use Rattle.gltf_validation.specs.declared.refused.Refused.{Refused}
use Rattle.gltf_validation.specs.declared.refused.Refused.TheVariants.{Full, Memory, NoItem, Faulty}

-- a root can show a scene: it lists the scene, or no scene is to be shown
abbrev pub IsShown : {P : Type 0} → Option (IndexTo P) → Root → Type 0
IsShown None root = ⊤
IsShown (Some index) root = index_number index < length root.scenes.items

-- a root that requires the extensions of these names; all else is as it was
abbrev pub requiring : Vec (String Global) Global → Root → Root
requiring names root = record root { extensions_required = names }

-- what became of names of extensions that a root was to require by rules: it requires them, and has no report; or it stays, and
-- the names are handed back
abbrev pub IsRequired : Rules → Vec (String Global) Global → Root → Result (Unit {0}) (Refused (Vec (String Global) Global)) → Root → Type 0
IsRequired rules names old (Ok _) new = IsClean rules (root_tree (requiring names old)) × (new ≡ requiring names old)
IsRequired rules names old (Err (Faulty back report)) new =
    (first_report (document_reports rules (root_tree (requiring names old))) ≡ Some (report_shown report)) × (back ≡ names) × (new ≡ old)
IsRequired rules names old (Err (Memory back)) new = (¬ IsClean rules (root_tree (requiring names old))) × (back ≡ names) × (new ≡ old)
IsRequired rules names old (Err (Full back)) new = ⊥
IsRequired rules names old (Err (NoItem back)) new = ⊥
