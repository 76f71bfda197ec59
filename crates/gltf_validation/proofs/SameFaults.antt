-- A tree has the same errors at every place.
use Rattle.std.proofs.Common.{List, [], ◌∷◌, ◌++◌, subst}
use Rattle.gltf_base.specs.Steps.{Step}
use Rattle.gltf_base.specs.declared.validation.Error.{Error}
use Rattle.gltf_schema.specs.Tree.{Tree}
use Rattle.gltf_schema.specs.Kind.{Kind}
use Rattle.gltf_validation_rules.specs.Report.{Report, report}
use Rattle.gltf_validation_rules.specs.Context.{Context}
use Rattle.gltf_validation_rules.specs.Reports.{reports}
use Rattle.gltf_validation_objects.specs.Checklist as checklists
use Rattle.gltf_validation_objects.specs.Checklist.{Checklist, Checklists, below, place, reports_of, reports_below, reports_here}
use Rattle.gltf_validation_objects.specs.ChecklistOf.{checklist}
use Rattle.gltf_validation_walk.proofs.ChecklistReports.{checklist_reports}

-- reports with the same errors, in the same order
pub data SameFaults : List Report → List Report → Type 0 where
  nothing : SameFaults [] []
  one : (a b : List Step) (error : Error) {rs qs : List Report} → SameFaults rs qs → SameFaults (report a error ∷ rs) (report b error ∷ qs)

then : {rs qs ts us : List Report} → SameFaults rs qs → SameFaults ts us → SameFaults (rs ++ ts) (qs ++ us)
then nothing h = h
then (one a b error g) h = one a b error (then g h)

-- ---- the reports of a checklist

here_same : (es : List Error) (a b : List Step) → SameFaults (reports_here es a) (reports_here es b)
here_same [] a b = nothing
here_same (error ∷ es) a b = one a b error (here_same es a b)

mutual
  checklist_same : (p : Checklist) (a b : List Step) → SameFaults (reports_of p a) (reports_of p b)
  checklist_same (place ps es) a b = then (below_same ps a b) (here_same es a b)

  below_same : (ps : Checklists) (a b : List Step) → SameFaults (reports_below ps a) (reports_below ps b)
  below_same checklists.nothing a b = nothing
  below_same (below s p ps) a b = then (checklist_same p (a ++ s ∷ []) (b ++ s ∷ [])) (below_same ps a b)

-- ---- the reports of a tree, by its checklist

pub reports_same : (kind : Kind) (t : Tree) (context : Context) (above : Tree) (a b : List Step)
    → SameFaults (reports kind t context above a) (reports kind t context above b)
reports_same kind t context above a b =
    let whole = checklist kind t context above in
    let reported = checklist_reports kind t context above in
    subst (λ rs. SameFaults rs (reports kind t context above b)) (reported a) (subst (λ rs. SameFaults (reports_of whole a) rs) (reported b) (checklist_same whole a b))
