-- The reports of lists and choices are those of the table.
use Rattle.std.proofs.Common.{◌≡◌, ℕ, suc, List, [], ◌∷◌, ◌++◌, map, Option, Some, None, refl, ap}
use Rattle.gltf_base.specs.Spelling.{Spelling}
use Rattle.gltf_base.specs.Steps.{Step, item}
use Rattle.gltf_base.specs.declared.validation.Checked.{Checked}
use Rattle.gltf_base.specs.declared.validation.Checked.TheVariants.{Valid, Invalid}
use Rattle.gltf_schema.specs.Tree.{Tree, absent, trees, list}
use Rattle.gltf_schema.specs.Kind.{Kind}
use Rattle.gltf_schema.specs.Leaves.{checked_tree}
use Rattle.gltf_validation_rules.specs.Report.{From, each_at}
use Rattle.gltf_validation_rules.specs.Context.{Context}
use Rattle.gltf_validation_rules.specs.Faults.{choice_faults, items_reports}
use Rattle.gltf_validation_rules.specs.Reports.{reports}
use Rattle.gltf_validation.specs.ByType.{reports_by, reports_in, checked_reports, list_reports, list_kind}

-- each item by itself
items-each : {X : Type 0} (kind : Kind) (tree : X → Tree) (context : Context) (animation : Tree) (i : ℕ) (xs : List X) (base : List Step)
    → items_reports (λ t. reports kind t context animation) i (trees (map tree xs)) base ≡ each_at (λ x. reports kind (tree x) context animation) i xs base
items-each kind tree context animation i [] base = refl
items-each kind tree context animation i (x ∷ xs) base =
    ap (λ rs. reports kind (tree x) context animation (base ++ item i ∷ []) ++ rs) (items-each kind tree context animation (suc i) xs base)

-- a list has the reports of its items
pub list-each : {X : Type 0} (kind : Option Kind) (tree : X → Tree) (own : X → Context → From) (context : Context) (xs : List X) (base : List Step)
    → reports_by (list_kind kind) (list (trees (map tree xs))) (list_reports own xs) context base ≡ each_at (reports_in kind tree own context) 0 xs base
list-each None tree own context xs base = refl
list-each (Some kind) tree own context xs base = items-each kind tree context absent 0 xs base

-- an item of a choice has the reports of the table's choices
pub choice-checked : {X : Type 0} (spell : X → Spelling) (context : Context) (x : Checked X) (base : List Step) → choice_faults (checked_tree spell x) base ≡ checked_reports x context base
choice-checked spell context (Valid x) base = refl
choice-checked spell context Invalid base = refl
