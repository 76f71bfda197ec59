-- The reports of values, by their types.
use Rattle.std.specs.Prelude.{ℕ, List, [], ◌∷◌, ◌++◌, Option, Some, None}
use Rattle.gltf_base.specs.Steps.{key}
use Rattle.gltf_base.specs.declared.validation.Error.TheVariants as error
use Rattle.gltf_base.specs.declared.validation.Checked.{Checked}
use Rattle.gltf_base.specs.declared.validation.Checked.TheVariants as checked
use Rattle.gltf_schema.specs.Tree.{Tree, absent}
use Rattle.gltf_schema.specs.Kind.{Kind, ListOf}
use Rattle.gltf_validation_rules.specs.Report.{report, From, each_at}
use Rattle.gltf_validation_rules.specs.Context.{Context}
use Rattle.gltf_validation_rules.specs.Reports.{reports}

-- by the table, where it has the value's kind; else by the type itself
abbrev pub reports_by : Option Kind → Tree → (Context → From) → Context → From
reports_by None t own context base = own context base
reports_by (Some kind) t own context base = reports kind t context absent base

-- of each value of a type
abbrev pub reports_in : {X : Type 0} → Option Kind → (X → Tree) → (X → Context → From) → Context → X → From
reports_in kind tree own context x base = reports_by kind (tree x) (own x) context base

-- of a value of a type without reports
abbrev pub no_reports : {X : Type 0} → X → Context → From
no_reports x context base = []

-- of an item of a choice
abbrev pub checked_reports : {X : Type 0} → Checked X → Context → From
checked_reports (checked.Valid x) context base = []
checked_reports checked.Invalid context base = report base error.Invalid ∷ []

-- of an option: those of what it holds
abbrev pub option_reports : {X : Type 0} → (X → Context → From) → Option X → Context → From
option_reports own None context base = []
option_reports own (Some x) context base = own x context base

-- of a list: those of each item, at its number
abbrev pub list_reports : {X : Type 0} → (X → Context → From) → List X → Context → From
list_reports own xs context base = each_at (λ x. own x context) 0 xs base

abbrev pub list_kind : Option Kind → Option Kind
list_kind None = None
list_kind (Some kind) = Some (ListOf kind)

-- of a map: for each entry those of its key, then those of its value, both at the key
abbrev pub each_entry : {K V : Type 0} → (K → List ℕ) → (K → From) → (V → From) → List (K × V) → From
each_entry text f g [] base = []
each_entry text f g (e ∷ es) base =
    (f e.0 (base ++ key (text e.0) ∷ []) ++ g e.1 (base ++ key (text e.0) ∷ [])) ++ each_entry text f g es base
