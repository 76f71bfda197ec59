-- Rules that many members share.
use Rattle.std.specs.Prelude.{ℕ, ◌==◌, List, [], ◌∷◌, length, Bool, true, false, nat_le, Option, Some, None}
use Rattle.std.specs.Global.{Vec}
use Rattle.gltf_base.specs.declared.validation.Checked.{Checked}
use Rattle.gltf_base.specs.declared.validation.Checked.TheVariants.{Valid, Invalid}
use Rattle.gltf_base.specs.declared.index.IndexTo.{IndexTo}
use Rattle.gltf_base.specs.Indexes.{index_number}
use Rattle.gltf_findings_codes.specs.declared.code.Code.TheVariants.{UnresolvedReference}
use Rattle.gltf_findings_codes.specs.declared.name.Name.{Name}
use Rattle.gltf_findings_codes.specs.declared.finding.Object.{Object}
use Rattle.gltf_findings_codes.specs.declared.finding.Subject.TheVariants.{Entry}
use Rattle.gltf_findings_codes.specs.declared.finding.Finding.{Finding}
use Rattle.gltf_findings_codes.specs.Found.{broken, found}

-- a test of a value that may be there
abbrev pub if_there : {X : Type 0} → (X → Bool) → Option X → Bool
if_there p None = false
if_there p (Some x) = p x

-- a value that the choice doesn't list
abbrev pub is_invalid : {X : Type 0} → Checked X → Bool
is_invalid (Valid x) = false
is_invalid Invalid = true

abbrev pub is_some_invalid : {X : Type 0} → Option (Checked X) → Bool
is_some_invalid None = false
is_some_invalid (Some x) = is_invalid x

-- an index that names none of so many items
abbrev pub is_unresolved : {P : Type 0} → ℕ → IndexTo P → Bool
is_unresolved count index = nat_le count (index_number index)

abbrev pub is_some_unresolved : {P : Type 0} → ℕ → Option (IndexTo P) → Bool
is_some_unresolved count None = false
is_some_unresolved count (Some index) = is_unresolved count index

-- a list that is there and empty
abbrev pub is_empty_list : {X : Type 0} → Option (Vec X) → Bool
is_empty_list None = false
is_empty_list (Some xs) = length xs.items == 0

-- the finding at a number of a list of indexes
abbrev pub reference_findings : {P : Type 0} → Object → Name → ℕ → ℕ → IndexTo P → List Finding
reference_findings object name count k index = found (broken (is_unresolved count index) UnresolvedReference (Entry object name k) ∷ [])
