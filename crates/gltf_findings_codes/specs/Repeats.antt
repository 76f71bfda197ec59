-- Elements that stand in a list more than once.
use Rattle.std.specs.Prelude.{ℕ, ◌+◌, ◌<◌, ◌≡◌, List, [], ◌∷◌, ◌++◌, Bool, Some, slice_get}
use Rattle.std.specs.List.{list_any}
use Rattle.std.specs.Ordering.{nat_cmp}
use Rattle.std.specs.BTreeMap.{is_at}
use Rattle.std.specs.BTreeSet.{insert_key}
use Rattle.gltf_findings_codes.specs.declared.code.Code.TheVariants.{DuplicateElements}
use Rattle.gltf_findings_codes.specs.declared.name.Name.{Name}
use Rattle.gltf_findings_codes.specs.declared.finding.Object.{Object}
use Rattle.gltf_findings_codes.specs.declared.finding.Subject.TheVariants.{Entry}
use Rattle.gltf_findings_codes.specs.declared.finding.Finding.{Finding}
use Rattle.gltf_findings_codes.specs.Found.{broken, found}

-- a number is one of these
abbrev pub is_among : List ℕ → ℕ → Bool
is_among before n = list_any (is_at (nat_cmp n)) before

-- the findings of a list's numbers from a place on: each that is one of those before, which are in order
abbrev pub repeat_findings : Object → Name → List ℕ → ℕ → List ℕ → List Finding
repeat_findings object name before k [] = []
repeat_findings object name before k (n ∷ ns) =
    found (broken (is_among before n) DuplicateElements (Entry object name k) ∷ [])
    ++ repeat_findings object name (insert_key nat_cmp before n) (k + 1) ns

-- the finding of the place of number j
abbrev pub repeat_at : Object → Name → ℕ → Finding
repeat_at object name j = record { code = DuplicateElements; place = Entry object name j }

-- an equal number stands before the one of number j
abbrev pub IsRepeat : List ℕ → ℕ → Type 0
IsRepeat ns j = (i n : ℕ) × (i < j) × (slice_get ns i ≡ Some n) × (slice_get ns j ≡ Some n)
