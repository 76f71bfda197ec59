-- A document with another item in the place of one.
use Rattle.std.specs.Prelude.{◌≡◌, ◌<◌, ◌≤◌, ℕ, List, length, true, Some, Result, Ok, Err, slice_get, slice_set}
use Rattle.gltf_base.specs.Lists.{ListName}
use Rattle.gltf_schema.specs.Tree.{Tree}
use Rattle.gltf_root.specs.Lists.{list_in, count_in, is_there}
use Rattle.gltf_root.specs.Named.{put_at}
use Rattle.gltf_root.specs.Pushed.{with_list}
use Rattle.gltf_validation_rules.specs.Context.{Rules}
use Rattle.gltf_validation_rules.specs.Reports.{document_reports}
use Rattle.gltf_validation.specs.Clean.{IsClean}
use Rattle.gltf_validation.specs.FirstReport.{first_report, report_shown}
use Rattle.gltf_validation.specs.declared.refused.Refused.{Refused}
use Rattle.gltf_validation.specs.declared.refused.Refused.TheVariants.{Full, Memory, NoItem, Faulty}

-- a document with another item at a number of a list; all else is as it was
abbrev pub replaced : ListName → ℕ → Tree → Tree → Tree
replaced named n x root = with_list named (put_at n x (list_in named root)) root

-- what became of an item, which a tree stands for, that was to replace another by rules. It is in that one's place, and the
-- document has no report; or the document stays, and the item is handed back
abbrev pub IsReplaced : {X : Type 0} → Rules → ListName → ℕ → X → Tree → Tree → Result X (Refused X) → Tree → Type 0
IsReplaced rules named n item x old (Ok was) new =
    (n < count_in named old) × IsClean rules (replaced named n x old) × (new ≡ replaced named n x old)
IsReplaced rules named n item x old (Err (NoItem back)) new = (count_in named old ≤ n) × (back ≡ item) × (new ≡ old)
IsReplaced rules named n item x old (Err (Faulty back report)) new =
    (n < count_in named old) × (first_report (document_reports rules (replaced named n x old)) ≡ Some (report_shown report))
    × (back ≡ item) × (new ≡ old)
IsReplaced rules named n item x old (Err (Memory back)) new =
    (n < count_in named old) × (¬ IsClean rules (replaced named n x old)) × (back ≡ item) × (new ≡ old)
IsReplaced rules named n item x old (Err (Full back)) new = ⊥

-- ---- how it is done

-- an item and the one at a number of a list change places, if there is one
abbrev pub IsSwappedAt : {X : Type 0} → ℕ → X → List X → Result X X → List X → Type 0
IsSwappedAt n item xs (Ok was) ys = (slice_get xs n ≡ Some was) × (ys ≡ slice_set xs n item)
IsSwappedAt n item xs (Err back) ys = (length xs ≤ n) × (back ≡ item) × (ys ≡ xs)

-- the same in a list of a document
abbrev pub IsSwapped : {X : Type 0} → ListName → (X → Tree) → ℕ → X → List X → Tree → Result X X → List X → Tree → Type 0
IsSwapped named tree n item xs old (Ok was) ys new =
    (slice_get xs n ≡ Some was) × (ys ≡ slice_set xs n item) × (is_there named old ≡ true) × (new ≡ replaced named n (tree item) old)
IsSwapped named tree n item xs old (Err back) ys new = (length xs ≤ n) × (back ≡ item) × (new ≡ old)
