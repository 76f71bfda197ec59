-- Which items of a list others name: a mark for each, which is true if one does.
use Rattle.std.specs.Prelude.{ℕ, List, [], ◌∷◌, Bool, true, false, set, if◌then◌else◌, nat_lt, length, slice_get, Option, Some, None}
use Rattle.gltf_base.specs.declared.index.IndexTo.{IndexTo}
use Rattle.gltf_base.specs.Indexes.{index_number}

abbrev pub mark : List Bool → ℕ → List Bool
mark marks n = if nat_lt n (length marks) then set marks n true else marks

abbrev pub mark_some : {P : Type 0} → List Bool → Option (IndexTo P) → List Bool
mark_some marks None = marks
mark_some marks (Some i) = mark marks (index_number i)

abbrev pub mark_all : List Bool → List ℕ → List Bool
mark_all marks [] = marks
mark_all marks (n ∷ ns) = mark_all (mark marks n) ns

abbrev pub is_true : Option Bool → Bool
is_true None = false
is_true (Some b) = b

abbrev pub is_marked : List Bool → ℕ → Bool
is_marked marks n = is_true (slice_get marks n)
