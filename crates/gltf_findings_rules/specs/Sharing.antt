-- The buffer views of the accessors that are chosen.
use Rattle.std.specs.Prelude.{ℕ, ◌+◌, List, [], ◌∷◌, Bool, ◌&&◌, if◌then◌else◌, Option, Some, None}
use Rattle.gltf_base.specs.declared.index.IndexTo.{IndexTo}
use Rattle.gltf_base.specs.Indexes.{index_number}
use Rattle.gltf_parts.specs.declared.accessor.Accessor.{Accessor}
use Rattle.gltf_findings_codes.specs.Marks.{mark, mark_some, is_marked}

abbrev pub mark_if : {P : Type 0} → Bool → List Bool → Option (IndexTo P) → List Bool
mark_if is_chosen marks view = if is_chosen then mark_some marks view else marks

-- the marks of the views that the chosen ones of the accessors from a place on name
abbrev pub views_of : List Bool → ℕ → List Accessor → List Bool → List Bool
views_of chosen k [] marks = marks
views_of chosen k (a ∷ xs) marks = views_of chosen (k + 1) xs (mark_if (is_marked chosen k) marks a.buffer_view)

-- a view that is marked once is marked twice
abbrev pub mark_twice : {P : Type 0} → Bool → Option (IndexTo P) → List Bool → List Bool → List Bool
mark_twice is_chosen None once twice = twice
mark_twice is_chosen (Some i) once twice = if is_chosen && is_marked once (index_number i) then mark twice (index_number i) else twice

-- the marks of the views that two or more of them name
abbrev pub shared_views : List Bool → ℕ → List Accessor → List Bool → List Bool → List Bool
shared_views chosen k [] once twice = twice
shared_views chosen k (a ∷ xs) once twice =
    shared_views chosen (k + 1) xs (mark_if (is_marked chosen k) once a.buffer_view) (mark_twice (is_marked chosen k) a.buffer_view once twice)
