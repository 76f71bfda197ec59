-- The places of reports.
use Rattle.std.specs.Prelude.{List, [], ◌∷◌, Bool, true, false, ◌&&◌, nat_eq}
use Rattle.std.specs.Str.{bytes_eq}
use Rattle.gltf_base.specs.Steps.{Step, field, item, key, value}
use Rattle.gltf_validation_rules.specs.Report.{Report}

abbrev pub same_step : Step → Step → Bool
same_step (field f) (field g) = bytes_eq f g
same_step (item m) (item n) = nat_eq m n
same_step (key f) (key g) = bytes_eq f g
same_step (value f) (value g) = bytes_eq f g
same_step _ _ = false

-- steps that begin with those of a place
abbrev pub begin_with : List Step → List Step → Bool
begin_with [] steps = true
begin_with (p ∷ place) [] = false
begin_with (p ∷ place) (s ∷ steps) = same_step p s && begin_with place steps

-- a report of what is at a place or below it
abbrev pub is_below : List Step → Report → Bool
is_below place r = begin_with place r.steps
