-- The steps to what holds a value.
use Rattle.std.specs.Prelude.{List, [], ◌∷◌}
use Rattle.gltf_base.specs.Steps.{Step}

-- the steps but for the last
abbrev pub without_last : List Step → List Step
without_last [] = []
without_last (s ∷ []) = []
without_last (s ∷ t ∷ steps) = s ∷ without_last (t ∷ steps)
