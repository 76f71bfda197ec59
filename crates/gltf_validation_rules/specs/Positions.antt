-- What was found wrong with the positions of a primitive.
use Rattle.std.specs.Prelude.{[], ◌∷◌, ◌++◌, codes}
use Rattle.gltf_base.specs.Steps.{field}
use Rattle.gltf_validation_rules.specs.Report.{From, found_at}
use Rattle.gltf_validation_rules.specs.declared.primitive.PositionFaults.{PositionFaults}

-- at the attribute itself, and then at the bounds of its accessor
abbrev pub found_in_positions : PositionFaults → From
found_in_positions f base =
    found_at f.positions base ++ (found_at f.min (base ++ field (codes "min") ∷ []) ++ found_at f.max (base ++ field (codes "max") ∷ []))
