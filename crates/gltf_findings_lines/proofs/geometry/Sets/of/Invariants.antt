use Rattle.std.proofs.Common.{◌≡◌, map}
use Rattle.gltf_schema.specs.Fields.{entry_of}
use Rattle.gltf_findings_lines.specs.Geometry.{sets_from, sets_of}
use Rattle.gltf_findings_lines.proofs.geometry.Sets.of.Given as goal

-- what the attributes that are left add gives all
abbrev pub invariant-loop-semantic : goal.invariant-loop-semantic
invariant-loop-semantic l = sets_from l.sets (map entry_of l.semantic-iterator) ≡ sets_of l.primitive
