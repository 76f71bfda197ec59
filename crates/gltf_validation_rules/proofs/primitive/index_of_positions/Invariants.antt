-- The positions are yet to come, if they are there.
use Rattle.std.specs.Prelude.{◌≡◌, map}
use Rattle.std.specs.Map.{lookup}
use Rattle.gltf_schema.specs.Fields.{entry_of}
use Rattle.gltf_validation_rules.specs.Rules.{is_positions}
use Rattle.gltf_validation_rules.proofs.primitive.index_of_positions.Given as goal

abbrev pub invariant-loop-semantic : goal.invariant-loop-semantic
invariant-loop-semantic l = lookup is_positions (map entry_of l.attributes.entries) ≡ lookup is_positions (map entry_of l.semantic-iterator)
