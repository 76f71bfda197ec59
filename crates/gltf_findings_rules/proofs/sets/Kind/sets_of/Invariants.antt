-- The sets that are left give all.
use Rattle.std.proofs.Common.{◌≡◌, ◌++◌, map}
use Rattle.gltf_schema.specs.Fields.{entry_of}
use Rattle.gltf_findings_rules.specs.Sets.{sets_of}
use Rattle.gltf_findings_rules.proofs.sets.Kind.sets_of.Given as goal

abbrev pub invariant-loop-semantic : goal.invariant-loop-semantic
invariant-loop-semantic l = l.sets.items ++ sets_of l.self (map entry_of l.semantic-iterator) ≡ sets_of l.self (map entry_of l.attributes.entries)
