-- The attribute is yet to come, if it is there.
use Rattle.std.specs.Prelude.{◌≡◌, map}
use Rattle.std.specs.Map.{lookup}
use Rattle.gltf_base.specs.Keys.{key_eq}
use Rattle.gltf_schema.specs.Fields.{entry_of}
use Rattle.gltf_findings_codes.specs.Attributes.{attribute_key}
use Rattle.gltf_findings_codes.proofs.attribute.Attribute.accessor_in.Given as goal

abbrev pub invariant-loop-semantic : goal.invariant-loop-semantic
invariant-loop-semantic g l = lookup (key_eq (attribute_key l.self)) (map entry_of l.attributes.entries) ≡ lookup (key_eq (attribute_key l.self)) (map entry_of l.semantic-iterator)
