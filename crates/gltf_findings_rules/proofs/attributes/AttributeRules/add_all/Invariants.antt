-- The attributes that are left give all findings.
use Rattle.std.proofs.Common.{◌≡◌, ◌++◌, map}
use Rattle.gltf_schema.specs.Fields.{entry_of}
use Rattle.gltf_findings_rules.specs.Attributes.{attribute_findings}
use Rattle.gltf_findings_rules.proofs.attributes.AttributeRules.add_all.Given as goal

abbrev pub invariant-loop-semantic : goal.invariant-loop-semantic
invariant-loop-semantic l = l.to.items ++ attribute_findings l.self.is_quantized l.self.vertices l.self.views.now l.self.accessors.now l.self.mesh l.self.primitive (map entry_of l.semantic-iterator) ≡ l.fn.to.items ++ attribute_findings l.self.is_quantized l.self.vertices l.self.views.now l.self.accessors.now l.self.mesh l.self.primitive (map entry_of l.attributes.entries)
