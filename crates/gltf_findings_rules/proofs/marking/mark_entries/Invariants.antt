-- The attributes that are left mark all.
use Rattle.std.proofs.Common.{◌≡◌, map}
use Rattle.gltf_schema.specs.Fields.{entry_of}
use Rattle.gltf_findings_rules.specs.Marking.{entry_marks}
use Rattle.gltf_findings_rules.proofs.marking.mark_entries.Given as goal

abbrev pub invariant-loop-index : goal.invariant-loop-index
invariant-loop-index l = entry_marks (map entry_of l.index-iterator) l.marks.items ≡ entry_marks (map entry_of l.attributes.entries) l.fn.marks.items
