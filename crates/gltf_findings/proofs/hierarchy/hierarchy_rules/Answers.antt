use Rattle.std.proofs.Common.{◌∙◌, ap, map}
use Rattle.gltf_findings.specs.Hierarchy.{fault_finding}
use Rattle.gltf_findings.proofs.hierarchy.hierarchy_rules.Goals as goal

pub returns : goal.returns
returns c = record {
  faults = c.in_ok-faults.faults.items;
  all = c.in_ok-faults.ensures.all;
  none = c.in_ok-faults.ensures.none;
  each = c.in_ok-rules.ensures ∙ ap (map fault_finding) c.deref.ensures.value;
}
