use Rattle.std.proofs.Common.{◌++◌, ◌∙◌, ap}
use Rattle.gltf_findings_codes.specs.Found.{found, findings_from}
use Rattle.gltf_findings.specs.Findings.{findings_of}
use Rattle.gltf_findings.specs.Skeletons.{skeleton_findings}
use Rattle.gltf_findings.proofs.findings.Findings.of.Goals as goal

pub returns : goal.returns
returns c = record {
  hierarchy = c.in_ok-hierarchy.hierarchy.items;
  are_of = c.in_ok-hierarchy.ensures;
  apart = c.in_ok-skeletons.skeletons.apart.items;
  astray = c.in_ok-skeletons.skeletons.astray.items;
  skeletons = c.in_ok-skeletons.ensures;
  each = c.in_ok-found.ensures ∙ ap (λ xs. findings_of c.args.root.now ++ found xs ++ findings_from (skeleton_findings c.in_ok-skeletons.skeletons.apart.items c.in_ok-skeletons.skeletons.astray.items) 0 c.args.root.now.skins.items) c.deref.ensures.value;
}
