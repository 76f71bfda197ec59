use Rattle.std.proofs.Common.{◌≡◌, [], ◌∷◌, ap, ◌∙◌}
use Rattle.gltf_findings_codes.specs.Found.{broken}
use Rattle.gltf_findings_codes.specs.declared.code.Code.TheVariants.{NonRequiredExtension}
use Rattle.gltf_findings_codes.specs.declared.name.Name.TheVariants.{ExtensionsUsed}
use Rattle.gltf_findings_codes.specs.declared.finding.Object.TheVariants.{Document}
use Rattle.gltf_findings_codes.specs.declared.finding.Subject.TheVariants.{Member}
use Rattle.gltf_findings.proofs.names.use_rules.Goals as goal

pub returns : goal.returns
returns c = ap (λ rule. rule ∷ []) c.broken.ensures ∙ ap (λ b. broken b NonRequiredExtension (Member Document ExtensionsUsed) ∷ []) c.is_unrequired.ensures
