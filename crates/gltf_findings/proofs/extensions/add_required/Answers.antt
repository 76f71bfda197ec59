use Rattle.std.proofs.Common.{◌≡◌, ◌++◌, [], ◌∷◌, not, string_bytes, ◌∙◌, ap, refl, arith}
use Rattle.gltf_findings_codes.specs.Found.{broken, found, findings_from}
use Rattle.gltf_findings_codes.specs.declared.code.Code.TheVariants.{UnusedExtensionRequired}
use Rattle.gltf_findings_codes.specs.declared.name.Name.TheVariants.{ExtensionsRequired}
use Rattle.gltf_findings_codes.specs.declared.finding.Object.TheVariants.{Document}
use Rattle.gltf_findings_codes.specs.declared.finding.Subject.TheVariants.{Entry}
use Rattle.gltf_findings.specs.ExtensionNames.{is_listed, required_findings}
use Rattle.std.proofs.lemmas.Option.{slice_get_read}
use Rattle.gltf_findings.proofs.Named.{more_required}
use Rattle.gltf_findings.proofs.extensions.add_required.Goals as goal

pub loop-number-preserved : goal.loop-number-preserved
loop-number-preserved c =
    let x = c.index-required-number.result in
    let k = c.loop-number.number in
    let used : c.contains-is_used.result ≡ is_listed c.args.used.now (string_bytes x) = c.contains-is_used.ensures ∙ c.in_ok-names.ensures c.as_str.result.now ∙ ap (is_listed c.args.used.now) c.as_str.ensures.value in
    let rule : c.broken.result ≡ broken (not (is_listed c.args.used.now (string_bytes x))) UnusedExtensionRequired (Entry Document ExtensionsRequired k) = c.broken.ensures ∙ ap (λ b. broken (not b) UnusedExtensionRequired (Entry Document ExtensionsRequired k)) used in
    more_required c.args.used.now c.args.required.now (c.args.to.now.items ++ findings_from (required_findings c.args.used.now) 0 c.args.required.now) c.loop-number.to.items c.add_found.new.to.items k x (slice_get_read c.args.required.now _ k x refl (omega arith) c.index-required-number.is) (c.in_ok-add_found.ensures ∙ ap (λ r. c.loop-number.to.items ++ found (r ∷ [])) rule) c.loop-number.invariant
