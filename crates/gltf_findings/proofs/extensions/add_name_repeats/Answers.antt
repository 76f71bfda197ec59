use Rattle.std.proofs.Common.{◌≡◌, ◌++◌, [], ◌∷◌, string_bytes, bytes_eq, refl, ◌∙◌, ap, arith}
use Rattle.std.specs.Prelude.{◌||◌}
use Rattle.std.specs.BTreeSet.{contains_text}
use Rattle.gltf_findings_codes.specs.Found.{broken, found}
use Rattle.gltf_findings_codes.specs.declared.code.Code.TheVariants.{DuplicateElements}
use Rattle.gltf_findings_codes.specs.declared.finding.Object.TheVariants.{Document}
use Rattle.gltf_findings_codes.specs.declared.finding.Subject.TheVariants.{Entry}
use Rattle.gltf_findings.specs.ExtensionNames.{is_listed, name_repeats}
use Rattle.std.proofs.lemmas.Option.{slice_get_read}
use Rattle.gltf_findings.proofs.Named.{more_repeats}
use Rattle.gltf_findings.proofs.extensions.add_name_repeats.Goals as goal

pub loop-number-preserved : goal.loop-number-preserved
loop-number-preserved c =
    let x = c.index-names-number.result in
    let k = c.loop-number.number in
    let part = c.loop-number.invariant in
    let again : c.contains-is_repeat.result ≡ is_listed part.earlier (string_bytes x) = c.contains-is_repeat.ensures ∙ part.known c.as_str-name.result.now ∙ ap (is_listed part.earlier) c.as_str-name.ensures.value in
    let rule : c.broken.result ≡ broken (is_listed part.earlier (string_bytes x)) DuplicateElements (Entry Document c.args.list k) = c.broken.ensures ∙ ap (λ b. broken b DuplicateElements (Entry Document c.args.list k)) again in
    record {
      earlier = x ∷ part.earlier;
      known = λ q. c.in_ok-add_name.ensures q ∙ ap (λ s. bytes_eq s q || contains_text c.loop-number.before q) c.as_str-name.ensures.value ∙ ap (λ b. bytes_eq (string_bytes x) q || b) (part.known q);
      all = more_repeats c.args.list c.args.names.now part.earlier (c.args.to.now.items ++ name_repeats c.args.list [] 0 c.args.names.now) c.loop-number.to.items c.add_found.new.to.items (found (broken (is_listed part.earlier (string_bytes x)) DuplicateElements (Entry Document c.args.list k) ∷ [])) k x (slice_get_read c.args.names.now _ k x refl (omega arith) c.index-names-number.is) (c.in_ok-add_found.ensures ∙ ap (λ r. c.loop-number.to.items ++ found (r ∷ [])) rule) refl part.all;
    }
