use Rattle.std.proofs.Common.{sym, ap, ◌∙◌, Some, option_map, option_copied}
use Rattle.gltf_base.specs.Keys.{key_eq}
use Rattle.gltf_base.specs.Semantics.{semantic_key}
use Rattle.gltf_base.specs.Indexes.{index_number}
use Rattle.gltf_base.specs.declared.validation.Checked.TheVariants.{Valid}
use Rattle.gltf_load.proofs.Named.{is_found}
use Rattle.gltf_load.proofs.attribute.accessor_of.Goals as goal

pub returns-in-Some : goal.returns-in-Some
returns-in-Some c = is_found (key_eq (semantic_key c.args.semantic)) _ c.args.attributes.now.entries _ _ (ap Some c.number.ensures ∙ sym (ap (λ o. option_map index_number (option_copied o)) c.in-Some.is)) c.get.ensures.value (λ k. sym (c.orders_agree_with_equality.ensures.equality (Valid c.args.semantic) k) ∙ c.semantics_are_ordered_as_keys.ensures.equality (Valid c.args.semantic) k)

pub returns : goal.returns
returns c = is_found (key_eq (semantic_key c.args.semantic)) _ c.args.attributes.now.entries _ _ (sym (ap (λ o. option_map index_number (option_copied o)) c.in-None.is)) c.get.ensures.value (λ k. sym (c.orders_agree_with_equality.ensures.equality (Valid c.args.semantic) k) ∙ c.semantics_are_ordered_as_keys.ensures.equality (Valid c.args.semantic) k)
