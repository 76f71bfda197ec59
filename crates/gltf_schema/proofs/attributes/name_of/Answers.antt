-- A semantic has a name, which is its text.
use Rattle.std.proofs.Common.{Some, sym, ap, ◌∙◌}
use Rattle.gltf_base.specs.Semantics.{semantic_key}
use Rattle.gltf_schema.proofs.Putting.{named}
use Rattle.gltf_schema.proofs.attributes.name_of.Goals as goal

pub returns-in_ok-to_string-in-Valid : goal.returns-in_ok-to_string-in-Valid
returns-in_ok-to_string-in-Valid c =
    rw c.in-Valid.is (named (semantic_key c.in-Valid.semantic) c.in_ok-to_string-in-Valid.ensures.named ∙ ap Some (sym c.in_ok-to_string-in-Valid.ensures.text))
