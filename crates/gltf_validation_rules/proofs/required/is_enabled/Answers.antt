-- The names that were given are those of the rules.
use Rattle.std.proofs.Common.{◌∙◌}
use Rattle.std.specs.Str.{bytes_eq}
use Rattle.gltf_validation_rules.proofs.Enabled.{any-map}
use Rattle.gltf_validation_rules.proofs.required.is_enabled.Goals as goal

pub returns : goal.returns
returns c = c.contains.ensures.value ∙ any-map (λ e. bytes_eq e c.args.name.now) (λ e. e.now) c.args.rules.now.enabled.now
