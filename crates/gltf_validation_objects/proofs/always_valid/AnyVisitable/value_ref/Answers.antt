-- There is nothing to go through.
use Rattle.std.proofs.Common.{sym}
use Rattle.gltf_validation_rules.specs.Context.{context_of}
use Rattle.gltf_validation_objects.proofs.always_valid.AnyVisitable.value_ref.Goals as goal

pub returns : goal.returns
returns g c = sym (g.T.AlwaysValid.quiet_checklist c.args.self.now (context_of c.args._context.now))
