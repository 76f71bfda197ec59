use Rattle.std.proofs.Common.{rules}
use Rattle.gltf_base.proofs.Shortened.{some_nearest, read_by_both}
use Rattle.gltf_base.proofs.real.Real.from_f32.Goals as goal

pub returns-in_err-nearest-clause-finite : goal.returns-in_err-nearest-clause-finite
returns-in_err-nearest-clause-finite c = absurd (read_by_both c.format_finite.result.now c.args.number c.format_finite.ensures.parses (search rules))

pub returns-clause-finite : goal.returns-clause-finite
returns-clause-finite c = some_nearest c.from_f64.result c.format_finite.result.now c.args.number c.in_ok-nearest.nearest c.format_finite.ensures.plain c.format_finite.ensures.parses (search rules) (search rules) c.from_f64.ensures
