use Rattle.std.proofs.Common.{◌-◌, arith}
use Rattle.gltf_accessors.proofs.Places.{all_within, last_within}
use Rattle.gltf_accessors.proofs.elements.lie_within.Goals as goal

pub returns : goal.returns
returns c =
    let s = c.args.span.now in
    (λ t. all_within c.args.length s (s.count - 1) (omega arith) (c.ends_within.ensures.0 t), λ w. c.ends_within.ensures.1 (last_within c.args.length s (s.count - 1) (omega arith) w))
