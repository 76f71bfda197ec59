use Rattle.std.proofs.Common.{◌≡◌, Some, sym, ◌∙◌, arith}
use Rattle.gltf_accessors.proofs.laws.places_have_elements.Goals as goal

pub returns : goal.returns
returns c = λ d at buffer_length length lie is_buffer enough i small.
    let both : Some lie.0 ≡ Some buffer_length = sym lie.1 ∙ is_buffer in
    let same : lie.0 ≡ buffer_length = cc in
    omega (arith, lie.2 i small, same, enough)
