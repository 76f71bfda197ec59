-- The names that were seen are those of the text's list.
use Rattle.std.proofs.Common.{◌≡◌, Some, sym, ap, ◌∙◌, arith}
use Rattle.gltf_findings_members.specs.First.{has_name}
use Rattle.gltf_findings_members.proofs.first.look_again.Goals as goal

pub look_beside-requires : goal.look_beside-requires
look_beside-requires c = λ d is q has.
    let used : c.args.seen.used ≡ Some c.in-Some.used = grind arith in
    sym ((c.requires.seen.0 d is).used q) ∙ ap (λ u. has_name u q) used ∙ has
