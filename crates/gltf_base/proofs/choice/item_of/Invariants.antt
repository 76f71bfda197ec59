use Rattle.std.proofs.Common.{◌≡◌, drop}
use Rattle.gltf_base.specs.Spelling.{spelling_of, item_spelled}
use Rattle.gltf_base.proofs.choice.item_of.Given as goal

-- what the items left mean is what all of them mean
abbrev pub invariant-loop-item : goal.invariant-loop-item
invariant-loop-item g l =
    let choice = g.T.Choice in
    item_spelled choice.spelling (drop l.item-index l.item-items) (spelling_of l.spelling) ≡ item_spelled choice.spelling choice.listed (spelling_of l.spelling)
