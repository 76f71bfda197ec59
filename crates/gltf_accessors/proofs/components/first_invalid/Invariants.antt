use Rattle.std.proofs.Common.{◌≡◌, ℕ, ◌<◌, true}
use Rattle.gltf_accessors.specs.Components.{component_at}
use Rattle.gltf_accessors.proofs.components.first_invalid.Given as goal

abbrev pub invariant-loop-k : goal.invariant-loop-k
invariant-loop-k g l =
    let t = g.T.Component in
    (m : ℕ) → m < l.k → t.may_be (component_at t.SIZE l.elements.bytes.now l.elements.span l.index m) ≡ true
