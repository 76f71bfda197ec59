use Rattle.gltf_accessors.specs.Components.{MayBeBelow}
use Rattle.gltf_accessors.proofs.components.Components.of.Given as goal

abbrev pub invariant-loop-element : goal.invariant-loop-element
invariant-loop-element g l =
    let t = g.T.Component in
    MayBeBelow t.may_be t.SIZE g.row.N l.elements.bytes.now l.elements.span l.element
