use Rattle.gltf_layout.specs.Places.{ArePlacesBelow}
use Rattle.gltf_layout.proofs.layout.Layout.of.Given as goal

abbrev pub invariant-loop-accessor : goal.invariant-loop-accessor
invariant-loop-accessor g l = ArePlacesBelow (g.D.Storage.stored l.document) l.places.items l.accessor
