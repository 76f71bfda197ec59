-- What an iterator of elements still gives.
use Rattle.std.specs.Prelude.{ℕ, ◌-◌, List}
use Rattle.gltf_accessors.specs.declared.iter.ElementsIter.{ElementsIter}
use Rattle.gltf_accessors.specs.Elements.{elements_from}

abbrev pub elements_left : ElementsIter → List (List ℕ)
elements_left it = elements_from it.elements.bytes.now it.elements.span it.next (it.elements.span.count - it.next)
