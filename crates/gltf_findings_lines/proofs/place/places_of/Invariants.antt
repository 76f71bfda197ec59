-- The places so far are those of the first pointers.
use Rattle.std.proofs.Common.{take}
use Rattle.json.specs.Json.{Json}
use Rattle.gltf_findings_lines.specs.Children.{AreKnown, ArePlaces, IsAt}
use Rattle.gltf_findings_lines.proofs.place.places_of.Given as goal

abbrev pub invariant-loop-pointer : goal.invariant-loop-pointer
invariant-loop-pointer l = record {
  kept : AreKnown l.nodes l.known;
  places : (j : Json) → IsAt l.nodes 0 j → ArePlaces l.nodes j (take l.pointer-index l.pointers) l.places.items;
}
