-- The parts that are left lead from the value that was reached to the place.
use Rattle.std.proofs.Common.{◌≡◌, map, drop}
use Rattle.json.specs.Json.{Json}
use Rattle.gltf_findings_lines.specs.Places.{parts_of, place_at}
use Rattle.gltf_findings_lines.specs.Children.{AreKnown, IsAt}
use Rattle.gltf_findings_lines.proofs.place.place_of.Given as goal

abbrev pub invariant-loop-i : goal.invariant-loop-i
invariant-loop-i l = record {
  kept : AreKnown l.nodes l.known;
  reached : (j : Json) → IsAt l.nodes 0 j → (v : Json) × IsAt l.nodes l.at v × (place_at (parts_of l.pointer) 0 j ≡ place_at (map (λ p. p.now) (drop l.i l.parts.items)) l.at v);
}
