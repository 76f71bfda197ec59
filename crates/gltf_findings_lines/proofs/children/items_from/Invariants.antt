-- The items so far, and those that are left, are those of the array.
use Rattle.std.proofs.Common.{ℕ, ◌-◌, List, ◌++◌, length, drop}
use Rattle.json.specs.Json.{Items}
use Rattle.json.specs.Find.{InItems}
use Rattle.gltf_findings_lines.specs.Children.{AreItems, tokens_of}
use Rattle.gltf_findings_lines.proofs.children.items_from.Given as goal

abbrev pub invariant-loop-end : goal.invariant-loop-end
invariant-loop-end l =
    (js : Items) → InItems (drop l.first (tokens_of l.nodes)) js → (rest : Items) × InItems (drop l.at (tokens_of l.nodes)) rest
    × ((ss : List ℕ) → AreItems l.nodes l.at rest ss → AreItems l.nodes l.first js (l.starts.items ++ ss))

abbrev pub decreases-loop-end : goal.decreases-loop-end
decreases-loop-end l = length l.nodes - l.at
