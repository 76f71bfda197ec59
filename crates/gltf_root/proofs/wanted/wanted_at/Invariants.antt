use Rattle.std.proofs.Common.{◌≡◌, drop, map}
use Rattle.gltf_schema.specs.RowPlacing.{owned_step}
use Rattle.gltf_root.specs.NodesWithin.{node_at}
use Rattle.gltf_root.proofs.wanted.wanted_at.Given as goal

-- the steps that are left lead on from this node
abbrev pub invariant-loop-step : goal.invariant-loop-step
invariant-loop-step l = node_at l.nodes l.root (map owned_step l.steps) ≡ node_at l.nodes l.at (map owned_step (drop l.step-index l.steps))
