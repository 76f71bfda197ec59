use Rattle.std.proofs.Common.{◌≡◌, ℕ, ◌<◌, length, slice_get, Some}
use Rattle.gltf_accessors.specs.Components.{component_at}
use Rattle.gltf_accessors.proofs.components.Components.normalized.Given as goal

abbrev pub invariant-loop-k : goal.invariant-loop-k
invariant-loop-k g l =
    let t = g.T.Component in
    let n = g.T.Normalized in
    record {
      len : length l.floats ≡ g.row.N;
      each : (m : ℕ) → m < l.k → slice_get l.floats m ≡ Some (n.normalized (t.number_of (component_at t.SIZE l.self.elements.bytes.now l.self.elements.span l.index m)));
    }
