use Rattle.std.proofs.Common.{◌≡◌, ℕ, ◌<◌, length, slice_get, Some}
use Rattle.gltf_accessors.specs.Components.{component_at}
use Rattle.gltf_accessors.proofs.components.Components.get.Given as goal

abbrev pub invariant-loop-k : goal.invariant-loop-k
invariant-loop-k g l =
    let t = g.T.Component in
    record {
      len : length l.numbers ≡ g.row.N;
      each : (m : ℕ) → m < l.k → slice_get l.numbers m ≡ Some (t.number_of (component_at t.SIZE l.self.elements.bytes.now l.self.elements.span l.index m));
    }
