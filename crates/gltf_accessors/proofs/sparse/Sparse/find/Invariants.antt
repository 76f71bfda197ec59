use Rattle.std.proofs.Common.{ℕ, ◌<◌, ◌≤◌, ◌-◌}
use Rattle.gltf_accessors.specs.Indices.{index_at}
use Rattle.gltf_accessors.proofs.sparse.Sparse.find.Given as goal

abbrev pub invariant-halves : goal.invariant-halves
invariant-halves g l =
    let x = l.self.indices in
    record {
      high : l.high ≤ x.elements.span.count;
      below : (j : ℕ) → j < l.low → index_at x.kind x.elements.bytes.now x.elements.span j < l.index;
      above : (j : ℕ) → l.high ≤ j → j < x.elements.span.count → l.index < index_at x.kind x.elements.bytes.now x.elements.span j;
    }

abbrev pub decreases-halves : goal.decreases-halves
decreases-halves g l = l.high - l.low
