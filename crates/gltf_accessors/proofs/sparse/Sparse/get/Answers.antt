use Rattle.std.proofs.Common.{◌≡◌, subst}
use Rattle.gltf_accessors.specs.Indices.{index_at}
use Rattle.gltf_accessors.specs.Components.{AreComponents}
use Rattle.gltf_accessors.proofs.Rising.{one_place}
use Rattle.gltf_accessors.proofs.sparse.Sparse.get.Goals as goal

pub returns-clause-value : goal.returns-clause-value
returns-clause-value g c = λ j small at.
    let x = c.args.self.now.indices in
    let v = c.args.self.now.values.elements in
    let t = g.T.Component in
    let found = c.in-Some.ensures in
    let same : c.in-Some.place ≡ j = one_place (index_at x.kind x.elements.bytes.now x.elements.span) x.elements.span.count c.in-Some.place j c.args.index c.args.self.now.rising found.0 small found.1 at in
    subst (λ k. AreComponents t.number_of t.SIZE g.row.N v.bytes.now v.span k c.get.result) same c.get.ensures
