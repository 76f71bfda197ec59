use Rattle.std.proofs.Common.{◌<◌, ◌+◌, ◌-◌, ◌/◌, arith}
use Rattle.gltf_accessors.specs.Indices.{index_at}
use Rattle.gltf_accessors.proofs.Rising.{below_middle, above_middle}
use Rattle.gltf_accessors.proofs.sparse.Sparse.find.Goals as goal

pub halves-preserved-then-found-index-2 : goal.halves-preserved-then-found-index-2
halves-preserved-then-found-index-2 g c =
    let x = c.args.self.now.indices in
    let middle = c.halves.low + (c.halves.high - c.halves.low) / 2 in
    let small : middle < x.elements.span.count = omega arith in
    let here : index_at x.kind x.elements.bytes.now x.elements.span middle < c.args.index = omega (arith, c.get-found.ensures) in
    record {
      high = c.halves.invariant.high;
      below = below_middle (index_at x.kind x.elements.bytes.now x.elements.span) x.elements.span.count middle c.args.index c.args.self.now.rising small here;
      above = c.halves.invariant.above;
    }

pub halves-preserved : goal.halves-preserved
halves-preserved g c =
    let x = c.args.self.now.indices in
    let middle = c.halves.low + (c.halves.high - c.halves.low) / 2 in
    let here : c.args.index < index_at x.kind x.elements.bytes.now x.elements.span middle = omega (arith, c.get-found.ensures, c.if-found-index.false) in
    record {
      high = omega arith;
      below = c.halves.invariant.below;
      above = above_middle (index_at x.kind x.elements.bytes.now x.elements.span) x.elements.span.count middle c.args.index c.args.self.now.rising here;
    }
