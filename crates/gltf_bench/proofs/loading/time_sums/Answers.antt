use Rattle.std.proofs.Common.{length, subst, sym}
use Rattle.gltf_bench.specs.Positions.{IsSpanOf, AreFinite}
use Rattle.gltf_bench.proofs.Finite.{are_finite}
use Rattle.gltf_bench.proofs.loading.time_sums.Goals as goal

pub plain_sum-by_loop-requires : goal.plain_sum-by_loop-requires
plain_sum-by_loop-requires c =
    let f = c.args.floats.now in
    let same = c.requires.bytes in
    let at = subst (λ b. IsSpanOf (length b) f.elements.span) (sym same) c.requires.span in
    subst (λ b. AreFinite b) same (are_finite f.elements.bytes.now f.elements.span at f.may_be)
