use Rattle.std.proofs.Common.{subst, arith, ◌≡◌}
use Rattle.gltf_accessors.specs.Sparse.{IsSparseFault}
use Rattle.gltf_accessors.proofs.sparse.Sparse.of.Goals as goal

pub returns-in-Err-clause-fault : goal.returns-in-Err-clause-fault
returns-in-Err-clause-fault g c =
    let x = c.args.indices in
    let same : x.elements.span.count ≡ c.args.values.elements.span.count = omega arith in
    subst (λ n. IsSparseFault x.kind x.elements.bytes.now x.elements.span n c.args.count c.in-Err.fault) same (c.in-Err.ensures.fault c.args.count)

pub returns-in-Err-check_below-clause-fault : goal.returns-in-Err-check_below-clause-fault
returns-in-Err-check_below-clause-fault g c =
    let x = c.args.indices in
    let same : x.elements.span.count ≡ c.args.values.elements.span.count = omega arith in
    subst (λ n. IsSparseFault x.kind x.elements.bytes.now x.elements.span n c.args.count c.in-Err-check_below.fault) same c.in-Err-check_below.ensures.fault
