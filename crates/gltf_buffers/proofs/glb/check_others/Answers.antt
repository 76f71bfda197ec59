use Rattle.std.proofs.Common.{sym, ◌∙◌}
use Rattle.std.proofs.lemmas.Result.{err_from_is_err_and}
use Rattle.gltf_buffers.proofs.Steps.{chunk_shortens}
use Rattle.gltf_buffers.proofs.Others.{others_of-faulty, others_of-json, others_of-bin, others_of-other, others_of-nothing}
use Rattle.gltf_buffers.proofs.glb.check_others.Goals as goal

pub returns-in_err-kind : goal.returns-in_err-kind
returns-in_err-kind c =
    let p = err_from_is_err_and c.from_residual.result c.from_residual.ensures.1 in
    rw (p.1, p.2) (sym c.loop-rest.invariant ∙ others_of-faulty _ _ (sym c.is_empty.ensures ∙ c.loop-rest-test.true) c.in_err-kind.ensures)

pub returns-then-kind-eq-JSON : goal.returns-then-kind-eq-JSON
returns-then-kind-eq-JSON c = sym c.loop-rest.invariant ∙ others_of-json _ _ (sym c.is_empty.ensures ∙ c.loop-rest-test.true) c.in_ok-kind.ensures c.if-kind-eq-JSON.true

pub returns-then-kind-eq-BIN : goal.returns-then-kind-eq-BIN
returns-then-kind-eq-BIN c = sym c.loop-rest.invariant ∙ others_of-bin _ _ (sym c.is_empty.ensures ∙ c.loop-rest-test.true) c.in_ok-kind.ensures c.if-kind-eq-JSON.false c.if-kind-eq-BIN.true

pub loop-rest-smaller : goal.loop-rest-smaller
loop-rest-smaller c = chunk_shortens _ _ c.in_ok-kind.ensures

pub loop-rest-preserved : goal.loop-rest-preserved
loop-rest-preserved c = sym (others_of-other _ _ (sym c.is_empty.ensures ∙ c.loop-rest-test.true) c.in_ok-kind.ensures c.if-kind-eq-JSON.false c.if-kind-eq-BIN.false) ∙ c.loop-rest.invariant

pub returns : goal.returns
returns c = sym c.loop-rest.invariant ∙ others_of-nothing _ (sym c.is_empty.ensures ∙ c.loop-rest-test.false)
