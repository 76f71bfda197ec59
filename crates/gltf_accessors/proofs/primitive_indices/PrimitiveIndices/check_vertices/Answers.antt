use Rattle.std.proofs.Common.{◌≡◌, ◌<◌, inl, inr, subst, arith}
use Rattle.std.proofs.lemmas.Bool.{cases_lt}
use Rattle.gltf_accessors.specs.Vectors.{NamesVertex}
use Rattle.gltf_accessors.proofs.primitive_indices.PrimitiveIndices.check_vertices.Goals as goal

pub loop-place-preserved : goal.loop-place-preserved
loop-place-preserved c = λ i small.
    let place = c.loop-place.place in
    elim (cases_lt i place) [
      | inl early ↦ c.loop-place.invariant i early
      | inr late ↦
          let same : place ≡ i = omega (arith, small, late) in
          subst (λ k. NamesVertex c.args.self.now c.args.restarts c.args.vertices k) same c.in_default.ensures.vertex
    ]
