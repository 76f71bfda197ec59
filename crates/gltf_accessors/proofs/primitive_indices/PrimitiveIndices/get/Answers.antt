use Rattle.std.proofs.Common.{◌≡◌, sym, subst, refl}
use Rattle.std.specs.Prelude.{slice_index_or}
use Rattle.gltf_accessors.specs.Vectors.{IsIndex}
use Rattle.gltf_accessors.proofs.primitive_indices.PrimitiveIndices.get.Goals as goal

pub returns-in-U8 : goal.returns-in-U8
returns-in-U8 c =
    let xs = c.get.result in
    subst (λ p. IsIndex p c.args.place c.from.result) (sym c.in-U8.is) (xs, record { sparse = c.get.ensures.sparse; base = c.get.ensures.base }, c.from.ensures)

pub returns-in-U16 : goal.returns-in-U16
returns-in-U16 c =
    let xs = c.get-in-U16.result in
    subst (λ p. IsIndex p c.args.place c.from-in-U16.result) (sym c.in-U16.is) (xs, record { sparse = c.get-in-U16.ensures.sparse; base = c.get-in-U16.ensures.base }, c.from-in-U16.ensures)

pub returns-in-U32 : goal.returns-in-U32
returns-in-U32 c =
    let xs = c.get-in-U32.result in
    subst (λ p. IsIndex p c.args.place (slice_index_or c.get-in-U32.result 0 0)) (sym c.in-U32.is) (xs, record { sparse = c.get-in-U32.ensures.sparse; base = c.get-in-U32.ensures.base }, refl)
