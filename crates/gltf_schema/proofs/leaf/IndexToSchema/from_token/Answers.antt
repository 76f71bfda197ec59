use Rattle.std.proofs.Common.{◌≡◌, sym, subst, arith}
use Rattle.gltf_base.specs.Indexes.{index_number}
use Rattle.gltf_schema.specs.Kind.{IndexInto}
use Rattle.gltf_schema.specs.Tree.{index}
use Rattle.gltf_schema.specs.Streamed.{ReadsAt}
use Rattle.gltf_schema.proofs.OneToken.{index_of_number}
use Rattle.gltf_schema.proofs.leaf.IndexToSchema.from_token.Goals as goal

pub returns-clause-read : goal.returns-clause-read
returns-clause-read g c =
    let named = g.P.Item.Listed.list in
    let from = c.args.from.now in
    let n = c.in_ok-from_token.field-0 in
    let is : index_number c.from_number.result ≡ n = grind arith in
    subst (λ i. ReadsAt (IndexInto named) (index i) from.depth from.reader c.from_token.new.from.reader) (sym is)
    (index_of_number named from.depth _ _ n c.in_ok-from_token.ensures.read)
