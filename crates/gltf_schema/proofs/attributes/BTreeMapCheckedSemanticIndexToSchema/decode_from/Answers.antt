use Rattle.std.proofs.Common.{◌≡◌, Some, arith}
use Rattle.serde_json.specs.Data.{object}
use Rattle.serde_json.specs.Find.{as_object}
use Rattle.serde_json.specs.View.{members_view}
use Rattle.gltf_schema.specs.Kind.{Attributes}
use Rattle.gltf_schema.proofs.Placed.{refused_at}
use Rattle.gltf_schema.proofs.attributes.BTreeMapCheckedSemanticIndexToSchema.decode_from.Goals as goal

pub returns-in-Err-At-clause-by_table : goal.returns-in-Err-At-clause-by_table
returns-in-Err-At-clause-by_table g c =
    let kind = Attributes g.P.Item.Listed.list in
    let seen : as_object (g.S.Source.given c.args.source) ≡ Some (g.S.Source.members c.in-Some.members) = grind arith in
    rw (seen, ← c.in_ok-into_others.ensures)
    (refused_at c.in-Err-At.field-0 c.in-Err-At.field-0-0 kind (object (members_view c.in_ok-into_others.field-0.entries)) c.in-Err-At.field-0-is c.in-Err-At.ensures)
