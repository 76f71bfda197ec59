-- The rows are written in the order of their names, which puts the same members.
use Rattle.std.proofs.Common.{Bool, Option, Result, String, Global, subst}
use Rattle.std.specs.BTreeMap.{BTreeMap}
use Rattle.serde_json.specs.Data.{Members}
use Rattle.serde_json.specs.View.{members_view}
use Rattle.serde_json.specs.declared.value.Value.{Value}
use Rattle.gltf_base.specs.declared.error.Error.{Error}
use Rattle.gltf_schema.specs.ByName.{by_name, trees_by_name}
use Rattle.gltf_schema.specs.Nulls.{rows_without_nulls}
use Rattle.gltf_schema.specs.Outcome.{Writes}
use Rattle.gltf_schema.specs.Put.{put_rows, some_invalid}
use Rattle.gltf_schema.proofs.ByName.{put_by_name, invalid_by_name}
use Rattle.gltf_schema.proofs.RowsPut.{all_put}
use Rattle.gltf_schema.proofs.strict.StrictObject.encode_strict_members.Goals as goal

abbrev written_as : Result (BTreeMap (String Global) Value) Error → Option Members → Bool → Type 0
written_as r written b = Writes (λ (m : BTreeMap (String Global) Value). members_view m.entries) r written b

pub returns : goal.returns
returns g c =
    let rows = rows_without_nulls g.Self.Object.rows in
    let ts = g.Self.Object.members c.args.self.now in
    let others = g.Self.Object.unknown c.args.self.now in
    let r = c.finish.result in
    let h = all_put others r _ _ (by_name rows) (trees_by_name rows ts) c.new-writing.ensures c.write_strictly.ensures c.finish.ensures in
    let same = subst (λ b. written_as r (put_rows (by_name rows) (trees_by_name rows ts) others) b) (invalid_by_name rows ts) h in
    subst (λ w. written_as r w (some_invalid ts)) (put_by_name rows ts others) same
