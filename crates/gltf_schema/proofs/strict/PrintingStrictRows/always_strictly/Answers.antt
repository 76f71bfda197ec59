use Rattle.std.proofs.Common.{◌∙◌, sym, String, Global}
use Rattle.std.specs.BTreeMap.{BTreeMap}
use Rattle.serde_json.specs.Data.{Members}
use Rattle.serde_json.specs.View.{members_view}
use Rattle.serde_json.specs.declared.value.Value.{Value}
use Rattle.gltf_schema.proofs.RowPrinting.{row_printed, row_gathered, not_gathered, is_gathered}
use Rattle.gltf_schema.proofs.RowSteps.{always_there}
use Rattle.gltf_schema.proofs.strict.PrintingStrictRows.always_strictly.Goals as goal

abbrev members : BTreeMap (String Global) Value → Members
members m = members_view m.entries

pub returns-then-is_some-clause-required : goal.returns-then-is_some-clause-required
returns-then-is_some-clause-required g c =
    let there = is_gathered members c.args.self.now.kept (sym c.if-is_some.true ∙ c.is_some.ensures) in
    row_gathered _ _ _ _ _ there.0 there.1 c.gather_strictly.ensures

pub returns-then-is_some-clause-always : goal.returns-then-is_some-clause-always
returns-then-is_some-clause-always g c = λ default. always_there (returns-then-is_some-clause-required g c)

pub returns-else-is_some-clause-required : goal.returns-else-is_some-clause-required
returns-else-is_some-clause-required g c =
    row_printed _ _ _ _ _ _ (not_gathered members c.args.self.now.kept (sym c.if-is_some.false ∙ c.is_some.ensures)) c.key.ensures c.print_strictly.ensures

pub returns-else-is_some-clause-always : goal.returns-else-is_some-clause-always
returns-else-is_some-clause-always g c = λ default. always_there (returns-else-is_some-clause-required g c)
