use Rattle.std.proofs.Common.{◌≡◌, None, String, Global, nat_cmp, string_bytes, subst, ap, ◌∙◌}
use Rattle.std.specs.BTreeMap.{is_at}
use Rattle.std.specs.Cmp.Lexicographic.{slice_cmp}
use Rattle.std.specs.Map.{lookup}
use Rattle.serde_json.specs.View.{members_view}
use Rattle.gltf_schema.proofs.TakingOut.{removed, looked_up}
use Rattle.gltf_schema.proofs.source.ValueSource.take.Goals as goal

pub returns-clause-taken : goal.returns-clause-taken
returns-clause-taken c = looked_up c.args.name.now c.args.fields.now.entries c.remove.result c.remove.ensures.value

pub returns-clause-left : goal.returns-clause-left
returns-clause-left c = ap members_view c.remove.ensures.entries ∙ removed c.args.name.now c.args.fields.now.entries (subst (λ es. lookup (is_at {K = String Global} (λ k. slice_cmp nat_cmp c.args.name.now (string_bytes k))) es ≡ None) c.remove.ensures.entries c.remove.ensures.updates.1)
