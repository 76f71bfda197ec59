use Rattle.std.proofs.Common.{Some, option_map, ap, ◌∙◌}
use Rattle.gltf_schema.specs.Read.{read}
use Rattle.gltf_root.proofs.text.refused_in_text.Goals as goal

-- what was decoded is the tree that is read
pub returns-in-Ok-decode_or_place : goal.returns-in-Ok-decode_or_place
returns-in-Ok-decode_or_place g c = (
  g.T.Tabled.tree c.in-Ok-decode_or_place.field-0,
  ap (option_map (read g.T.Tabled.kind)) c.in-Ok.ensures.ok ∙ ap Some c.in-Ok-decode_or_place.ensures.by_table,
)
