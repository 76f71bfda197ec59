-- Both are what is read of the JSON.
use Rattle.std.proofs.lemmas.Option.{same_Some}
use Rattle.gltf_schema.proofs.ReadBack.{read_back}
use Rattle.gltf_root.specs.Root.{root_kind, root_tree}
use Rattle.gltf_root.specs.RootDerived.{root_sound}
use Rattle.std.proofs.Common.{sym, ◌∙◌}
use Rattle.gltf_validation_rules.proofs.laws.plain_documents_written_alike_are_the_same.Goals as goal

pub returns : goal.returns
returns c r s d r-plain s-plain r-written s-written =
    same_Some (root_tree r) (root_tree s) (sym (read_back root_kind (root_tree r) d root_sound r-plain r-written) ∙ read_back root_kind (root_tree s) d root_sound s-plain s-written)
