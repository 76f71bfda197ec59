-- The kind of documents is sound.
use Rattle.gltf_schema.proofs.RefusedWhereInvalid.{refused_where_invalid}
use Rattle.gltf_root.specs.Root.{root_kind}
use Rattle.gltf_root.specs.RootDerived.{root_sound}
use Rattle.gltf_validation_rules.proofs.laws.read_documents_are_refused_where_invalid.Goals as goal

pub returns : goal.returns
returns c d t h = refused_where_invalid root_kind d t root_sound h
