-- The bytes that the writer made of the document's tokens, which read back.
use Rattle.gltf_schema.specs.Write.{write}
use Rattle.gltf_root.specs.Root.{root_kind, root_tree}
use Rattle.gltf_root.proofs.Printed.{pretty_bytes, pretty_read_back}
use Rattle.gltf_root.proofs.root.Root.to_vec_pretty.Goals as goal

pub returns-clause-printed : goal.returns-clause-printed
returns-clause-printed c =
    pretty_bytes (write root_kind (root_tree c.args.self.now)) _ _ _ c.in_ok-printed.ensures.shown c.new.ensures c.into_inner.ensures.value c.into_inner.ensures.layout c.into_inner.ensures.utf8

pub returns-clause-reads_back : goal.returns-clause-reads_back
returns-clause-reads_back c = pretty_read_back (root_tree c.args.self.now) c.into_inner.result.items (returns-clause-printed c)
