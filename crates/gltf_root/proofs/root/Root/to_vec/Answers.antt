-- The bytes that the writer made of the document's tokens, which read back.
use Rattle.std.proofs.Common.{◌∙◌}
use Rattle.gltf_schema.specs.Write.{write}
use Rattle.gltf_root.specs.Root.{root_kind, root_tree}
use Rattle.gltf_root.proofs.Printed.{compact_bytes, compact_read_back}
use Rattle.gltf_root.proofs.root.Root.to_vec.Goals as goal

pub returns-clause-printed : goal.returns-clause-printed
returns-clause-printed c =
    compact_bytes (write root_kind (root_tree c.args.self.now)) _ _ _ _ _ c.in_ok-printed.ensures.shown c.new-out.ensures.tokens c.in_ok-printed.ensures.before
    (c.new-out.ensures.before ∙ c.in_ok-with_capacity.ensures.items) c.into_inner.ensures.items c.into_inner.ensures.reads_back c.into_inner.ensures.utf8

pub returns-clause-reads_back : goal.returns-clause-reads_back
returns-clause-reads_back c = compact_read_back (root_tree c.args.self.now) c.into_inner.result.items (returns-clause-printed c)
