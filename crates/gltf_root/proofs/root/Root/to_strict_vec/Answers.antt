-- The bytes that the writer made of the document's tokens, which read back.
use Rattle.std.proofs.Common.{◌∙◌}
use Rattle.gltf_root.specs.Root.{root_tree}
use Rattle.gltf_root.specs.Styled.{strict_json}
use Rattle.gltf_root.proofs.Printed.{compact_bytes}
use Rattle.gltf_root.proofs.Strictly.{compact_strictly_back}
use Rattle.gltf_root.proofs.root.Root.to_strict_vec.Goals as goal

pub returns-clause-printed : goal.returns-clause-printed
returns-clause-printed c =
    compact_bytes (strict_json (root_tree c.args.self.now)) _ _ _ _ _ c.in_ok-strictly_printed.ensures.shown c.new-out.ensures.tokens c.in_ok-strictly_printed.ensures.before
    (c.new-out.ensures.before ∙ c.in_ok-with_capacity.ensures.items) c.into_inner.ensures.items c.into_inner.ensures.reads_back c.into_inner.ensures.utf8

pub returns-clause-reads_back : goal.returns-clause-reads_back
returns-clause-reads_back c = compact_strictly_back (root_tree c.args.self.now) c.into_inner.result.items (returns-clause-printed c)
