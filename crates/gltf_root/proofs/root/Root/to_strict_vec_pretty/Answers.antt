-- The bytes that the writer made of the document's tokens, which read back.
use Rattle.gltf_root.specs.Root.{root_tree}
use Rattle.gltf_root.specs.Styled.{strict_json}
use Rattle.gltf_root.proofs.Printed.{pretty_bytes}
use Rattle.gltf_root.proofs.Strictly.{pretty_strictly_back}
use Rattle.gltf_root.proofs.root.Root.to_strict_vec_pretty.Goals as goal

pub returns-clause-printed : goal.returns-clause-printed
returns-clause-printed c =
    pretty_bytes (strict_json (root_tree c.args.self.now)) _ _ _ c.in_ok-strictly_printed.ensures.shown c.new.ensures c.into_inner.ensures.value c.into_inner.ensures.layout c.into_inner.ensures.utf8

pub returns-clause-reads_back : goal.returns-clause-reads_back
returns-clause-reads_back c = pretty_strictly_back (root_tree c.args.self.now) c.into_inner.result.items (returns-clause-printed c)
