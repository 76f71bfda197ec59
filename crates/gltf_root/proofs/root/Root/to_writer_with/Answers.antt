-- The bytes that are written are those that are printed.
use Rattle.gltf_root.specs.Root.{root_tree}
use Rattle.gltf_root.specs.Styled.{IsTextIn, IsReadBackIn}
use Rattle.gltf_root.proofs.Taking.{taken, taken_front}
use Rattle.gltf_root.proofs.root.Root.to_writer_with.Goals as goal

pub returns-clause-whole : goal.returns-clause-whole
returns-clause-whole g c =
    taken (IsTextIn c.args.style (root_tree c.args.self.now)) (IsReadBackIn c.args.style (root_tree c.args.self.now)) _ _ c.in_ok-bytes.bytes.items _ c.write_out.result
    c.deref.ensures.value c.in_ok-bytes.ensures.printed c.in_ok-bytes.ensures.reads_back c.write_out.ensures.whole

pub returns-clause-front : goal.returns-clause-front
returns-clause-front g c = λ failed.
    (c.in_ok-bytes.bytes.items, c.in_ok-bytes.ensures.printed, c.in_ok-bytes.ensures.reads_back, taken_front _ _ _ _ c.deref.ensures.value c.write_out.ensures.front)
