use Rattle.gltf_root.specs.Root.{root_tree}
use Rattle.gltf_root.proofs.Printed.{compact_read_back, pretty_read_back}
use Rattle.gltf_root.proofs.Rewriting.{same_read}
use Rattle.gltf_root.proofs.laws.rewriting.plain_documents_are_read_back.Goals as goal

pub returns-clause-compact : goal.returns-clause-compact
returns-clause-compact c r s bytes plain shallow text read =
    same_read (root_tree r) (root_tree s) bytes plain shallow (compact_read_back (root_tree r) bytes text) read

pub returns-clause-pretty : goal.returns-clause-pretty
returns-clause-pretty c r s bytes plain shallow text read =
    same_read (root_tree r) (root_tree s) bytes plain shallow (pretty_read_back (root_tree r) bytes text) read
