use Rattle.gltf_root.specs.Root.{root_tree}
use Rattle.gltf_root.proofs.Rewriting.{compact_again, pretty_again}
use Rattle.gltf_root.proofs.laws.rewriting.plain_documents_are_written_again.Goals as goal

pub returns-clause-compact : goal.returns-clause-compact
returns-clause-compact c r s a b plain shallow none first read second = compact_again (root_tree r) (root_tree s) a b plain shallow none first read second

pub returns-clause-pretty : goal.returns-clause-pretty
returns-clause-pretty c r s a b plain shallow none first read second = pretty_again (root_tree r) (root_tree s) a b plain shallow none first read second
