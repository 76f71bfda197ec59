use Rattle.gltf_root.specs.Root.{root_tree}
use Rattle.gltf_root.proofs.Rewriting.{one_compact, one_pretty}
use Rattle.gltf_root.proofs.laws.rewriting.documents_have_one_text.Goals as goal

pub returns-clause-compact : goal.returns-clause-compact
returns-clause-compact c r a b none first second = one_compact (root_tree r) a b none first second

pub returns-clause-pretty : goal.returns-clause-pretty
returns-clause-pretty c r a b none first second = one_pretty (root_tree r) a b none first second
