-- What is printed from the beginning is what the writer has taken at the end.
use Rattle.gltf_schema.specs.Invalid.{holds_invalid}
use Rattle.gltf_schema.specs.Write.{write}
use Rattle.gltf_root.specs.Root.{root_kind, root_tree}
use Rattle.gltf_root.proofs.Printed.{taken_tokens}
use Rattle.gltf_root.proofs.root.Root.printed.Goals as goal

pub returns-clause-shown : goal.returns-clause-shown
returns-clause-shown g c =
    let t = root_tree c.args.self.now in
    taken_tokens g.W.Tokens.written g.W.Tokens.before (write root_kind t) (holds_invalid t) c.args.out _ _ c.finish.result c.new-printing.ensures c.print.ensures c.finish.ensures
