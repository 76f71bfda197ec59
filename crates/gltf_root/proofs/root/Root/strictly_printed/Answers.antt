-- What is printed from the beginning is what the writer has taken at the end.
use Rattle.gltf_schema.specs.Invalid.{holds_invalid}
use Rattle.gltf_root.specs.Root.{root_tree}
use Rattle.gltf_root.specs.Styled.{strict_json}
use Rattle.gltf_root.proofs.Printed.{taken_tokens}
use Rattle.gltf_root.proofs.Strictly.{strictly_withheld}
use Rattle.gltf_root.proofs.root.Root.strictly_printed.Goals as goal

pub returns-clause-shown : goal.returns-clause-shown
returns-clause-shown g c =
    let t = root_tree c.args.self.now in
    taken_tokens g.W.Tokens.written g.W.Tokens.before (strict_json t) (holds_invalid t) c.args.out _ _ c.finish.result c.new-printing.ensures c.print_strictly.ensures c.finish.ensures

pub returns-clause-withheld : goal.returns-clause-withheld
returns-clause-withheld g c =
    strictly_withheld g.W.Tokens.written g.W.Tokens.before (root_tree c.args.self.now) c.args.out _ _ c.finish.result c.new-printing.ensures c.print_strictly.ensures c.finish.ensures
