-- What is behind a bracket are items, and what is behind a brace are members.
use Rattle.std.proofs.Common.{◌∷◌, ◌+◌, drop, get_or, ap, ◌∙◌, subst, arith}
use Rattle.json.specs.Json.{array, object}
use Rattle.json.specs.Tape.{node_token}
use Rattle.json.specs.Find.{BeginsWith, InItems, InMembers}
use Rattle.json.specs.declared.tape.Node.TheVariants.{Object}
use Rattle.json.proofs.Found.{opened}
use Rattle.gltf_findings_lines.specs.Children.{tokens_of}
use Rattle.gltf_findings_lines.proofs.Nodes.{here, an_array, an_object}
use Rattle.gltf_findings_lines.proofs.Walking.{no_child}
use Rattle.gltf_findings_lines.proofs.children.children_of.Goals as goal

pub returns-in_ok-starts-in-Array : goal.returns-in_ok-starts-in-Array
returns-in_ok-starts-in-Array c = λ j begins.
    let ns = c.args.nodes.now in
    let all = tokens_of ns in
    let rest = drop (c.args.at + 1) all in
    let first = here ns c.args.at (Object 0) c.requires.0 in
    let kind = an_array c.in-Array.field-0 rest j (subst (λ ts. BeginsWith ts j) (first ∙ ap (λ n. node_token n ∷ rest) c.in-Array.is) begins) in
    let inside = opened (drop c.args.at all) (array kind.0) (subst (BeginsWith (drop c.args.at all)) kind.1 begins) in
    (kind.0, kind.1, c.in_ok-starts-in-Array.ensures kind.0 (subst (λ ts. InItems ts kind.0) (ap (drop 1) first) inside))

pub returns-in_ok-names-in-Object : goal.returns-in_ok-names-in-Object
returns-in_ok-names-in-Object c = λ j begins.
    let ns = c.args.nodes.now in
    let all = tokens_of ns in
    let rest = drop (c.args.at + 1) all in
    let first = here ns c.args.at (Object 0) c.requires.0 in
    let kind = an_object c.in-Object.field-0 rest j (subst (λ ts. BeginsWith ts j) (first ∙ ap (λ n. node_token n ∷ rest) c.in-Object.is) begins) in
    let inside = opened (drop c.args.at all) (object kind.0) (subst (BeginsWith (drop c.args.at all)) kind.1 begins) in
    (kind.0, kind.1, c.in_ok-names-in-Object.ensures kind.0 (subst (λ ts. InMembers ts kind.0) (ap (drop 1) first) inside))

pub returns-in_default : goal.returns-in_default
returns-in_default c = λ j begins part.
    let ns = c.args.nodes.now in
    no_child (get_or ns c.args.at (Object 0)) _ j c.args.at part (λ a e. grind arith) (λ a e. grind arith) (subst (λ ts. BeginsWith ts j) (here ns c.args.at (Object 0) c.requires.0) begins)
