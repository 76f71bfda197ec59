-- A bracket or a brace has a link behind its value, and every other value is one token.
use Rattle.std.proofs.Common.{map, get_or, sym, ap, ◌∙◌, subst, arith, ⊎_elim}
use Rattle.std.proofs.lemmas.List.{get_or_default, length-map}
use Rattle.json.specs.Json.{value}
use Rattle.json.specs.Tape.{node_token, LinkAt}
use Rattle.json.specs.declared.tape.Node.TheVariants.{Object, Null}
use Rattle.gltf_findings_lines.proofs.Nodes.{here, one_token, by_link}
use Rattle.gltf_findings_lines.proofs.children.after.Goals as goal

pub returns-in_default : goal.returns-in_default
returns-in_default c =
    let ns = c.args.nodes.now in
    let n = get_or ns c.args.at (Object 0) in
    record {
      value = λ depth j rest e. one_token n _ j depth rest (λ a z. grind arith) (λ a z. grind arith) (ap (value depth) (sym (here ns c.args.at (Object 0) c.requires.0)) ∙ e);
      later = omega arith;
    }

pub returns-in-Object-clause-value : goal.returns-in-Object-clause-value
returns-in-Object-clause-value c depth j rest e =
    let ns = c.args.nodes.now in
    let all = map node_token ns in
    let linked = subst (LinkAt all c.args.at) (get_or_default ns c.args.at Null (Object 0) c.requires.0) (c.requires.1 c.args.at (omega arith) c.requires.0) in
    by_link all c.args.at c.in-Object.end depth j rest (⊎_elim (λ is. subst (LinkAt all c.args.at) is linked) (λ is. subst (LinkAt all c.args.at) is linked) c.in-Object.is) e

pub returns-in-Object-clause-later : goal.returns-in-Object-clause-later
returns-in-Object-clause-later c =
    let ns = c.args.nodes.now in
    let all = map node_token ns in
    let linked = subst (LinkAt all c.args.at) (get_or_default ns c.args.at Null (Object 0) c.requires.0) (c.requires.1 c.args.at (omega arith) c.requires.0) in
    let link = ⊎_elim (λ is. subst (LinkAt all c.args.at) is linked) (λ is. subst (LinkAt all c.args.at) is linked) c.in-Object.is in
    (link.2, omega (arith, link.3, length-map ns node_token))

pub returns-in-Object-2-clause-value : goal.returns-in-Object-2-clause-value
returns-in-Object-2-clause-value c depth j rest e =
    let ns = c.args.nodes.now in
    let all = map node_token ns in
    let linked = subst (LinkAt all c.args.at) (get_or_default ns c.args.at Null (Object 0) c.requires.0) (c.requires.1 c.args.at (omega arith) c.requires.0) in
    by_link all c.args.at c.in-Object.end depth j rest (⊎_elim (λ is. subst (LinkAt all c.args.at) is linked) (λ is. subst (LinkAt all c.args.at) is linked) c.in-Object.is) e

pub returns-in-Object-2-clause-later : goal.returns-in-Object-2-clause-later
returns-in-Object-2-clause-later c =
    let ns = c.args.nodes.now in
    let all = map node_token ns in
    let linked = subst (LinkAt all c.args.at) (get_or_default ns c.args.at Null (Object 0) c.requires.0) (c.requires.1 c.args.at (omega arith) c.requires.0) in
    let link = ⊎_elim (λ is. subst (LinkAt all c.args.at) is linked) (λ is. subst (LinkAt all c.args.at) is linked) c.in-Object.is in
    (link.2, omega (arith, link.3, length-map ns node_token))
