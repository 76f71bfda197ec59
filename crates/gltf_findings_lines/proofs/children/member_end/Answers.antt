-- A member begins at a name.
use Rattle.std.proofs.Common.{◌≡◌, ◌+◌, ◌∷◌, map, length, drop, get_or, ap, ◌∙◌, subst, arith}
use Rattle.std.proofs.lemmas.List.{length-drop, length-map}
use Rattle.json.specs.Token.{key}
use Rattle.json.specs.Tape.{node_token}
use Rattle.json.specs.Find.{InMembers}
use Rattle.json.specs.declared.tape.Node.TheVariants.{Object}
use Rattle.json.proofs.Found.{members_go_on, members_close, members_short}
use Rattle.gltf_findings_lines.proofs.Counted.{value-size}
use Rattle.gltf_findings_lines.proofs.Nodes.{here, no_key}
use Rattle.gltf_findings_lines.proofs.children.member_end.Goals as goal

pub returns-then-at-saturating_sub-clause-value : goal.returns-then-at-saturating_sub-clause-value
returns-then-at-saturating_sub-clause-value c ms given =
    let ns = c.args.nodes.now in
    let all = map node_token ns in
    members_short (drop c.args.at all) ms (omega (arith, length-drop c.args.at all, length-map ns node_token)) given

pub returns-in_default-clause-value : goal.returns-in_default-clause-value
returns-in_default-clause-value c ms given =
    let ns = c.args.nodes.now in
    let i = c.args.at in
    let n = get_or ns i (Object 0) in
    members_close (node_token n) _ ms (no_key n (λ s e. grind arith)) (subst (λ ts. InMembers ts ms) (here ns i (Object 0) (omega arith)) given)

pub returns-clause-value : goal.returns-clause-value
returns-clause-value c ms given =
    let ns = c.args.nodes.now in
    let all = map node_token ns in
    let i = c.args.at in
    let named : drop i all ≡ key c.in-Key.key.now ∷ drop (i + 1) all = here ns i (Object 0) (omega arith) ∙ ap (λ n. node_token n ∷ drop (i + 1) all) c.in-Key.is in
    let f = members_go_on c.in-Key.key.now (drop (i + 1) all) ms (subst (λ ts. InMembers ts ms) named given) in
    let behind = c.after.ensures.value f.0 f.1 f.2 f.4 in
    let count = value-size f.0 (drop (i + 1) all) f.2 f.1 f.4 in
    let left = ap length behind in
    (f.1, f.3, f.5, (f.0, f.2, f.4), omega (arith, count, left, length-drop (i + 1) all, length-drop c.after.result all, length-map ns node_token), subst (λ ts. InMembers ts f.3) behind f.6)
