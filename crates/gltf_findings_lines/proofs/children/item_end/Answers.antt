-- An item begins at any node but the bracket.
use Rattle.std.proofs.Common.{◌≡◌, ◌+◌, ◌∷◌, map, length, drop, get_or, ap, ◌∙◌, subst, arith}
use Rattle.std.proofs.lemmas.List.{drop_all, length-map, length-drop}
use Rattle.json.specs.Token.{end_array}
use Rattle.json.specs.Json.{after_end_array}
use Rattle.json.specs.Tape.{node_token}
use Rattle.json.specs.Find.{InItems}
use Rattle.json.specs.declared.tape.Node.TheVariants.{Object}
use Rattle.json.proofs.Found.{items_close, items_go_on, items_need_tokens}
use Rattle.gltf_findings_lines.proofs.Counted.{value-size}
use Rattle.gltf_findings_lines.proofs.Nodes.{here, no_close}
use Rattle.gltf_findings_lines.proofs.children.item_end.Goals as goal

pub returns-then-at-nodes-clause-value : goal.returns-then-at-nodes-clause-value
returns-then-at-nodes-clause-value c js given =
    let ns = c.args.nodes.now in
    let all = map node_token ns in
    absurd (items_need_tokens js (subst (λ ts. InItems ts js) (drop_all c.args.at all (omega (arith, length-map ns node_token))) given))

pub returns-in-EndArray-clause-value : goal.returns-in-EndArray-clause-value
returns-in-EndArray-clause-value c js given =
    let ns = c.args.nodes.now in
    let all = map node_token ns in
    let i = c.args.at in
    let closing : drop i all ≡ end_array ∷ drop (i + 1) all = here ns i (Object 0) (omega arith) ∙ ap (λ n. node_token n ∷ drop (i + 1) all) c.in-EndArray.is in
    items_close _ js (subst (λ ts. InItems ts js) closing given)

pub returns-clause-value : goal.returns-clause-value
returns-clause-value c js given =
    let ns = c.args.nodes.now in
    let all = map node_token ns in
    let i = c.args.at in
    let going = ap after_end_array (here ns i (Object 0) (omega arith)) ∙ no_close (get_or ns i (Object 0)) _ (λ e. grind arith) in
    let f = items_go_on (drop i all) js going given in
    let behind = c.after.ensures.value f.0 f.1 f.2 f.4 in
    let count = value-size f.0 (drop i all) f.2 f.1 f.4 in
    let left = ap length behind in
    (f.1, f.3, f.5, (f.0, f.2, f.4), omega (arith, count, left, length-drop i all, length-drop c.after.result all, length-map ns node_token), subst (λ ts. InItems ts f.3) behind f.6)
