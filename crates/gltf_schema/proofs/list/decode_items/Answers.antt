use Rattle.std.proofs.Common.{◌≡◌, ◌∷◌, map, ◌++◌, [], sym, ap, ◌∙◌, subst, arith}
use Rattle.std.proofs.lemmas.Result.{err_from_is_err_and}
use Rattle.std.proofs.lemmas.List.{map_push}
use Rattle.serde_json.specs.Data.{no_items}
use Rattle.gltf_schema.specs.Tree.{with_tree}
use Rattle.gltf_schema.specs.Read.{read, read_items}
use Rattle.gltf_schema.specs.Outcome.{Refuses}
use Rattle.gltf_schema.proofs.Items.{onto, read_next, read_stops, onto_end}
use Rattle.gltf_schema.proofs.list.decode_items.Goals as goal

pub returns-in_err-decode_onto : goal.returns-in_err-decode_onto
returns-in_err-decode_onto g c =
    let s = g.T.Tabled in
    let f = read s.kind in
    let before = map s.tree c.items.found.items in
    let p = err_from_is_err_and c.from_residual-in_err-decode_onto.result c.from_residual-in_err-decode_onto.ensures.1 in
    let left = ap (λ ds. onto with_tree before (read_items f ds)) (sym c.in-Some.ensures) ∙ c.items.invariant in
    rw (p.1, p.2) (subst (Refuses c.in_err-decode_onto.field-0.0) left (read_stops c.in_err-decode_onto.field-0.0 f before _ _ c.in_err-decode_onto.ensures.1))

pub items-preserved : goal.items-preserved
items-preserved g c =
    let s = g.T.Tabled in
    let f = read s.kind in
    let before = map s.tree c.items.found.items in
    let x = c.in_ok-decode_onto.ensures.0 in
    let after : map s.tree c.decode_onto.new.list.items ≡ before ++ s.tree x ∷ [] = rw c.in_ok-decode_onto.ensures.1 (map_push s.tree c.items.found.items x) in
    rw after (
    read_next f before _ _ (g.S.Source.items c.next.new.rest) c.in_ok-decode_onto.ensures.2 ∙ ap (λ ds. onto with_tree before (read_items f ds)) (sym c.in-Some.ensures) ∙ c.items.invariant)

pub returns : goal.returns
returns g c =
    let s = g.T.Tabled in
    let f = read s.kind in
    let found = map s.tree c.items.found.items in
    let none : g.S.Source.items c.items.rest ≡ no_items = grind arith in
    sym c.items.invariant ∙ ap (λ ds. onto with_tree found (read_items f ds)) none ∙ onto_end found
