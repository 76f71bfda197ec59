use Rattle.std.proofs.Common.{◌≡◌, ◌∷◌, map, option_map, ◌++◌, [], length, suc, sym, ap, ◌∙◌, subst, arith}
use Rattle.std.proofs.lemmas.List.{map_push}
use Rattle.serde_json.specs.Data.{no_items}
use Rattle.gltf_schema.specs.Tree.{with_tree, list}
use Rattle.gltf_schema.specs.Read.{read, read_items}
use Rattle.gltf_schema.specs.Refused.{refused_item}
use Rattle.gltf_base.specs.Steps.{item}
use Rattle.gltf_schema.specs.RowPlacing.{place_of, IsWithin}
use Rattle.gltf_schema.proofs.Items.{onto, read_next, onto_end}
use Rattle.gltf_schema.proofs.Placed.{item_passed, item_refused, item_refused_inside}
use Rattle.gltf_schema.proofs.list.place_items.Goals as goal

pub items-preserved : goal.items-preserved
items-preserved g c =
    let s = g.T.Tabled in
    let f = read s.kind in
    let before = map s.tree c.items.found.items in
    let rest = g.S.Source.items c.next.new.rest in
    let after : map s.tree c.push.new.self.items ≡ before ++ s.tree c.in-Ok.value ∷ [] = rw c.in_ok-push-in-Ok.ensures.items (map_push s.tree c.items.found.items c.in-Ok.value) in
    let longer : length c.push.new.self.items ≡ suc (length c.items.found.items) = omega (arith, c.in_ok-push-in-Ok.ensures.len) in (
      rw after (read_next f before _ _ rest c.in-Ok.ensures.by_table ∙ ap (λ ds. onto with_tree before (read_items f ds)) (sym c.in-Some.ensures) ∙ c.items.invariant.0),
      rw longer (sym (item_passed s.kind (length c.items.found.items) _ rest _ c.in-Ok.ensures.by_table) ∙ ap (refused_item s.kind (length c.items.found.items)) (sym c.in-Some.ensures) ∙ c.items.invariant.1),
    )

pub returns-in-Err-clause-inside : goal.returns-in-Err-clause-inside
returns-in-Err-clause-inside g c = item_refused_inside (place_of c.within.result) (place_of c.in-Err.refusal) (item c.len.result) c.within.ensures

pub returns-in-Err-clause-by_table : goal.returns-in-Err-clause-by_table
returns-in-Err-clause-by_table g c =
    let kind = g.T.Tabled.kind in
    let i = length c.items.found.items in
    let d = g.S.Source.given c.in-Some.item in
    let rest = g.S.Source.items c.next.new.rest in
    let here = ap (refused_item kind i) (sym c.in-Some.ensures) ∙ c.items.invariant.1 in
    let number : c.len.result ≡ i = omega (arith, c.len.ensures) in
    item_refused (place_of c.within.result) (place_of c.in-Err.refusal) kind i d rest (g.S.Source.items c.args.items) here c.in-Err.ensures.by_table
    (subst (λ n. IsWithin (item n) (place_of c.in-Err.refusal) (place_of c.within.result)) number c.within.ensures)

pub returns-clause-by_table : goal.returns-clause-by_table
returns-clause-by_table g c =
    let s = g.T.Tabled in
    let f = read s.kind in
    let found = map s.tree c.items.found.items in
    let none : g.S.Source.items c.items.rest ≡ no_items = grind arith in
    ap (option_map list) (sym c.items.invariant.0 ∙ ap (λ ds. onto with_tree found (read_items f ds)) none ∙ onto_end found)
