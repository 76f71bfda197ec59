use Rattle.std.proofs.Common.{◌≡◌, ℕ, suc, ◌∷◌, ◌<◌, ◌+◌, map, drop, length, get_or, List, ◌++◌, [], sym, ap, ◌∙◌, subst, add-one, drop-cons, arith}
use Rattle.std.proofs.lemmas.Bool.{or_left}
use Rattle.std.proofs.lemmas.Result.{err_from_is_err_and}
use Rattle.std.proofs.lemmas.List.{map_push, nil_from_length, length-drop}
use Rattle.serde_json.specs.Data.{item}
use Rattle.serde_json.specs.View.{view}
use Rattle.gltf_schema.specs.Tree.{trees}
use Rattle.gltf_schema.specs.Write.{write, write_items}
use Rattle.gltf_schema.specs.Invalid.{holds_invalid, any_holds_invalid}
use Rattle.gltf_schema.specs.Outcome.{Withholds}
use Rattle.gltf_schema.proofs.Items.{onto}
use Rattle.gltf_schema.proofs.Putting.{write_next, write_stops, some_behind, onto_no_items}
use Rattle.gltf_schema.proofs.list_writing.encode_items.Goals as goal

drop_item : {X : Type 0} (xs : List X) (i : ℕ) (x : X) → i < length xs → x ≡ get_or xs i x → drop i xs ≡ x ∷ drop (i + 1) xs
drop_item xs i x lt is = rw (add-one) (drop-cons xs i x lt ∙ ap (λ y. y ∷ drop (suc i) xs) (sym is))

pub returns-in_err-encode_item : goal.returns-in_err-encode_item
returns-in_err-encode_item g c =
    let s = g.T.Tabled in
    let f = write g.I.WriteItem.written_kind in
    let all = c.args.items.now in
    let before = map view c.loop-item.written.items in
    let p = err_from_is_err_and c.from_residual-in_err-encode_item.result c.from_residual-in_err-encode_item.ensures.1 in
    let next = drop_item all c.loop-item.item-index c.item-item.result c.loop-item-test.true c.item-item.is in
    let left = ap (λ vs. onto item before (write_items f (trees (map s.tree vs)))) (sym next) ∙ c.loop-item.invariant in
    let whole = any_holds_invalid (trees (map s.tree all)) in
    let behind_them = some_behind s.tree c.loop-item.item-index all in
    rw (p.1, p.2) (subst (λ w. Withholds c.in_err-encode_item.field-0.0 w whole) left (write_stops c.in_err-encode_item.field-0.0 f before _ _ (holds_invalid (s.tree c.item-item.result)) whole
    (λ h. behind_them (rw next (or_left (holds_invalid (s.tree c.item-item.result)) _ h))) c.in_err-encode_item.ensures))

pub loop-item-preserved : goal.loop-item-preserved
loop-item-preserved g c =
    let s = g.T.Tabled in
    let f = write g.I.WriteItem.written_kind in
    let all = c.args.items.now in
    let before = map view c.loop-item.written.items in
    let after : map view c.push.new.self.items ≡ before ++ view c.in_ok-encode_item.field-0 ∷ [] = rw c.in_ok-push.ensures.items (map_push view c.loop-item.written.items c.in_ok-encode_item.field-0) in
    let next = drop_item all c.loop-item.item-index c.item-item.result c.loop-item-test.true c.item-item.is in
    rw after (write_next f before _ _ (map s.tree (drop (c.loop-item.item-index + 1) all)) c.in_ok-encode_item.ensures ∙ ap (λ vs. onto item before (write_items f (trees (map s.tree vs)))) (sym next) ∙ c.loop-item.invariant)

pub returns : goal.returns
returns g c =
    let s = g.T.Tabled in
    let f = write g.I.WriteItem.written_kind in
    let all = c.args.items.now in
    let before = map view c.loop-item.written.items in
    let none : drop c.loop-item.item-index all ≡ [] = nil_from_length _ (omega (arith, length-drop c.loop-item.item-index all, c.loop-item-test.false)) in
    sym c.loop-item.invariant ∙ ap (λ vs. onto item before (write_items f (trees (map s.tree vs)))) none ∙ onto_no_items before
