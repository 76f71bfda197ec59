use Rattle.std.proofs.Common.{◌≡◌, ◌∷◌, ◌+◌, [], map, drop, sym, ap, ◌∙◌, subst, arith}
use Rattle.std.proofs.lemmas.List.{drop_more, drop_all}
use Rattle.gltf_schema.specs.Tree.{trees}
use Rattle.gltf_schema.specs.Write.{write}
use Rattle.gltf_schema.specs.Printings.{printing_state}
use Rattle.gltf_schema.proofs.ItemsPrinted.{ItemsPrinted, array_begun, next_printed, array_ended}
use Rattle.gltf_schema.proofs.list_writing.print_items.Goals as goal

pub loop-item-init : goal.loop-item-init
loop-item-init g c =
    let s = g.T.Tabled in
    array_begun (write g.I.WriteItem.written_kind) (trees (map s.tree c.args.items.now)) _ _ c.begin_array.ensures

pub loop-item-preserved : goal.loop-item-preserved
loop-item-preserved g c =
    let s = g.T.Tabled in
    let state = printing_state g.W.Tokens.written g.W.Tokens.before in
    let xs = c.args.items.now in
    let i = c.loop-item.item-index in
    let x = c.item-item.result in
    let rest = drop (i + 1) xs in
    let here : drop i xs ≡ x ∷ rest = drop_more xs i x (omega arith) ∙ ap (λ y. y ∷ rest) (sym c.item-item.is) in
    next_printed (write g.I.WriteItem.written_kind) (s.tree x) (trees (map s.tree rest)) (trees (map s.tree xs)) _ _ _
    (subst (λ ys. ItemsPrinted (write g.I.WriteItem.written_kind) (trees (map s.tree ys)) (trees (map s.tree xs)) (state c.args.to.now) (state c.loop-item.to)) here c.loop-item.invariant)
    c.print_item.ensures

pub returns : goal.returns
returns g c =
    let s = g.T.Tabled in
    let state = printing_state g.W.Tokens.written g.W.Tokens.before in
    let xs = c.args.items.now in
    let none : drop c.loop-item.item-index xs ≡ [] = drop_all c.loop-item.item-index xs (omega arith) in
    array_ended (write g.I.WriteItem.written_kind) (trees (map s.tree xs)) _ _ _
    (subst (λ ys. ItemsPrinted (write g.I.WriteItem.written_kind) (trees (map s.tree ys)) (trees (map s.tree xs)) (state c.args.to.now) (state c.loop-item.to)) none c.loop-item.invariant)
    c.end_array.ensures
