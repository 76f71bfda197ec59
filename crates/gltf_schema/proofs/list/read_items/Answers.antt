use Rattle.std.proofs.Common.{◌≡◌, ◌-◌, ◌<◌, [], ◌∷◌, ◌++◌, map, length, Some, None, option_map, refl, sym, ap, ap₂, ◌∙◌, arith}
use Rattle.std.proofs.lemmas.List.{map_push}
use Rattle.json.specs.Json.{parse_map, after_end_array, items, value}
use Rattle.json.proofs.Grammar.{value-begin_array}
use Rattle.serde_json.specs.Data.{array, item, no_items}
use Rattle.serde_json.specs.Read.{of_json, converted}
use Rattle.gltf_schema.specs.Read.{read, read_items}
use Rattle.gltf_schema.specs.Tree.{list, with_tree}
use Rattle.gltf_schema.proofs.Items.{onto, read_next, onto_end}
use Rattle.gltf_schema.proofs.Standing.{shorter}
use Rattle.gltf_schema.proofs.Turns.{converted-array, further-none, further-item, further-end}
use Rattle.gltf_schema.proofs.list.read_items.Goals as goal

pub items-init : goal.items-init
items-init g c =
    let s = c.args.from.now.reader in
    let none = c.in_ok-list.ensures.items in (
      length s,
      λ ds. ds,
      further-none (value (c.args.from.now.depth - 1)) s,
      λ ds. ap (λ xs. onto with_tree (map g.T.Tabled.tree xs) (read_items (read g.T.Tabled.kind) ds)) (sym none),
      refl,
      refl,
    )

pub items-smaller : goal.items-smaller
items-smaller g c =
    let l = c.items in
    let going : (after_end_array l.from.reader ≡ None) × (c.take_end_array.new.self ≡ l.from.reader) = grind arith in
    let got = c.in_ok-read_onto.ensures.read in
    let less = shorter l.from.depth _ c.read_onto.new.from.reader got.2.0 got.2.1 in
    omega (arith, less, ap length going.1)

pub items-preserved : goal.items-preserved
items-preserved g c =
    let p = value (c.args.from.now.depth - 1) in
    let tree = g.T.Tabled.tree in
    let f = read g.T.Tabled.kind in
    let l = c.items in
    let s = l.from.reader in
    let r = c.read_onto.new.from.reader in
    let going : (after_end_array s ≡ None) × (c.take_end_array.new.self ≡ s) = grind arith in
    let got = c.in_ok-read_onto.ensures.read in
    let x = got.0 in
    let d = got.2.0 in
    let value_at : converted of_json (p s) ≡ Some (d, r) = ap₂ (λ y z. converted of_json (value y z)) (sym l.invariant.4) (sym going.1) ∙ got.2.1 in
    let less : length r < length s = shorter (c.args.from.now.depth - 1) s r d value_at in
    let after : map tree c.read_onto.new.list.items ≡ map tree l.list.items ++ tree x ∷ [] = ap (map tree) got.1 ∙ map_push tree l.list.items x in (
      l.invariant.0 - 1,
      λ ds. l.invariant.1 (item d ds),
      further-item p c.args.from.now.reader s r l.invariant.0 l.invariant.1 d l.invariant.2 going.0 value_at less,
      λ ds. l.invariant.3 (item d ds) ∙ sym (read_next f (map tree l.list.items) (tree x) d ds got.2.2) ∙ ap (λ ts. onto with_tree ts (read_items f ds)) (sym after),
      c.in_ok-read_onto.ensures.depth ∙ l.invariant.4,
      c.in_ok-read_onto.ensures.pass ∙ l.invariant.5,
    )

pub returns-clause-read : goal.returns-clause-read
returns-clause-read g c =
    let depth = c.args.from.now.depth in
    let p = value (depth - 1) in
    let l = c.items in
    let n = l.invariant.0 in
    let before = l.invariant.1 in
    let s = c.args.from.now.reader in
    let r = c.take_end_array.new.self in
    let opened = ap (converted of_json) (value-begin_array depth s (omega arith)) ∙ converted-array (items p (length s) s) in
    let over = further-end p s l.from.reader r n before l.invariant.2 (grind arith) in (
      array (before no_items),
      opened ∙ ap (parse_map array) over,
      ap (option_map list) (l.invariant.3 no_items ∙ onto_end (map g.T.Tabled.tree l.list.items)),
    )
