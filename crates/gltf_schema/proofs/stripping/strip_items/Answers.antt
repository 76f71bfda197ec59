use Rattle.std.proofs.Common.{◌≡◌, length, refl, ap, subst, arith}
use Rattle.gltf_schema.specs.Tree.{list}
use Rattle.gltf_schema.specs.Stripped.{stripped}
use Rattle.gltf_schema.proofs.RowsStripped.{ChangedTo, all_changed, next_changed}
use Rattle.gltf_schema.proofs.stripping.strip_items.Goals as goal

pub loop-item-init : goal.loop-item-init
loop-item-init g c = refl

pub loop-item-preserved : goal.loop-item-preserved
loop-item-preserved g c =
    let s = g.T.Tabled in
    let l = c.loop-item in
    next_changed l.item-index s.tree (stripped c.args.what s.kind) c.args.items.now l.items c.item-item.result c.strip.new.self l.invariant (omega arith) c.strip.ensures

pub returns : goal.returns
returns g c =
    let s = g.T.Tabled in
    let f = stripped c.args.what s.kind in
    let l = c.loop-item in
    let all : l.item-index ≡ length l.items = omega arith in
    ap list (all_changed s.tree f c.args.items.now l.items (subst (λ n. ChangedTo n s.tree f c.args.items.now l.items) all l.invariant))
