use Rattle.std.proofs.Common.{◌≡◌, ◌∷◌, sym, subst}
use Rattle.json.specs.Token.{Token}
use Rattle.gltf_schema.specs.Streamed.{ReadsAt, ReadsOptional}
use Rattle.gltf_schema.specs.Tree.{absent, tree_or_absent}
use Rattle.gltf_schema.proofs.OneToken.{on_ok, when_true, when_false, absent_at, present_next}
use Rattle.gltf_schema.proofs.stream.Stream.read_optional.Goals as goal

pub returns-then-branch-clause-read : goal.returns-then-branch-clause-read
returns-then-branch-clause-read g c =
    let kind = g.T.Tabled.kind in
    let old = c.args.self.now in
    let r = c.take_null.new.self in
    let null : old.reader ≡ Token.null ∷ r = when_true _ _ c.in_ok-take_null.field-0 c.if-branch.true c.in_ok-take_null.ensures in
    subst (λ ts. ReadsOptional kind absent old.depth ts r) (sym null) (absent_at kind old.depth r)

pub returns-clause-read : goal.returns-clause-read
returns-clause-read g c =
    let kind = g.T.Tabled.kind in
    let old = c.args.self.now in
    let k = c.read_some in
    let stays = when_false _ _ c.in_ok-take_null.field-0 c.if-branch.false c.in_ok-take_null.ensures in
    on_ok k.result (λ h. present_next kind (tree_or_absent g.T.Tabled.tree k.new.place) old.depth old.reader k.new.from.reader stays.1
    (subst (λ ts. ReadsAt kind (tree_or_absent g.T.Tabled.tree k.new.place) old.depth ts k.new.from.reader) stays.0 h)) k.ensures.read
