use Rattle.std.proofs.Common.{◌≡◌, ◌-◌, ◌<◌, length, None, Some, option_map, IsTrue, refl, sym, ap, ap₂, ◌∙◌, subst, arith}
use Rattle.json.specs.Json.{parse_map, read_key, members, value}
use Rattle.json.proofs.Grammar.{value-begin_object, read_key-shorter}
use Rattle.serde_json.specs.Data.{object, put, no_members}
use Rattle.serde_json.specs.Read.{of_json, converted}
use Rattle.gltf_schema.proofs.ByName.{sound_object_distinct}
use Rattle.gltf_schema.proofs.Standing.{Holds, member_taken, member_left, starts_held, all_held, none_seen, shorter}
use Rattle.gltf_schema.proofs.Turns.{converted-object, member_read, members_over}
use Rattle.gltf_schema.proofs.stream.read_object.Goals as goal

pub members-init : goal.members-init
members-init g c =
    let t = g.T.Object in (
      length c.args.from.now.reader,
      no_members,
      omega arith,
      refl,
      starts_held t.rows t.keeps (t.members c.args.place.now) (t.unknown c.args.place.now) _ none_seen c.requires.rows c.requires.others,
      refl,
    )

pub members-smaller-then-is_none : goal.members-smaller-then-is_none
members-smaller-then-is_none g c =
    let t = g.T.Object in
    let l = c.members in
    let k = c.in-Some.name.now in
    let s = c.next_key.new.self in
    let key : read_key l.from.reader ≡ Some (Some k, s) = grind arith in
    let less = read_key-shorter l.from.reader (Some k) s key in
    let none : option_map (λ n. n.now) c.read_rows.new.from.pass.name ≡ None = grind arith in
    let got = member_taken l.invariant.1 (sound_object_distinct t.rule t.rows t.keeps g.met.T.Object.kind_is_sound) refl refl l.invariant.4 c.read_rows.ensures c.if-from.false none in
    let held = got.0 in
    let lesser = shorter _ s c.read_rows.new.from.reader held.0 held.1 in
    omega (arith, less, lesser)

pub members-preserved-then-is_none : goal.members-preserved-then-is_none
members-preserved-then-is_none g c =
    let t = g.T.Object in
    let p = value (c.args.from.now.depth - 1) in
    let l = c.members in
    let n = l.invariant.0 in
    let ms = l.invariant.1 in
    let k = c.in-Some.name.now in
    let s = c.next_key.new.self in
    let r = c.read_rows.new.from.reader in
    let key : read_key l.from.reader ≡ Some (Some k, s) = grind arith in
    let less = read_key-shorter l.from.reader (Some k) s key in
    let none : option_map (λ n. n.now) c.read_rows.new.from.pass.name ≡ None = grind arith in
    let got = member_taken ms (sound_object_distinct t.rule t.rows t.keeps g.met.T.Object.kind_is_sound) refl refl l.invariant.4 c.read_rows.ensures c.if-from.false none in
    let held = got.0 in
    let d = held.0 in
    let lesser = shorter l.from.depth s r d held.1 in
    let read : converted of_json (p s) ≡ Some (d, r) = ap (λ x. converted of_json (value x s)) (sym l.invariant.5) ∙ held.1 in (
      n - 1,
      put k d ms,
      omega (arith, l.invariant.2, less, lesser),
      l.invariant.3 ∙ member_read p ms n k l.from.reader s r d (omega (arith, l.invariant.2, less)) key read,
      held.2,
      got.1 ∙ l.invariant.5,
    )

pub members-smaller : goal.members-smaller
members-smaller g c =
    let t = g.T.Object in
    let l = c.members in
    let k = c.in-Some.name.now in
    let s = c.next_key.new.self in
    let r = c.skip.new.self.reader in
    let key : read_key l.from.reader ≡ Some (Some k, s) = grind arith in
    let less = read_key-shorter l.from.reader (Some k) s key in
    let some : option_map (λ n. n.now) c.read_rows.new.from.pass.name ≡ None → ⊥ = λ e. let never : ⊥ = grind arith in never in
    let got = member_left l.invariant.1 (sound_object_distinct t.rule t.rows t.keeps g.met.T.Object.kind_is_sound) refl refl l.invariant.4 c.read_rows.ensures c.if-from.false some in
    let still = got.0 in
    let v = c.in_ok-skip.ensures.value in
    let lesser = shorter c.read_rows.new.from.depth c.read_rows.new.from.reader r v.0 v.1 in
    let smaller : length r < length l.from.reader = omega (arith, less, lesser, ap length still.0) in
    smaller

pub members-preserved : goal.members-preserved
members-preserved g c =
    let t = g.T.Object in
    let p = value (c.args.from.now.depth - 1) in
    let l = c.members in
    let n = l.invariant.0 in
    let ms = l.invariant.1 in
    let k = c.in-Some.name.now in
    let s = c.next_key.new.self in
    let from = c.read_rows.new.from in
    let r = c.skip.new.self.reader in
    let key : read_key l.from.reader ≡ Some (Some k, s) = grind arith in
    let less = read_key-shorter l.from.reader (Some k) s key in
    let some : option_map (λ n. n.now) from.pass.name ≡ None → ⊥ = λ e. let never : ⊥ = grind arith in never in
    let got = member_left ms (sound_object_distinct t.rule t.rows t.keeps g.met.T.Object.kind_is_sound) refl refl l.invariant.4 c.read_rows.ensures c.if-from.false some in
    let still = got.0 in
    let v = c.in_ok-skip.ensures.value in
    let d = v.0 in
    let lesser = shorter from.depth from.reader r d v.1 in
    let deep = got.1 ∙ l.invariant.5 in
    let read : converted of_json (p s) ≡ Some (d, r) = sym (ap₂ (λ x y. converted of_json (value x y)) deep still.0) ∙ v.1 in (
      n - 1,
      put k d ms,
      omega (arith, l.invariant.2, less, lesser, ap length still.0),
      l.invariant.3 ∙ member_read p ms n k l.from.reader s r d (omega (arith, l.invariant.2, less)) key read,
      subst (λ x. Holds t.rows t.keeps x.seen (put k d ms) (t.members c.read_rows.new.self) (t.unknown c.read_rows.new.self)) (sym c.in_ok-skip.ensures.pass) (still.1 d),
      c.in_ok-skip.ensures.depth ∙ deep,
    )

pub returns-clause-read : goal.returns-clause-read
returns-clause-read g c =
    let t = g.T.Object in
    let depth = c.args.from.now.depth in
    let p = value (depth - 1) in
    let l = c.members in
    let n = l.invariant.0 in
    let ms = l.invariant.1 in
    let s = c.args.from.now.reader in
    let r = c.next_key.new.self in
    let over : read_key l.from.reader ≡ Some (None, r) = grind arith in
    let ended = l.invariant.3 ∙ members_over p ms n l.from.reader r l.invariant.2 over in
    let opened = ap (converted of_json) (value-begin_object depth s (omega arith)) ∙ converted-object (members p (length s) s) in
    let all : IsTrue c.all_seen.result = grind arith in (
      object ms,
      opened ∙ ap (parse_map object) ended,
      all_held t.rule t.rows t.keeps (t.members l.place) (t.unknown l.place) l.from.pass.seen ms (λ i less. c.all_seen.ensures all i (omega (arith, less, c.count_required.ensures))) l.invariant.4,
    )
