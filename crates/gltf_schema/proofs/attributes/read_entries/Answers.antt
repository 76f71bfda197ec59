use Rattle.std.proofs.Common.{◌≡◌, ◌-◌, ◌<◌, [], ◌∷◌, length, map, None, Some, option_map, refl, sym, ap, ap₂, ◌∙◌, rules, arith}
use Rattle.std.specs.BTreeMap.{insert_entry}
use Rattle.json.specs.Json.{parse_map, read_key, members, value}
use Rattle.json.proofs.Grammar.{value-begin_object, read_key-shorter}
use Rattle.serde_json.specs.Data.{object, put, no_members}
use Rattle.serde_json.specs.Read.{of_json, converted}
use Rattle.gltf_base.specs.Keys.{key_cmp}
use Rattle.gltf_base.specs.Names.{key_named}
use Rattle.gltf_base.specs.Semantics.{checked_key}
use Rattle.gltf_base.specs.Indexes.{index_number}
use Rattle.gltf_schema.specs.Attributes.{index_at}
use Rattle.gltf_schema.specs.Fields.{entry_of}
use Rattle.gltf_schema.specs.Read.{small_number}
use Rattle.gltf_schema.specs.Tree.{attributes}
use Rattle.gltf_schema.proofs.Entries.{small_of}
use Rattle.gltf_schema.proofs.TextOrder.{one_more, entry_inserted}
use Rattle.gltf_schema.proofs.Standing.{shorter}
use Rattle.gltf_schema.proofs.Turns.{converted-object, member_read, members_over}
use Rattle.gltf_schema.proofs.attributes.read_entries.Goals as goal

pub members-init : goal.members-init
members-init g c = (
  length c.args.from.now.reader,
  no_members,
  omega arith,
  refl,
  ap (λ es. Some (map entry_of es)) (sym c.new-found.ensures.empty),
  refl,
  refl,
)

pub members-smaller : goal.members-smaller
members-smaller g c =
    let l = c.members in
    let k = c.in-Some.name.now in
    let s = c.next_key.new.self in
    let r = c.from_token.new.from.reader in
    let named : read_key l.from.reader ≡ Some (Some k, s) = grind arith in
    let less = read_key-shorter l.from.reader (Some k) s named in
    let got = c.in_ok-index.ensures.read in
    let lesser = shorter l.from.depth _ r got.0 got.1 in
    omega (arith, less, lesser)

pub members-preserved : goal.members-preserved
members-preserved g c =
    let p = value (c.args.from.now.depth - 1) in
    let l = c.members in
    let n = l.invariant.0 in
    let ms = l.invariant.1 in
    let k = c.in-Some.name.now in
    let s = c.next_key.new.self in
    let r = c.from_token.new.from.reader in
    let named : read_key l.from.reader ≡ Some (Some k, s) = grind arith in
    let less = read_key-shorter l.from.reader (Some k) s named in
    let got = c.in_ok-index.ensures.read in
    let d = got.0 in
    let i = c.in_ok-index.index in
    let lesser = shorter l.from.depth _ r d got.1 in
    let read : converted of_json (p s) ≡ Some (d, r) = ap (λ x. converted of_json (value x s)) (sym l.invariant.5) ∙ got.1 in
    let number : small_number d ≡ Some (index_number i) = small_of d (index_number i) got.2 in
    let key_is : checked_key c.in_ok-key.key ≡ key_named k = c.in_ok-key.ensures.key in
    let before = map entry_of l.found.entries in
    let new : c.in_ok-insert.field-0 ≡ None = grind arith in
    let e = entry_inserted _ key_cmp checked_key index_number l.found.entries c.insert.new.self.entries c.in_ok-key.key i c.in_ok-insert.field-0 c.in_ok-insert.ensures.entries c.in_ok-insert.ensures.old new (λ a b. search rules) in
    let none : index_at (key_named k) before ≡ None = ap (λ x. index_at x before) (sym key_is) ∙ e.1 in
    let after : map entry_of c.insert.new.self.entries ≡ insert_entry key_cmp before (key_named k) (index_number i) = e.0 ∙ ap (λ x. insert_entry key_cmp before x (index_number i)) key_is in (
      n - 1,
      put k d ms,
      omega (arith, l.invariant.2, less, lesser),
      l.invariant.3 ∙ member_read p ms n k l.from.reader s r d (omega (arith, l.invariant.2, less)) named read,
      one_more k d (index_number i) ms [] before number l.invariant.4 none ∙ ap Some (sym after),
      c.in_ok-index.ensures.depth ∙ l.invariant.5,
      c.in_ok-index.ensures.pass ∙ l.invariant.6,
    )

pub returns-clause-read : goal.returns-clause-read
returns-clause-read g c =
    let depth = c.args.from.now.depth in
    let p = value (depth - 1) in
    let l = c.members in
    let n = l.invariant.0 in
    let ms = l.invariant.1 in
    let s = c.args.from.now.reader in
    let r = c.next_key.new.self in
    let over : read_key l.from.reader ≡ Some (None, r) = grind arith in
    let ended = l.invariant.3 ∙ members_over p ms n l.from.reader r l.invariant.2 over in
    let opened = ap (converted of_json) (value-begin_object depth s (omega arith)) ∙ converted-object (members p (length s) s) in (
      object ms,
      opened ∙ ap (parse_map object) ended,
      ap (option_map attributes) l.invariant.4,
    )
