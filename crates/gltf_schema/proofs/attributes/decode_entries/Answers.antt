use Rattle.std.proofs.Common.{◌≡◌, map, string_bytes, option_map, sym, ap, ◌∙◌, rules}
use Rattle.std.specs.BTreeMap.{insert_entry}
use Rattle.serde_json.specs.View.{view, members_view}
use Rattle.gltf_base.specs.Keys.{key_cmp}
use Rattle.gltf_base.specs.Names.{key_named}
use Rattle.gltf_base.specs.Semantics.{checked_key}
use Rattle.gltf_base.specs.Indexes.{index_number}
use Rattle.gltf_schema.specs.Kind.{IndexInto}
use Rattle.gltf_schema.specs.Read.{read_entries}
use Rattle.gltf_schema.specs.Refused.{refused_entry}
use Rattle.gltf_schema.specs.Tree.{attributes}
use Rattle.gltf_schema.specs.Fields.{entry_of}
use Rattle.gltf_schema.specs.RowPlacing.{place_of}
use Rattle.gltf_schema.proofs.Entries.{inserted, entry_read}
use Rattle.gltf_schema.proofs.Placed.{entry_passed, entry_placed}
use Rattle.gltf_schema.proofs.attributes.decode_entries.Goals as goal

pub returns-in-Err : goal.returns-in-Err
returns-in-Err g c =
    let named = g.P.Item.Listed.list in
    let here = ap (λ ms. refused_entry (IndexInto named) (members_view ms)) (sym c.in-Some.ensures.steps) ∙ c.loop-name.invariant.1 in
    entry_placed (place_of c.within.result) (place_of c.in-Err.refusal) named (string_bytes c.in-Some.name) (view c.in-Some.value) (members_view c.next.new.self) (members_view c.args.members.entries)
    here c.in-Err.ensures.by_table c.within.ensures

pub loop-name-preserved : goal.loop-name-preserved
loop-name-preserved g c =
    let named = g.P.Item.Listed.list in
    let before = map entry_of c.loop-name.found.entries in
    let number = index_number c.in-Ok.index in
    let rest = members_view c.next.new.self in
    let name : checked_key c.in_ok-checked-in-Ok.field-0 ≡ key_named (string_bytes c.in-Some.name) = c.in_ok-checked-in-Ok.ensures.key ∙ ap key_named c.as_str.ensures.value in
    let after : map entry_of c.insert.new.self.entries ≡ insert_entry key_cmp before (key_named (string_bytes c.in-Some.name)) number =
    ap (map entry_of) c.in_ok-insert-in-Ok.ensures.entries
    ∙ inserted _ key_cmp checked_key index_number (λ a b. search rules) c.loop-name.found.entries c.in_ok-checked-in-Ok.field-0 c.in-Ok.index
    ∙ ap (λ key. insert_entry key_cmp before key number) name in (
      ap (λ es. read_entries es rest) after
          ∙ entry_read before (string_bytes c.in-Some.name) (view c.in-Some.value) rest number c.in-Ok.ensures.by_table
          ∙ ap (λ ms. read_entries before (members_view ms)) (sym c.in-Some.ensures.steps)
          ∙ c.loop-name.invariant.0,
      sym (entry_passed named (string_bytes c.in-Some.name) (view c.in-Some.value) rest _ c.in-Ok.ensures.by_table)
          ∙ ap (λ ms. refused_entry (IndexInto named) (members_view ms)) (sym c.in-Some.ensures.steps)
          ∙ c.loop-name.invariant.1,
    )

pub returns : goal.returns
returns g c =
    ap (option_map attributes) (sym c.loop-name.invariant.0 ∙ ap (λ ms. read_entries (map entry_of c.loop-name.found.entries) (members_view ms)) c.in-None.ensures.steps.0)
