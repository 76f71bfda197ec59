-- An index in front of those that are left.
use Rattle.std.proofs.Common.{◌≡◌, [], ◌<◌, length, subst, not, Some, None, arith}
use Rattle.json.specs.Json as tree
use Rattle.json.specs.Json.{no_items, item, after_end_array, value}
use Rattle.gltf_schema.specs.declared.outline.Shape.TheVariants.{Whole32}
use Rattle.gltf_findings_members.specs.Quiet.{AreNew}
use Rattle.gltf_findings_members.proofs.Leaves.{index_fits, number_quiet}
use Rattle.gltf_findings_members.proofs.NoneNoted.{quiet_item, quiet_no_items}
use Rattle.gltf_findings_members.proofs.Numbered.{new_item, no_new_items}
use Rattle.gltf_findings_members.proofs.Passing.{both_of, fewer, is_not, some_item}
use Rattle.gltf_findings_members.proofs.Turning.{items_start, items_next, items_close}
use Rattle.gltf_findings_members.proofs.listed.look_indexes.Goals as goal

pub items-init : goal.items-init
items-init c =
    let empty : c.new-before.result.keys ≡ [] = grind arith in
    (λ js. js, items_start (value c.args.depth) c.args.reader.now, λ yes js rest. subst (λ ks. AreNew ks js) empty rest, λ yes js f rest. rest, λ js some. some, λ never js e. absurd (cc))

pub items-smaller : goal.items-smaller
items-smaller c =
    let l = c.items in
    let r = c.next_number.new.reader in
    let going : (after_end_array l.reader ≡ None) × (c.take_end_array.new.self ≡ l.reader) = grind arith in
    let less = fewer c.args.depth c.take_end_array.new.self r (tree.number c.in_ok-text.text.now) (c.in_ok-text.ensures c.args.depth) in
    let smaller : length r < length l.reader = rw (← going.1) less in
    smaller

pub items-preserved : goal.items-preserved
items-preserved c =
    let l = c.items in
    let r = c.next_number.new.reader in
    let j = tree.number c.in_ok-text.text.now in
    let going : (after_end_array l.reader ≡ None) × (c.take_end_array.new.self ≡ l.reader) = grind arith in
    let read : value c.args.depth l.reader ≡ Some (j, r) = rw (← going.1) (c.in_ok-text.ensures c.args.depth) in
    let before = l.invariant.0 in
    let added = c.in_ok-is_quiet in (
      λ js. before (item j js),
      items_next (value c.args.depth) c.args.reader.now l.reader r before j l.invariant.1 going.0 read (fewer c.args.depth l.reader r j read),
      λ yes js rest. let both = both_of l.are_quiet added.is_quiet yes in l.invariant.2 both.0 (item j js) (new_item l.before.keys c.add_index.new.before.keys j js (added.ensures both.1).0 rest),
      λ yes js f rest. let both = both_of l.are_quiet added.is_quiet yes in l.invariant.3 both.0 (item j js) f (quiet_item f (Some Whole32) j js (number_quiet f (Some Whole32) c.in_ok-text.text.now (index_fits c.in_ok-text.text.now (added.ensures both.1).1)) rest),
      λ js some. l.invariant.4 (item j js) (some_item j js),
      λ filled js. l.invariant.4 (item j js) (some_item j js),
    )

pub returns : goal.returns
returns c =
    let l = c.items in
    let r = c.take_end_array.new.self in
    let over : after_end_array l.reader ≡ Some r = grind arith in (
      l.invariant.0 no_items,
      items_close (value c.args.depth) c.args.reader.now l.reader r l.invariant.0 l.invariant.1 over,
      λ yes.
          let both = both_of l.are_quiet (not l.is_empty) yes in
          (l.invariant.5 (is_not l.is_empty both.1) no_items, l.invariant.2 both.0 no_items (no_new_items l.before.keys), λ f. l.invariant.3 both.0 no_items f (quiet_no_items f (Some Whole32))),
    )
