-- A text in front of those that are left.
use Rattle.std.proofs.Common.{◌≡◌, ◌<◌, length, Some, None, false, refl, arith}
use Rattle.std.specs.BTreeSet.{contains_text}
use Rattle.json.specs.Json as tree
use Rattle.json.specs.Json.{no_items, item, after_end_array, value}
use Rattle.gltf_schema.specs.declared.outline.Shape.TheVariants.{Text}
use Rattle.gltf_findings_members.proofs.Leaves.{text_quiet}
use Rattle.gltf_findings_members.proofs.Listing.{all_found, found_text, none_found}
use Rattle.gltf_findings_members.proofs.NoneNoted.{quiet_item, quiet_no_items}
use Rattle.gltf_findings_members.proofs.Passing.{fewer, some_item}
use Rattle.gltf_findings_members.proofs.Turning.{items_start, items_next, items_close}
use Rattle.gltf_findings_members.proofs.root_lists.look_texts.Goals as goal

pub items-init : goal.items-init
items-init c =
    let texts = c.new-texts.result in
    (λ js. js, items_start (value c.args.depth) c.args.reader.now, λ f js rest. rest, none_found (contains_text texts) (λ q. grind arith), λ js some. some, λ never js e. absurd (cc))

pub items-smaller : goal.items-smaller
items-smaller c =
    let l = c.items in
    let r = c.next_text.new.reader in
    let going : (after_end_array l.reader ≡ None) × (c.take_end_array.new.self ≡ l.reader) = grind arith in
    let less = fewer c.args.depth c.take_end_array.new.self r (tree.string c.in_ok-text.text.now) (c.in_ok-text.ensures c.args.depth) in
    let smaller : length r < length l.reader = rw (← going.1) less in
    smaller

pub items-preserved : goal.items-preserved
items-preserved c =
    let l = c.items in
    let r = c.next_text.new.reader in
    let t = c.in_ok-text.text.now in
    let j = tree.string t in
    let going : (after_end_array l.reader ≡ None) × (c.take_end_array.new.self ≡ l.reader) = grind arith in
    let read : value c.args.depth l.reader ≡ Some (j, r) = rw (← going.1) (c.in_ok-text.ensures c.args.depth) in
    let before = l.invariant.0 in (
      λ js. before (item j js),
      items_next (value c.args.depth) c.args.reader.now l.reader r before j l.invariant.1 going.0 read (fewer c.args.depth l.reader r j read),
      λ f js rest. l.invariant.2 f (item j js) (quiet_item f (Some Text) j js (text_quiet f (Some Text) t refl) rest),
      found_text (contains_text l.texts) (contains_text c.take_text.new.texts) t before c.in_ok-take_text.ensures l.invariant.3,
      λ js some. l.invariant.4 (item j js) (some_item j js),
      λ filled js. l.invariant.4 (item j js) (some_item j js),
    )

pub returns : goal.returns
returns c =
    let l = c.items in
    let r = c.take_end_array.new.self in
    let over : after_end_array l.reader ≡ Some r = grind arith in
    let filled : l.is_empty ≡ false = grind arith in (
      l.invariant.0 no_items,
      items_close (value c.args.depth) c.args.reader.now l.reader r l.invariant.0 l.invariant.1 over,
      (l.invariant.5 filled no_items, λ f. l.invariant.2 f no_items (quiet_no_items f (Some Text)), λ all read. all_found (contains_text l.texts) all (l.invariant.3 no_items all read)),
    )
