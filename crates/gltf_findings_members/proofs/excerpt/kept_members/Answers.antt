-- A member that is taken, and the brace after the last.
use Rattle.std.proofs.Common.{◌≡◌, ◌-◌, length, None, Some, refl, ap, ◌∙◌, subst, arith}
use Rattle.std.specs.BTreeSet.{contains_text}
use Rattle.json.specs.Json.{read_key}
use Rattle.json.proofs.Grammar.{read_key-shorter}
use Rattle.serde_json.specs.Data.{no_members}
use Rattle.serde_json.specs.View.{members_view}
use Rattle.gltf_findings_members.specs.Kept.{LeavesBehind, Takes}
use Rattle.gltf_findings_members.proofs.Keeping.{ahead_end, ahead_left, ahead_more, leaves_more, passed, shorter}
use Rattle.gltf_findings_members.proofs.excerpt.kept_members.Goals as goal

pub members-init : goal.members-init
members-init c = (length c.args.from.now.reader, omega arith, refl, λ ms rest whole. (no_members, tt, ap members_view c.new-found.ensures.empty, whole), c.requires)

pub members-preserved : goal.members-preserved
members-preserved c =
    let P = contains_text c.args.keep.now in
    let depth = c.args.from.now.depth in
    let l = c.members in
    let n = l.invariant.0 in
    let k = c.in-Some.name.now in
    let s = c.next_key.new.self in
    let took = c.take_member.new in
    let r = took.from.reader in
    let old = members_view l.found.entries in
    let new = members_view took.found.entries in
    let key : read_key l.from.reader ≡ Some (Some k, s) = grind arith in
    let less = read_key-shorter l.from.reader (Some k) s key in
    let takes = subst (λ x. Takes (P k) x k s r old new) l.invariant.2 c.in_ok-take_member.ensures.takes in
    let lesser = shorter (P k) depth k s r old new takes in (
      n - 1,
      omega (arith, l.invariant.1, less, lesser),
      c.in_ok-take_member.ensures.depth ∙ l.invariant.2,
      λ ms rest whole. ahead_more P depth ms rest n k l.from.reader s r old new (omega (arith, l.invariant.1, less)) key takes (l.invariant.3 ms rest whole),
      leaves_more P depth n l.left k l.from.reader s r (omega (arith, l.invariant.1, less)) (omega arith) key (passed (P k) depth k s r old new takes) l.invariant.4,
    )

pub returns-in_default : goal.returns-in_default
returns-in_default c = λ ms rest whole.
    let l = c.members in
    let r = c.next_key.new.self in
    let over : read_key l.from.reader ≡ Some (None, r) = grind arith in
    ahead_end (contains_text c.args.keep.now) c.args.from.now.depth ms rest l.invariant.0 l.from.reader r (members_view l.found.entries) l.invariant.1 over (l.invariant.3 ms rest whole)

pub returns : goal.returns
returns c = λ ms rest whole.
    let P = contains_text c.args.keep.now in
    let depth = c.args.from.now.depth in
    let l = c.members in
    let none : l.left ≡ 0 = omega arith in
    ahead_left P depth ms rest l.invariant.0 l.from.reader (members_view l.found.entries) (λ js r read. subst (λ n. LeavesBehind P n js) none (l.invariant.4 js r read)) (l.invariant.3 ms rest whole)
