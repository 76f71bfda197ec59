-- An attribute in front of those that are left.
use Rattle.std.proofs.Common.{◌≡◌, ◌<◌, length, not, Some, None, arith}
use Rattle.json.specs.Json as tree
use Rattle.json.specs.Json.{no_members, member, read_key, value}
use Rattle.json.proofs.Grammar.{read_key-shorter}
use Rattle.gltf_findings_members.specs.Members.{attribute_notices}
use Rattle.gltf_findings_members.proofs.NoneInObjects.{quiet_no_members}
use Rattle.gltf_findings_members.proofs.NoneInValues.{quiet_attribute_member}
use Rattle.gltf_findings_members.proofs.Passing.{both_of, fewer, is_not, some_member}
use Rattle.gltf_findings_members.proofs.Turning.{members_start, members_next, members_close}
use Rattle.gltf_findings_members.proofs.listed.look_attributes.Goals as goal

pub members-init : goal.members-init
members-init c = (λ js. js, members_start (value c.args.depth) c.args.reader.now, λ yes js rest. rest, λ js some. some, λ never js e. absurd (cc))

pub members-smaller : goal.members-smaller
members-smaller c =
    let l = c.members in
    let s = c.next_key.new.self in
    let r = c.next_number.new.reader in
    let key : read_key l.reader ≡ Some (Some c.in-Some.name.now, s) = grind arith in
    let less = read_key-shorter l.reader (Some c.in-Some.name.now) s key in
    let lesser = fewer c.args.depth s r (tree.number c.in_ok-text.text.now) (c.in_ok-text.ensures c.args.depth) in
    let smaller : length r < length l.reader = omega (arith, less, lesser) in
    smaller

pub members-preserved : goal.members-preserved
members-preserved c =
    let l = c.members in
    let k = c.in-Some.name.now in
    let s = c.next_key.new.self in
    let r = c.next_number.new.reader in
    let j = tree.number c.in_ok-text.text.now in
    let key : read_key l.reader ≡ Some (Some k, s) = grind arith in
    let read = c.in_ok-text.ensures c.args.depth in
    let before = l.invariant.0 in
    let quiet = c.is_quiet_attribute-is_quiet in (
      λ js. before (member k j js),
      members_next (value c.args.depth) c.args.reader.now k l.reader s r before j l.invariant.1 key read (fewer c.args.depth s r j read),
      λ yes js rest. let both = both_of l.are_quiet quiet.result yes in l.invariant.2 both.0 (member k j js) (quiet_attribute_member k j js (quiet.ensures both.1) rest),
      λ js some. l.invariant.3 (member k j js) (some_member k j js),
      λ filled js. l.invariant.3 (member k j js) (some_member k j js),
    )

pub returns : goal.returns
returns c =
    let l = c.members in
    let r = c.next_key.new.self in
    let over : read_key l.reader ≡ Some (None, r) = grind arith in (
      l.invariant.0 no_members,
      members_close (value c.args.depth) c.args.reader.now l.reader r l.invariant.0 l.invariant.1 over,
      λ yes. let both = both_of l.are_quiet (not l.is_empty) yes in (l.invariant.4 (is_not l.is_empty both.1) no_members, l.invariant.2 both.0 no_members (quiet_no_members attribute_notices)),
    )
