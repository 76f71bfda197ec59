-- A member that is passed, in front of those that are left.
use Rattle.std.proofs.Common.{◌≡◌, Some, None, arith}
use Rattle.json.specs.Json.{no_members, member, read_key, value}
use Rattle.gltf_findings_members.proofs.Passing.{passed}
use Rattle.gltf_findings_members.proofs.Turning.{members_start, members_next, members_close}
use Rattle.gltf_findings_members.proofs.listed.skip_members.Goals as goal

pub members-init : goal.members-init
members-init c = (λ js. js, members_start (value c.args.depth) c.args.reader.now)

pub members-preserved : goal.members-preserved
members-preserved c =
    let l = c.members in
    let k = c.in-Some._name.now in
    let s = c.next_key.new.self in
    let r = c.skip_value.new.self in
    let key : read_key l.reader ≡ Some (Some k, s) = grind arith in
    let j = passed c.args.depth s r c.in_ok-skip_value.ensures.value in
    let before = l.invariant.0 in
    (λ js. before (member k j.0 js), members_next (value c.args.depth) c.args.reader.now k l.reader s r before j.0 l.invariant.1 key j.1 c.in_ok-skip_value.ensures.shorter)

pub returns : goal.returns
returns c =
    let l = c.members in
    let r = c.next_key.new.self in
    let over : read_key l.reader ≡ Some (None, r) = grind arith in
    (l.invariant.0 no_members, members_close (value c.args.depth) c.args.reader.now l.reader r l.invariant.0 l.invariant.1 over)
