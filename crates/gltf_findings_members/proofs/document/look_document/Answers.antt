-- A member in front of those that are left.
use Rattle.std.proofs.Common.{◌≡◌, ◌+◌, ◌<◌, length, subst, false, not, Some, None, refl, arith}
use Rattle.json.specs.Json.{member, no_members, read_key, value}
use Rattle.json.proofs.Grammar.{read_key-shorter}
use Rattle.gltf_findings_members.specs.Kept.{LeavesBehind}
use Rattle.gltf_findings_members.specs.LeftOut.{told_left_out}
use Rattle.gltf_findings_members.specs.Look.{format_with}
use Rattle.gltf_findings_members.specs.Rows.{is_target}
use Rattle.gltf_findings_members.proofs.Having.{nothing_seen, rows_are_there, seen_next, still_has}
use Rattle.gltf_findings_members.proofs.NoneInObjects.{quiet_no_members}
use Rattle.gltf_findings_members.proofs.Passing.{both_of, fewer, is_not}
use Rattle.gltf_findings_members.proofs.Reaching.{further, reach_next}
use Rattle.gltf_findings_members.proofs.Rooting.{covers_old, full_next, left_quiet, no_lists, quiet_left_out, used_end, used_next}
use Rattle.gltf_findings_members.proofs.Turning.{members_start, members_next, members_close}
use Rattle.gltf_findings_members.proofs.document.look_document.Goals as goal

pub members-init : goal.members-init
members-init c = (λ js. js, members_start (value c.args.depth) c.args.reader.now, λ uses P covers listed keeps js rest. rest, λ P keeps js full. full, λ js. refl, λ n js has. has, nothing_seen 64 c.args.rows.now, λ P n js left. let e : n ≡ 0 + n = omega arith in subst (λ x. LeavesBehind P x js) e left, λ P only js left. left)

pub members-smaller : goal.members-smaller
members-smaller c =
    let l = c.members in
    let s = c.next_key.new.self in
    let r = c.look_root_member.new.reader in
    let key : read_key l.reader ≡ Some (Some c.in-Some.name.now, s) = grind arith in
    let less = read_key-shorter l.reader (Some c.in-Some.name.now) s key in
    let j = c.in_ok-is_quiet.ensures in
    let lesser = fewer c.args.depth s r j.0 j.1 in
    let smaller : length r < length l.reader = omega (arith, less, lesser) in
    smaller

pub members-preserved : goal.members-preserved
members-preserved c =
    let l = c.members in
    let rows = c.args.rows.now in
    let k = c.in-Some.name.now in
    let s = c.next_key.new.self in
    let r = c.look_root_member.new.reader in
    let key : read_key l.reader ≡ Some (Some k, s) = grind arith in
    let j = c.in_ok-is_quiet.ensures in
    let quiet = c.in_ok-is_quiet.is_quiet in
    let loud = c.note_loud.new.loud in
    let used = c.look_root_member.new.used in
    let noted = c.in_ok-note_loud.ensures in
    let before = l.invariant.0 in (
      λ js. before (member k j.0 js),
      members_next (value c.args.depth) c.args.reader.now k l.reader s r before j.0 l.invariant.1 key j.1 (fewer c.args.depth s r j.0 j.1),
      λ uses P covers listed keeps js rest.
          l.invariant.2 uses P covers (covers_old uses l.used used k j.0 j.2 listed) (λ q has. keeps q (noted.kept q has)) (member k j.0 js)
          (quiet_left_out P (format_with c.args.table.now uses) rows k j.0 js (λ left. (j.3 (left_quiet P loud k quiet noted.noted keeps left)).0 uses covers listed) rest),
      λ P keeps js full. l.invariant.3 P (λ q has. keeps q (noted.kept q has)) (member k j.0 js) (full_next P k j.0 js (λ left. (j.3 (left_quiet P loud k quiet noted.noted keeps left)).1) full),
      used_next l.used used k j.0 before j.2 l.invariant.4,
      λ n js has. l.invariant.5 n (member k j.0 js) (still_has n k j.0 js has),
      seen_next rows l.seen c.note_seen.new.seen c.place_of-place.result k j.0 before c.place_of-place.ensures c.note_seen.ensures l.invariant.5 l.invariant.6,
      λ P. further P k j.0 before l.count c.in_ok-count.count c.in_ok-count.ensures (l.invariant.7 P),
      λ P. reach_next P l.loud loud rows k j.0 before c.in_ok-count.count l.reach c.is_kept.result quiet c.reach_of-reach.result c.is_kept.ensures c.reach_of-reach.ensures noted.noted noted.same (further P k j.0 before l.count c.in_ok-count.count c.in_ok-count.ensures (l.invariant.7 P)) (l.invariant.8 P),
    )

pub returns : goal.returns
returns c =
    let l = c.members in
    let rows = c.args.rows.now in
    let r = c.next_key.new.self in
    let over : read_key l.reader ≡ Some (None, r) = grind arith in
    let before = l.invariant.0 in
    let js = before no_members in (
      js,
      members_close (value c.args.depth) c.args.reader.now l.reader r before l.invariant.1 over,
      record {
        told = λ uses P covers listed keeps. l.invariant.2 uses P covers listed keeps no_members (quiet_no_members (told_left_out P (format_with c.args.table.now uses) rows));
        lists = λ P keeps. l.invariant.3 P keeps no_members (no_lists P);
        used = used_end l.used before l.invariant.4;
        reach = λ P only. l.invariant.8 P only no_members tt;
        whole = λ yes.
            let both = both_of c.has_all.result (not c.is_target.result) yes in
            let target : is_target rows ≡ false = grind (arith, is_not c.is_target.result both.1) in
            (rows_are_there js rows l.seen (c.has_all.ensures both.0).0 (l.invariant.6 no_members), target);
      },
    )
