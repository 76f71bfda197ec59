-- A value, an item or a member in front of others without notices.
use Rattle.std.proofs.Common.{◌≡◌, ◌<◌, ◌==◌, [], ◌∷◌, length, Some, None, true, option_map, refl, sym, ap, ◌∙◌, subst, arith}
use Rattle.std.specs.Prelude.{◌&&◌, codes, if◌then◌else◌, is_none}
use Rattle.std.specs.BTreeSet.{contains_text}
use Rattle.json.specs.Token.{Token}
use Rattle.json.specs.Json as tree
use Rattle.json.specs.Json.{after_end_array, item, member, no_items, no_members, parse_map, read_key, value}
use Rattle.json.specs.Reads.{token_of}
use Rattle.json.proofs.Grammar.{read_key-shorter, value_is, value-begin_array, value-begin_object}
use Rattle.serde_json.specs.Data as json
use Rattle.gltf_schema.specs.declared.outline.Shape.TheVariants.{Whole32, Numbers, Indexes, List as ListOf, Object}
use Rattle.gltf_findings_members.specs.Format.{undeclared_code}
use Rattle.gltf_findings_members.specs.Look.{count_of, format_with, AreQuietListOf, AreQuietMembersOf}
use Rattle.gltf_findings_members.specs.Members.{extension_row}
use Rattle.gltf_findings_members.specs.Noted.{maybe_note}
use Rattle.gltf_findings_members.specs.Quiet.{AreQuietItems, HaveNoRepeats, IsQuiet}
use Rattle.gltf_findings_members.specs.Required.{lacking_code}
use Rattle.gltf_findings_members.specs.Rows.{row_named, unknown_code}
use Rattle.gltf_findings_codes.specs.declared.code.Code.TheVariants.{UndeclaredExtension}
use Rattle.gltf_findings_members.specs.Walk.{extension_members_notices, extension_notice, extensions_notices, member_notices}
use Rattle.gltf_findings_members.proofs.Filled.{as_long, filled, filled_target, not_empty, target_filled}
use Rattle.gltf_findings_members.proofs.Having.{all_names, has_some, names_are_there, names_none, no_names, nothing_seen, now_has, rows_are_there, seen_next, still_has}
use Rattle.gltf_findings_members.proofs.Leaves.{any_quiet, number_quiet, text_quiet, truth_quiet}
use Rattle.gltf_findings_members.proofs.Named.{declared, is_none_of, other_text, row_absent, row_quiet, unknown_extension, unknown_member}
use Rattle.gltf_findings_members.proofs.NoneInObjects.{quiet_no_members}
use Rattle.gltf_findings_members.proofs.NoneInValues.{quiet_attributes, quiet_extension_member, quiet_list, quiet_numbers, quiet_object, quiet_row_member}
use Rattle.gltf_findings_members.proofs.NoneNoted.{array_reads, both as both_none, number_reads, object_reads, quiet_item, quiet_no_items, reads_as}
use Rattle.gltf_findings_members.proofs.Passing.{both_of, fewer, passed}
use Rattle.gltf_findings_members.proofs.Turning.{items_start, items_next, items_close, members_start, members_next, members_close}
use Rattle.gltf_findings_members.proofs.look.+look.Goals as goal

-- ---- values

pub look_after-returns-in_ok-quiet-in-BeginObject : goal.look_after-returns-in_ok-quiet-in-BeginObject
look_after-returns-in_ok-quiet-in-BeginObject t c =
    let depth = c.args.depth in
    let opened = ap (λ k. value depth (token_of k ∷ c.args.reader.now)) c.in-BeginObject.is ∙ value-begin_object depth c.args.reader.now c.if-depth-gt0.true in
    let js = c.in_ok-quiet-in-BeginObject.ensures in
    (tree.object js.0, opened ∙ ap (parse_map tree.object) js.1, js.2)

pub look_after-returns-in_ok-quiet-in-BeginArray : goal.look_after-returns-in_ok-quiet-in-BeginArray
look_after-returns-in_ok-quiet-in-BeginArray t c =
    let depth = c.args.depth in
    let opened = ap (λ k. value depth (token_of k ∷ c.args.reader.now)) c.in-BeginArray.is ∙ value-begin_array depth c.args.reader.now c.if-depth-gt0-2.true in
    let js = c.in_ok-quiet-in-BeginArray.ensures in
    (tree.array js.0, opened ∙ ap (parse_map tree.array) js.1, λ yes. (js.2 yes, all_names c.args.names.now (tree.array js.0) (λ n. array_reads js.0 (λ d. lacking_code n d ≡ None) (λ ds e. refl))))

pub look_after-returns-in-String : goal.look_after-returns-in-String
look_after-returns-in-String t c =
    let s = c.in-String.field-0.now in
    let here : token_of c.args.token ≡ Token.string s = grind arith in
    let shape = option_map (λ s. s.now) c.args.shape in (
      tree.string s,
      ap (λ k. value c.args.depth (k ∷ c.args.reader.now)) here ∙ value_is c.args.depth _,
      λ yes.
          (λ uses covers. text_quiet (format_with c.args.table.now uses) shape s (sym c.may_be_text.ensures ∙ yes), all_names c.args.names.now (tree.string s) (λ n. reads_as (tree.string s) (json.string s) (λ d. lacking_code n d ≡ None) refl refl)),
    )

pub look_after-returns-in-Number : goal.look_after-returns-in-Number
look_after-returns-in-Number t c =
    let s = c.in-Number.text.now in
    let here : token_of c.args.token ≡ Token.number s = grind arith in
    let shape = option_map (λ s. s.now) c.args.shape in (
      tree.number s,
      ap (λ k. value c.args.depth (k ∷ c.args.reader.now)) here ∙ value_is c.args.depth _,
      λ yes. (λ uses covers. number_quiet (format_with c.args.table.now uses) shape s (c.may_be_number.ensures yes), all_names c.args.names.now (tree.number s) (λ n. number_reads s (λ d. lacking_code n d ≡ None) (λ x e. refl))),
    )

pub look_after-returns-in-Bool : goal.look_after-returns-in-Bool
look_after-returns-in-Bool t c =
    let b = c.in-Bool.field-0 in
    let here : token_of c.args.token ≡ Token.boolean b = grind arith in
    let shape = option_map (λ s. s.now) c.args.shape in (
      tree.boolean b,
      ap (λ k. value c.args.depth (k ∷ c.args.reader.now)) here ∙ value_is c.args.depth _,
      λ yes.
          (λ uses covers. truth_quiet (format_with c.args.table.now uses) shape b (sym c.may_be_truth.ensures ∙ yes), all_names c.args.names.now (tree.boolean b) (λ n. reads_as (tree.boolean b) (json.boolean b) (λ d. lacking_code n d ≡ None) refl refl)),
    )

pub look_after-returns-in-Null : goal.look_after-returns-in-Null
look_after-returns-in-Null t c =
    let here : token_of c.args.token ≡ Token.null = grind arith in
    let shape = option_map (λ s. s.now) c.args.shape in (
      tree.null,
      ap (λ k. value c.args.depth (k ∷ c.args.reader.now)) here ∙ value_is c.args.depth _,
      λ yes. (λ uses covers. any_quiet (format_with c.args.table.now uses) shape tree.null (sym c.may_be_any.ensures ∙ yes), all_names c.args.names.now tree.null (λ n. reads_as tree.null json.null (λ d. lacking_code n d ≡ None) refl refl)),
    )

-- ---- lists

pub look_array-returns-in_ok-quiet-in-Some-List : goal.look_array-returns-in_ok-quiet-in-Some-List
look_array-returns-in_ok-quiet-in-Some-List t c =
    let i = c.in-Some-List.item in
    let js = c.in_ok-quiet-in-Some-List.ensures in
    let shape : option_map (λ s. s.now) c.args.shape ≡ Some (ListOf i) = grind arith in (
      js.0,
      js.1,
      λ yes uses covers.
          let f = format_with c.args.table.now uses in
          let quiet = js.2 yes in
          let items = subst (λ s. AreQuietItems f s js.0) c.shape.ensures (quiet.2.0 uses covers) in
          let new = subst (λ s. HaveNoRepeats s js.0) c.shape.ensures quiet.1 in
          subst (λ s. IsQuiet f s (tree.array js.0)) (sym shape) (quiet_list f i js.0 (λ ds read. not_empty js.0 ds quiet.0 read) items new),
    )

pub look_array-returns-in_ok-quiet-in-Some-Numbers : goal.look_array-returns-in_ok-quiet-in-Some-Numbers
look_array-returns-in_ok-quiet-in-Some-Numbers t c =
    let n = c.in-Some-Numbers.count in
    let i = c.in-Some-Numbers.item in
    let js = c.in_ok-quiet-in-Some-Numbers.ensures in
    let shape : option_map (λ s. s.now) c.args.shape ≡ Some (Numbers n i) = grind arith in (
      js.0,
      js.1,
      λ yes uses covers.
          let f = format_with c.args.table.now uses in
          let both = both_of c.in_ok-quiet-in-Some-Numbers.quiet (c.look_items.new.left == 0) yes in
          let items = subst (λ s. AreQuietItems f s js.0) c.shape-in-Some-Numbers.ensures ((js.3 both.0).0 uses covers) in
          let long : count_of js.0 ≡ n = grind (arith, js.2, both.1) in
          subst (λ s. IsQuiet f s (tree.array js.0)) (sym shape) (quiet_numbers f n i js.0 (λ ds read. as_long js.0 ds n long read) items),
    )

pub look_items-items-init : goal.look_items-items-init
look_items-items-init t c = (λ js. js, items_start (value c.args.depth) c.args.reader.now, λ js. refl, λ yes js rest. rest)

pub look_items-items-smaller : goal.look_items-items-smaller
look_items-items-smaller t c =
    let l = c.items in
    let r = c.look.new.reader in
    let going : (after_end_array l.reader ≡ None) × (c.take_end_array.new.self ≡ l.reader) = grind arith in
    let j = c.in_ok-is_quiet.ensures in
    let less = fewer c.args.depth c.take_end_array.new.self r j.0 j.1 in
    let smaller : length r < length l.reader = rw (← going.1) less in
    smaller

pub look_items-items-preserved : goal.look_items-items-preserved
look_items-items-preserved t c =
    let l = c.items in
    let r = c.look.new.reader in
    let going : (after_end_array l.reader ≡ None) × (c.take_end_array.new.self ≡ l.reader) = grind arith in
    let j = c.in_ok-is_quiet.ensures in
    let read : value c.args.depth l.reader ≡ Some (j.0, r) = rw (← going.1) j.1 in
    let before = l.invariant.0 in
    let shape = option_map (λ s. s.now) c.args.shape in (
      λ js. before (item j.0 js),
      items_next (value c.args.depth) c.args.reader.now l.reader r before j.0 l.invariant.1 going.0 read (fewer c.args.depth l.reader r j.0 read),
      λ js. omega (arith, l.invariant.2 (item j.0 js), c.if-left-eq0.false),
      λ yes js rest.
          let both = both_of l.are_quiet c.in_ok-is_quiet.is_quiet yes in
          let here = j.2 both.1 in
          l.invariant.3 both.0 (item j.0 js) (λ uses covers. quiet_item (format_with c.args.table.now uses) shape j.0 js (here.0 uses covers) (rest.0 uses covers), (here.1, rest.1)),
    )

pub look_items-returns : goal.look_items-returns
look_items-returns t c =
    let l = c.items in
    let r = c.take_end_array.new.self in
    let over : after_end_array l.reader ≡ Some r = grind arith in
    (l.invariant.0 no_items, items_close (value c.args.depth) c.args.reader.now l.reader r l.invariant.0 l.invariant.1 over, omega (arith, l.invariant.2 no_items), λ yes. l.invariant.3 yes no_items (λ uses covers. quiet_no_items (format_with c.args.table.now uses) (option_map (λ s. s.now) c.args.shape), tt))

pub look_list-returns-in_ok-quiet-in-Some-Whole32 : goal.look_list-returns-in_ok-quiet-in-Some-Whole32
look_list-returns-in_ok-quiet-in-Some-Whole32 t c =
    let js = c.in_ok-quiet-in-Some-Whole32.ensures in
    let shape : option_map (λ s. s.now) c.args.shape ≡ Some Whole32 = grind arith in
    let none = sym c.is_empty.ensures ∙ c.if-is_empty.true in (
      js.0,
      js.1,
      λ yes.
          let quiet = js.2 yes in
          subst (λ s. AreQuietListOf c.args.table.now s c.args.names.now js.0) (sym shape) (quiet.0, λ at ds read. quiet.1 at 0 ds read, (λ uses covers. quiet.2 (format_with c.args.table.now uses), no_names c.args.names.now js.0 none)),
    )

-- ---- objects

pub look_object-returns-in_ok-quiet-in-Some-Object : goal.look_object-returns-in_ok-quiet-in-Some-Object
look_object-returns-in_ok-quiet-in-Some-Object t c =
    let rows = c.in-Some-Object.rows in
    let keeps = c.in-Some-Object.field-0-1 in
    let js = c.in_ok-quiet-in-Some-Object.ensures in
    let shape : option_map (λ s. s.now) c.args.shape ≡ Some (Object rows keeps) = grind arith in (
      js.0,
      js.1,
      λ yes.
          let quiet = subst (λ rs. AreQuietMembersOf c.args.table.now rs c.args.names.now js.0) c.deref.ensures.value (js.2 yes) in (
            λ uses covers.
                let f = format_with c.args.table.now uses in
                subst (λ s. IsQuiet f s (tree.object js.0)) (sym shape) (quiet_object f rows keeps js.0 (filled_target rows.items js.0 quiet.3) quiet.1 (quiet.0 uses covers)),
            quiet.2,
          ),
    )

pub look_object-returns-in_ok-quiet-in-Some-Indexes : goal.look_object-returns-in_ok-quiet-in-Some-Indexes
look_object-returns-in_ok-quiet-in-Some-Indexes t c =
    let i = c.in-Some-Indexes.field-0-0 in
    let js = c.in_ok-quiet-in-Some-Indexes.ensures in
    let shape : option_map (λ s. s.now) c.args.shape ≡ Some (Indexes i) = grind arith in (
      js.0,
      js.1,
      λ yes.
          let both = both_of c.in_ok-quiet-in-Some-Indexes.quiet c.is_empty.result yes in
          let quiet = js.2 both.0 in (
            λ uses covers.
                let f = format_with c.args.table.now uses in
                subst (λ s. IsQuiet f s (tree.object js.0)) (sym shape) (quiet_attributes f i js.0 (filled js.0 quiet.0) quiet.1),
            names_none c.args.names.now (tree.object js.0) (sym c.is_empty.ensures ∙ both.1),
          ),
    )

pub look_members-members-init : goal.look_members-members-init
look_members-members-init t c = (λ js. js, members_start (value c.args.depth) c.args.reader.now, λ yes js rest. rest, λ n js has. has, nothing_seen 64 c.args.rows.now, λ never js e. absurd (cc))

pub look_members-members-smaller : goal.look_members-members-smaller
look_members-members-smaller t c =
    let l = c.members in
    let s = c.next_key.new.self in
    let r = c.look_member.new.reader in
    let key : read_key l.reader ≡ Some (Some c.in-Some.name.now, s) = grind arith in
    let less = read_key-shorter l.reader (Some c.in-Some.name.now) s key in
    let j = c.in_ok-is_quiet.ensures in
    let lesser = fewer c.args.depth s r j.0 j.1 in
    let smaller : length r < length l.reader = omega (arith, less, lesser) in
    smaller

pub look_members-members-preserved : goal.look_members-members-preserved
look_members-members-preserved t c =
    let l = c.members in
    let rows = c.args.rows.now in
    let k = c.in-Some.name.now in
    let s = c.next_key.new.self in
    let r = c.look_member.new.reader in
    let key : read_key l.reader ≡ Some (Some k, s) = grind arith in
    let j = c.in_ok-is_quiet.ensures in
    let before = l.invariant.0 in (
      λ js. before (member k j.0 js),
      members_next (value c.args.depth) c.args.reader.now k l.reader s r before j.0 l.invariant.1 key j.1 (fewer c.args.depth s r j.0 j.1),
      λ yes js rest.
          let both = both_of l.are_quiet c.in_ok-is_quiet.is_quiet yes in
          l.invariant.2 both.0 (member k j.0 js) (λ uses covers. quiet_row_member (format_with c.args.table.now uses) rows k j.0 js (j.2 both.1 uses covers) (rest uses covers)),
      λ n js has. l.invariant.3 n (member k j.0 js) (still_has n k j.0 js has),
      seen_next rows l.seen c.note_seen.new.seen c.place_of-place.result k j.0 before c.place_of-place.ensures c.note_seen.ensures l.invariant.3 l.invariant.4,
      λ some js. has_some k (before (member k j.0 js)) (l.invariant.3 k (member k j.0 js) (now_has k j.0 js)),
    )

pub look_members-returns : goal.look_members-returns
look_members-returns t c =
    let l = c.members in
    let rows = c.args.rows.now in
    let r = c.next_key.new.self in
    let over : read_key l.reader ≡ Some (None, r) = grind arith in
    let js = l.invariant.0 no_members in (
      js,
      members_close (value c.args.depth) c.args.reader.now l.reader r l.invariant.0 l.invariant.1 over,
      λ yes.
          let last = both_of (l.are_quiet && c.has_all.result) c.is_filled.result yes in
          let first = both_of l.are_quiet c.has_all.result last.0 in
          let all = c.has_all.ensures first.1 in
          let seen = l.invariant.4 no_members in (
            l.invariant.2 first.0 no_members (λ uses covers. quiet_no_members (member_notices (format_with c.args.table.now uses) rows)),
            rows_are_there js rows l.seen all.0 seen,
            names_are_there js rows l.seen c.args.names.now all.1 seen,
            λ target. target_filled l.is_empty rows js (c.is_filled.ensures last.1) target (λ some. l.invariant.5 some no_members),
          ),
    )

pub look_member-returns-in_ok-skip_value-in-None : goal.look_member-returns-in_ok-skip_value-in-None
look_member-returns-in_ok-skip_value-in-None t c =
    let j = passed c.args.depth c.args.reader.now c.skip_value.new.self c.in_ok-skip_value-in-None.ensures.value in
    let row : row_named c.args.name.now c.args.rows.now ≡ None = grind arith in (
      j.0,
      j.1,
      λ yes uses covers at d read.
          let known : unknown_code c.args.rows.now c.args.name.now ≡ None = is_none_of (unknown_code c.args.rows.now c.args.name.now) (grind arith) in
          unknown_member (format_with c.args.table.now uses) c.args.rows.now at c.args.name.now d (other_text c.args.name.now (codes "extensions") c.in_default.not-extensions) (other_text c.args.name.now (codes "extras") c.in_default.not-extras) row known,
    )

pub look_row-returns-then-may_be_any : goal.look_row-returns-then-may_be_any
look_row-returns-then-may_be_any t c =
    let j = passed c.args.depth c.args.reader.now c.skip_value.new.self c.in_ok-skip_value.ensures.value in (
      j.0,
      j.1,
      λ yes uses covers.
          let f = format_with c.args.table.now uses in
          let any = subst (λ s. IsQuiet f s j.0) c.shape-shape.ensures (any_quiet f (option_map (λ s. s.now) c.shape-shape.result) j.0 (sym c.may_be_any.ensures ∙ c.if-may_be_any.true)) in
          row_quiet f c.args.row.now j.0 any,
    )

pub look_row-returns-in-Null : goal.look_row-returns-in-Null
look_row-returns-in-Null t c =
    let here : c.args.reader.now ≡ Token.null ∷ c.next.new.self = grind arith in
    (tree.null, ap (value c.args.depth) here ∙ value_is c.args.depth _, λ yes uses covers at. row_absent (format_with c.args.table.now uses) c.args.row.now at (sym c.may_be_null.ensures ∙ yes))

-- ---- extension objects

pub look_extension-returns : goal.look_extension-returns
look_extension-returns t c =
    let j = c.in_ok-quiet.ensures in
    let n = c.args.name.now in
    let rows = option_map (λ rows. rows.now.items) c.args.rows in (
      j.0,
      j.1,
      λ yes uses covers at d read.
          let f = format_with c.args.table.now uses in
          let both = both_of c.in_ok-quiet.quiet c.is_none-is_declared.result yes in
          let none_given : is_none c.undeclared_code.result ≡ true = grind arith in
          let used : contains_text c.args.table.now.used.now n ≡ true = declared (contains_text c.args.table.now.used.now n) c.undeclared_code.result c.undeclared_code.ensures none_given in
          let none : undeclared_code f n ≡ None = ap (λ b. if b then None else Some UndeclaredExtension) (covers n used) in
          both_none (maybe_note at (undeclared_code f n)) (extension_notice f rows at n d) (ap (maybe_note at) none) (j.2 both.0 uses covers at d read),
    )

pub look_extension_members-members-init : goal.look_extension_members-members-init
look_extension_members-members-init t c = (λ js. js, members_start (value c.args.depth) c.args.reader.now, λ yes js rest. rest)

pub look_extension_members-members-smaller : goal.look_extension_members-members-smaller
look_extension_members-members-smaller t c =
    let l = c.members in
    let s = c.next_key.new.self in
    let r = c.look_extension.new.reader in
    let key : read_key l.reader ≡ Some (Some c.in-Some.name.now, s) = grind arith in
    let less = read_key-shorter l.reader (Some c.in-Some.name.now) s key in
    let j = c.in_ok-is_quiet.ensures in
    let lesser = fewer c.args.depth s r j.0 j.1 in
    let smaller : length r < length l.reader = omega (arith, less, lesser) in
    smaller

pub look_extension_members-members-preserved : goal.look_extension_members-members-preserved
look_extension_members-members-preserved t c =
    let l = c.members in
    let k = c.in-Some.name.now in
    let s = c.next_key.new.self in
    let r = c.look_extension.new.reader in
    let key : read_key l.reader ≡ Some (Some k, s) = grind arith in
    let j = c.in_ok-is_quiet.ensures in
    let before = l.invariant.0 in
    let rows = option_map (λ rows. rows.now.items) c.args.rows in (
      λ js. before (member k j.0 js),
      members_next (value c.args.depth) c.args.reader.now k l.reader s r before j.0 l.invariant.1 key j.1 (fewer c.args.depth s r j.0 j.1),
      λ yes js rest.
          let both = both_of l.are_quiet c.in_ok-is_quiet.is_quiet yes in
          l.invariant.2 both.0 (member k j.0 js) (λ uses covers. quiet_extension_member (format_with c.args.table.now uses) rows k j.0 js (j.2 both.1 uses covers) (rest uses covers)),
    )

pub look_extension_members-returns : goal.look_extension_members-returns
look_extension_members-returns t c =
    let l = c.members in
    let r = c.next_key.new.self in
    let rows = option_map (λ rows. rows.now.items) c.args.rows in
    let over : read_key l.reader ≡ Some (None, r) = grind arith in (
      l.invariant.0 no_members,
      members_close (value c.args.depth) c.args.reader.now l.reader r l.invariant.0 l.invariant.1 over,
      λ yes. l.invariant.2 yes no_members (λ uses covers. quiet_no_members (extension_members_notices (format_with c.args.table.now uses) rows)),
    )

pub look_extensions-returns-in-Null : goal.look_extensions-returns-in-Null
look_extensions-returns-in-Null t c =
    let here : c.args.reader.now ≡ Token.null ∷ c.next.new.self = grind arith in
    let rows = option_map (λ rows. rows.now.items) c.args.rows in (
      tree.null,
      ap (value c.args.depth) here ∙ value_is c.args.depth _,
      λ yes uses covers at. reads_as tree.null json.null (λ d. extensions_notices (format_with c.args.table.now uses) rows at d ≡ []) refl refl,
    )

pub look_extensions-returns-in_ok-quiet-in-BeginObject : goal.look_extensions-returns-in_ok-quiet-in-BeginObject
look_extensions-returns-in_ok-quiet-in-BeginObject t c =
    let depth = c.args.depth in
    let here : c.args.reader.now ≡ Token.begin_object ∷ c.next.new.self = grind arith in
    let rows = option_map (λ rows. rows.now.items) c.args.rows in
    let js = c.in_ok-quiet-in-BeginObject.ensures in (
      tree.object js.0,
      ap (value depth) here ∙ value-begin_object depth c.next.new.self c.if-depth-gt0.true ∙ ap (parse_map tree.object) js.1,
      λ yes uses covers at. object_reads js.0 (λ d. extensions_notices (format_with c.args.table.now uses) rows at d ≡ []) (λ ms e. js.2 yes uses covers at json.no_members ms refl e),
    )

pub look_extension_object-returns-in_ok-quiet-in-None : goal.look_extension_object-returns-in_ok-quiet-in-None
look_extension_object-returns-in_ok-quiet-in-None t c =
    let j = c.in_ok-quiet-in-None.ensures in
    let rows = option_map (λ rows. rows.now.items) c.args.rows in
    let row : extension_row rows c.args.name.now ≡ None = grind arith in
    (j.0, j.1, λ yes uses covers at d read. unknown_extension (format_with c.args.table.now uses) rows at c.args.name.now d row (j.2 yes uses covers d read))
