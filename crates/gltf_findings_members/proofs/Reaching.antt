-- Of a document's members those that an excerpt keeps are among the first.
use Rattle.std.proofs.Common.{◌≡◌, ◌⊎◌, inl, inr, ℕ, zero, suc, ◌+◌, ◌<◌, List, ◌∷◌, length, Bool, true, false, Some, refl, sym, ap, ◌∙◌, subst, bytes_eq, get_or, [], BTreeSet, String, Global, Result, Ok, IfOk, arith}
use Rattle.std.specs.Prelude.{◌||◌, ◌&&◌, if◌then◌else◌, codes, slice_get}
use Rattle.std.proofs.lemmas.Bool.{cases_eq}
use Rattle.std.proofs.lemmas.Option.{slice_get-get_or}
use Rattle.std.proofs.lemmas.Slice.Eq.{bytes_eq-Decides}
use Rattle.std.specs.BTreeSet.{contains_text}
use Rattle.json.specs.Json as tree
use Rattle.json.specs.Json.{members, value}
use Rattle.json.specs.Lex.{tokens}
use Rattle.json.specs.Token.{Token}
use Rattle.json.specs.declared.reader.Invalid.{Invalid}
use Rattle.gltf_schema.specs.declared.outline.Member.{Member}
use Rattle.gltf_findings_members.specs.Document.{is_fixed, is_kept, is_needed_name, KeepsOnly, SeesMembers}
use Rattle.gltf_findings_members.specs.First.{ReachesKept}
use Rattle.gltf_findings_members.specs.Kept.{LeavesBehind}
use Rattle.gltf_findings_members.specs.Rows.{is_needed}
use Rattle.gltf_findings_members.specs.declared.document.Seen.{Seen}
use Rattle.gltf_findings_members.specs.declared.table.Table.{Table}
use Rattle.gltf_findings_members.proofs.Having.{same_row}
use Rattle.gltf_findings_members.proofs.Viewing.{some_first}

-- ---- one of two

or_left : (a b : Bool) → a ≡ true → (a || b) ≡ true
or_left a b h = ap (λ x. x || b) h

or_right : (a b : Bool) → b ≡ true → (a || b) ≡ true
or_right true b h = refl
or_right false b h = h

one_of : (a b : Bool) → (a || b) ≡ true → (a ≡ true) ⊎ (b ≡ true)
one_of true b h = inl refl
one_of false b h = inr h

turned : (a b : List ℕ) → bytes_eq a b ≡ true → bytes_eq b a ≡ true
turned a b h = (bytes_eq-Decides b a).1 (sym ((bytes_eq-Decides a b).0 h))

-- ---- members in turn

-- those behind more members are further behind
pub further : (P : List ℕ → Bool) (k : List ℕ) (j : tree.Json) (before : tree.Members → tree.Members) (count more : ℕ) → more ≡ count + 1
    → ((n : ℕ) (js : tree.Members) → LeavesBehind P n js → LeavesBehind P (count + n) (before js)) → (n : ℕ) (js : tree.Members) → LeavesBehind P n js → LeavesBehind P (more + n) (before (tree.member k j js))
further P k j before count more is all n js left =
    let same : count + suc n ≡ more + n = omega (arith, is) in
    subst (λ x. LeavesBehind P x (before (tree.member k j js))) same (all (suc n) (tree.member k j js) left)

module _ (P : List ℕ → Bool) (loud loud' : BTreeSet (String Global)) (rows : List Member) (k : List ℕ) (j : tree.Json) (before : tree.Members → tree.Members) (count reach : ℕ) where
  same_names : ((q : List ℕ) → contains_text loud' q ≡ contains_text loud q) → KeepsOnly P loud' rows → KeepsOnly P loud rows
  same_names same only q has = ap (λ b. b || is_fixed rows q) (sym (same q)) ∙ only q has

  left_at : (b : Bool) → P k ≡ b → is_kept loud' rows k ≡ false → KeepsOnly P loud' rows → P k ≡ false
  left_at false is none only = is
  left_at true is none only = let never : true ≡ false = sym (only k is) ∙ none in absurd (cc)

  quiet_at : (quiet : Bool) → (quiet ≡ false → contains_text loud' k ≡ true) → is_kept loud' rows k ≡ false → quiet ≡ true
  quiet_at true noted none = refl
  quiet_at false noted none = let never : true ≡ false = sym (or_left (contains_text loud' k) (is_fixed rows k) (noted refl)) ∙ none in absurd (cc)

  at : (kept quiet : Bool) → kept ≡ is_kept loud' rows k → (quiet ≡ false → contains_text loud' k ≡ true) → ((q : List ℕ) → quiet ≡ true → contains_text loud' q ≡ contains_text loud q)
      → ((n : ℕ) (js : tree.Members) → LeavesBehind P n js → LeavesBehind P (count + n) (before (tree.member k j js)))
      → (KeepsOnly P loud rows → (js : tree.Members) → LeavesBehind P zero js → LeavesBehind P reach (before js))
      → KeepsOnly P loud' rows → (js : tree.Members) → LeavesBehind P zero js → LeavesBehind P (if kept then count else reach) (before (tree.member k j js))
  at true quiet is noted same all old only js left = let all_of : count + 0 ≡ count = omega arith in subst (λ x. LeavesBehind P x (before (tree.member k j js))) all_of (all zero js left)
  at false quiet is noted same all old only js left =
      let none = sym is in
      let quiet_is = quiet_at quiet noted none in
      old (same_names (λ q. same q quiet_is) only) (tree.member k j js) (left_at (P k) refl none only, left)

  pub reach_next : (kept quiet : Bool) (reach' : ℕ) → kept ≡ is_kept loud' rows k → reach' ≡ (if kept then count else reach) → (quiet ≡ false → contains_text loud' k ≡ true) → ((q : List ℕ) → quiet ≡ true → contains_text loud' q ≡ contains_text loud q)
      → ((n : ℕ) (js : tree.Members) → LeavesBehind P n js → LeavesBehind P (count + n) (before (tree.member k j js)))
      → (KeepsOnly P loud rows → (js : tree.Members) → LeavesBehind P zero js → LeavesBehind P reach (before js))
      → KeepsOnly P loud' rows → (js : tree.Members) → LeavesBehind P zero js → LeavesBehind P reach' (before (tree.member k j js))
  reach_next kept quiet reach' is reached noted same all old only js left = subst (λ x. LeavesBehind P x (before (tree.member k j js))) (sym reached) (at kept quiet is noted same all old only js left)

-- ---- the text

same_tokens : (t : Token) (ts rs : List Token) → t ∷ ts ≡ t ∷ rs → ts ≡ rs
same_tokens t ts rs e = cc

pub reaches_text : (t : Table) (rows : List Member) (s : Seen) (text : List ℕ) (ts rest : List Token) (r : Result Seen Invalid) → tokens text ≡ Token.begin_object ∷ ts → r ≡ Ok s
    → IfOk r (λ seen. (js : tree.Members) × (members (value 126) (length ts) ts ≡ Some (js, rest)) × SeesMembers t rows seen js) → ReachesKept rows text s
reaches_text t rows s text ts rest r opens ok sees P only ts' opens' js rest' read =
    let seen = subst (λ o. IfOk o (λ seen. (js : tree.Members) × (members (value 126) (length ts) ts ≡ Some (js, rest)) × SeesMembers t rows seen js)) ok sees in
    let same_ts : ts' ≡ ts = same_tokens Token.begin_object ts' ts (sym opens' ∙ opens) in
    let here = subst (λ x. members (value 126) (length x) x ≡ Some (js, rest')) same_ts read in
    let same : seen.0 ≡ js = some_first seen.0 js rest rest' (sym seen.1 ∙ here) in
    subst (λ x. LeavesBehind P s.reach x) same (seen.2.reach P only)

-- ---- names that are kept

pub needed_at : (rows : List Member) (i : ℕ) (m : Member) (q : List ℕ) → slice_get rows i ≡ Some m → is_needed m ≡ true → bytes_eq m.name.now q ≡ true → is_needed_name rows q ≡ true
needed_at [] i m q here needed named = absurd (cc)
needed_at (x ∷ xs) zero m q here needed named =
    let same : x ≡ m = cc in
    let both : (is_needed x && bytes_eq x.name.now q) ≡ true = subst (λ (y : Member). (is_needed y && bytes_eq y.name.now q) ≡ true) (sym same) (ap (λ b. b && bytes_eq m.name.now q) needed ∙ named) in
    or_left (is_needed x && bytes_eq x.name.now q) (is_needed_name xs q) both
needed_at (x ∷ xs) (suc i) m q here needed named = or_right (is_needed x && bytes_eq x.name.now q) (is_needed_name xs q) (needed_at xs i m q here needed named)

-- a name more is that of a row
pub one_more_needed : (rows : List Member) (i : ℕ) (d : Member) (q : List ℕ) (first before now : Bool) → i < length rows → is_needed (get_or rows i d) ≡ true → (before ≡ true → (first || is_needed_name rows q) ≡ true)
    → now ≡ (before || bytes_eq (get_or rows i d).name.now q) → now ≡ true → (first || is_needed_name rows q) ≡ true
one_more_needed rows i d q first before now less needed old is has = by (one_of before (bytes_eq (get_or rows i d).name.now q) (sym is ∙ has))
  where
    by : ((before ≡ true) ⊎ (bytes_eq (get_or rows i d).name.now q ≡ true)) → (first || is_needed_name rows q) ≡ true
    by (inl there) = old there
    by (inr named) = or_right first (is_needed_name rows q) (needed_at rows i (get_or rows i d) q (slice_get-get_or rows i d less) needed named)

-- the names of one row more are kept
pub needed_step : (rows : List Member) (i : ℕ) (d : Member) (P Q : List ℕ → Bool) → i < length rows → ((q : List ℕ) → P q ≡ true → Q q ≡ true) → (is_needed (get_or rows i d) ≡ true → Q (get_or rows i d).name.now ≡ true)
    → ((k : ℕ) (m : Member) → k < i → slice_get rows k ≡ Some m → is_needed m ≡ true → P m.name.now ≡ true) → (k : ℕ) (m : Member) → k < i + 1 → slice_get rows k ≡ Some m → is_needed m ≡ true → Q m.name.now ≡ true
needed_step rows i d P Q less keeps here old k m within at needed = elim (cases_eq k i) [
  | inl same ↦
      let there : slice_get rows k ≡ Some (get_or rows i d) = subst (λ n. slice_get rows n ≡ Some (get_or rows i d)) (sym same) (slice_get-get_or rows i d less) in
      let row : get_or rows i d ≡ m = same_row rows k (get_or rows i d) m there at in
      subst (λ (x : Member). Q x.name.now ≡ true) row (here (subst (λ (x : Member). is_needed x ≡ true) (sym row) needed))
  | inr other ↦ keeps m.name.now (old k m (let before : k < i = omega (arith, within, other) in before) at needed)
]

pub kept_only : (loud : BTreeSet (String Global)) (rows : List Member) (q : List ℕ) (one two all : Bool) → one ≡ (contains_text loud q || bytes_eq (codes "extensionsUsed") q) → two ≡ (one || bytes_eq (codes "asset") q)
    → (all ≡ true → (two || is_needed_name rows q) ≡ true) → all ≡ true → is_kept loud rows q ≡ true
kept_only loud rows q one two all first second third has = by (one_of two needed (third has))
  where
    needed : Bool
    needed = is_needed_name rows q

    used : Bool
    used = bytes_eq q (codes "extensionsUsed")

    asset : Bool
    asset = bytes_eq q (codes "asset")

    fixed : is_fixed rows q ≡ true → is_kept loud rows q ≡ true
    fixed h = or_right (contains_text loud q) (is_fixed rows q) h

    by_first : ((contains_text loud q ≡ true) ⊎ (bytes_eq (codes "extensionsUsed") q ≡ true)) → is_kept loud rows q ≡ true
    by_first (inl h) = or_left (contains_text loud q) (is_fixed rows q) h
    by_first (inr h) = fixed (or_left used (asset || needed) (turned (codes "extensionsUsed") q h))

    by_second : ((one ≡ true) ⊎ (bytes_eq (codes "asset") q ≡ true)) → is_kept loud rows q ≡ true
    by_second (inl h) = by_first (one_of (contains_text loud q) (bytes_eq (codes "extensionsUsed") q) (sym first ∙ h))
    by_second (inr h) = fixed (or_right used (asset || needed) (or_left asset needed (turned (codes "asset") q h)))

    by : ((two ≡ true) ⊎ (needed ≡ true)) → is_kept loud rows q ≡ true
    by (inl h) = by_second (one_of one (bytes_eq (codes "asset") q) (sym second ∙ h))
    by (inr h) = fixed (or_right used (asset || needed) (or_right asset needed h))
