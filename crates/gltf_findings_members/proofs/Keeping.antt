-- Members kept while they are read. Of a member that is passed, a value is known only if the whole is read.
use Rattle.std.proofs.Common.{◌≡◌, ℕ, zero, suc, subst, ◌-◌, ◌<◌, ◌≤◌, List, [], ◌∷◌, length, Bool, true, false, if◌then◌else◌, Option, Some, None, option_map, option_and_then, nat_cmp, refl, sym, ap, ◌∙◌, Ordering, Less, Equal, Greater, arith}
use Rattle.std.specs.Cmp.Lexicographic.{slice_cmp}
use Rattle.std.specs.Ordering.{match_ordering}
use Rattle.json.specs.Token.{Token}
use Rattle.json.specs.Lex.{tokens}
use Rattle.json.specs.Json as tree
use Rattle.json.specs.Json.{Json, parse_map, read_key, members, value, skip_value, if_last}
use Rattle.json.proofs.Grammar.{left_some, members_more, skip_value-shorter, value-begin_object}
use Rattle.serde_json.specs.Data.{Data, object, Members, no_members, member, put}
use Rattle.serde_json.specs.Read.{of_json, of_members, converted, read}
use Rattle.gltf_schema.proofs.InOrder.{NamesAbove, InOrder, put_before}
use Rattle.gltf_schema.proofs.OthersPut.{InOrder-put}
use Rattle.gltf_schema.proofs.PuttingIn.{same_name}
use Rattle.gltf_schema.proofs.Turns.{converted_some, member_read, members_over}
use Rattle.gltf_findings_members.specs.Kept.{kept, HasMembers, LeavesBehind, Takes}

-- ---- one member more

NamesAbove-kept : (P : List ℕ → Bool) (k : List ℕ) (ms : Members) → NamesAbove k ms → NamesAbove k (kept P ms)
NamesAbove-kept P k no_members h = tt
NamesAbove-kept P k (member l e ms) h = at (P l) h (NamesAbove-kept P k ms h.1)
  where
    at : (t : Bool) → NamesAbove k (member l e ms) → NamesAbove k (kept P ms) → NamesAbove k (if t then member l e (kept P ms) else kept P ms)
    at true h later = (h.0, later)
    at false h later = later

in_place : (t : Bool) (k l : List ℕ) (d e : Data) (left : Members) → slice_cmp nat_cmp k l ≡ Equal
    → (if t then member l d left else left) ≡ (if t then put k d (if t then member l e left else left) else (if t then member l e left else left))
in_place true k l d e left tied = rw tied refl
in_place false k l d e left tied = refl

behind : (t u : Bool) (k l : List ℕ) (d e : Data) (left : Members) → slice_cmp nat_cmp k l ≡ Greater
    → (if u then member l e (if t then put k d left else left) else (if t then put k d left else left)) ≡ (if t then put k d (if u then member l e left else left) else (if u then member l e left else left))
behind true true k l d e left is = rw is refl
behind true false k l d e left is = refl
behind false true k l d e left is = refl
behind false false k l d e left is = refl

kept_put_at : (o : Ordering) (P : List ℕ → Bool) (k l : List ℕ) (d e : Data) (ms : Members) → slice_cmp nat_cmp k l ≡ o → InOrder (member l e ms) → kept P (put k d ms) ≡ (if P k then put k d (kept P ms) else kept P ms)
    → kept P (match_ordering o (member k d (member l e ms)) (member l d ms) (member l e (put k d ms))) ≡ (if P k then put k d (kept P (member l e ms)) else kept P (member l e ms))
kept_put_at Less P k l d e ms is h later =
    let first : InOrder (member k d (member l e ms)) = rw is at (InOrder-put k d (member l e ms) h) in
    ap (λ x. if P k then x else kept P (member l e ms)) (sym (put_before k d (kept P (member l e ms)) (NamesAbove-kept P k (member l e ms) first.0)))
kept_put_at Equal P k l d e ms is h later =
    let tied : k ≡ l = same_name k l is in
    in_place (P l) k l d e (kept P ms) is ∙ ap (λ x. if P x then put k d (kept P (member l e ms)) else kept P (member l e ms)) (sym tied)
kept_put_at Greater P k l d e ms is h later =
    ap (λ x. if P l then member l e x else x) later ∙ behind (P k) (P l) k l d e (kept P ms) is

-- what is put under a name is put among those that are kept, or is not kept
pub kept_put : (P : List ℕ → Bool) (k : List ℕ) (d : Data) (ms : Members) → InOrder ms → kept P (put k d ms) ≡ (if P k then put k d (kept P ms) else kept P ms)
kept_put P k d no_members h = refl
kept_put P k d (member l e ms) h = kept_put_at (slice_cmp nat_cmp k l) P k l d e ms refl h (kept_put P k d ms h.1)

-- ---- a turn over tokens

pub passed : (t : Bool) (depth : ℕ) (n : List ℕ) (ts rest : List Token) (old new : Members) → Takes t depth n ts rest old new → skip_value depth ts ≡ Some rest
passed true depth n ts rest old new h = let j = converted_some of_json (value depth ts) h.0 rest h.1 in ap (option_map (λ p. p.1)) j.1
passed false depth n ts rest old new h = h.0

pub shorter : (t : Bool) (depth : ℕ) (n : List ℕ) (ts rest : List Token) (old new : Members) → Takes t depth n ts rest old new → length rest < length ts
shorter t depth n ts rest old new h = skip_value-shorter depth ts rest (passed t depth n ts rest old new h)

-- what is read with a member that was passed
passed_member : (k : List ℕ) (j : Json) (o : Option (tree.Members × List Token)) (acc ms : Members) (rest : List Token)
    → converted (λ js. of_members js acc) (parse_map (tree.member k j) o) ≡ Some (ms, rest) → (d : Data) × (converted (λ js. of_members js (put k d acc)) o ≡ Some (ms, rest))
passed_member k j None acc ms rest e = absurd cc
passed_member k j (Some p) acc ms rest e = by (of_json j) e
  where
    by : (o : Option Data) → option_map {U = Members × List Token} (λ b. (b, p.1)) (option_and_then (λ d. of_members p.0 (put k d acc)) o) ≡ Some (ms, rest)
        → (d : Data) × (option_map {U = Members × List Token} (λ b. (b, p.1)) (of_members p.0 (put k d acc)) ≡ Some (ms, rest))
    by None e = absurd cc
    by (Some d) e = (d, e)

abbrev first : Option (Members × List Token) → Members
first None = no_members
first (Some p) = p.0

module _ (P : List ℕ → Bool) (depth : ℕ) (ms : Members) (rest : List Token) where
  -- of the members that are ms, acc were read so far, and `found` holds those of them that are kept
  abbrev pub IsAhead : List Token → ℕ → Members → Type 0
  IsAhead ts n found = (acc : Members) × InOrder acc × (found ≡ kept P acc) × (converted (λ js. of_members js acc) (members (value depth) n ts) ≡ Some (ms, rest))

  pub ahead_more : (n : ℕ) (k : List ℕ) (ts s r : List Token) (old new : Members) → 0 < n → read_key ts ≡ Some (Some k, s) → Takes (P k) depth k s r old new → IsAhead ts n old → IsAhead r (n - 1) new
  ahead_more n k ts s r old new some key h ahead = by (P k) refl h
    where
      acc : Members
      acc = ahead.0

      by : (t : Bool) → P k ≡ t → Takes t depth k s r old new → IsAhead r (n - 1) new
      by true is h = (
        put k h.0 acc,
        InOrder-put k h.0 acc ahead.1,
        h.2 ∙ ap (put k h.0) ahead.2 ∙ ap (λ t. if t then put k h.0 (kept P acc) else kept P acc) (sym is) ∙ sym (kept_put P k h.0 acc ahead.1),
        sym (member_read (value depth) acc n k ts s r h.0 some key h.1) ∙ ahead.3,
      )
      by false is h =
          let j = left_some (value depth s) r h.0 in
          let d = passed_member k j.0 (members (value depth) (n - 1) r) acc ms rest (sym (ap (converted (λ js. of_members js acc)) (members_more (value depth) n k ts s r j.0 some key j.1)) ∙ ahead.3) in (
            put k d.0 acc,
            InOrder-put k d.0 acc ahead.1,
            h.1 ∙ ahead.2 ∙ ap (λ t. if t then put k d.0 (kept P acc) else kept P acc) (sym is) ∙ sym (kept_put P k d.0 acc ahead.1),
            d.1,
          )

  pub ahead_end : (n : ℕ) (ts r : List Token) (found : Members) → length ts ≤ n → read_key ts ≡ Some (None, r) → IsAhead ts n found → found ≡ kept P ms
  ahead_end n ts r found enough over ahead =
      let end = members_over (value depth) ahead.0 n ts r enough over in
      ahead.2 ∙ ap (λ o. kept P (first o)) (sym end ∙ ahead.3)

  -- of the members that are left none is kept
  none_left : (js : tree.Members) (acc : Members) → LeavesBehind P zero js → InOrder acc → of_members js acc ≡ Some ms → kept P ms ≡ kept P acc
  none_left tree.no_members acc left h e = let same : acc ≡ ms = cc in ap (kept P) (sym same)
  none_left (tree.member k j js) acc left h e = by (of_json j) (λ d read. none_left js (put k d acc) left.1 (InOrder-put k d acc h) read) e
    where
      by : (o : Option Data) → ((d : Data) → of_members js (put k d acc) ≡ Some ms → kept P ms ≡ kept P (put k d acc)) → option_and_then (λ d. of_members js (put k d acc)) o ≡ Some ms → kept P ms ≡ kept P acc
      by None more e = absurd cc
      by (Some d) more e = more d e ∙ kept_put P k d acc h ∙ ap (λ t. if t then put k d (kept P acc) else kept P acc) left.0

  pub ahead_left : (n : ℕ) (ts : List Token) (found : Members) → ((js : tree.Members) (r : List Token) → members (value depth) n ts ≡ Some (js, r) → LeavesBehind P zero js) → IsAhead ts n found → found ≡ kept P ms
  ahead_left n ts found leaves ahead =
      let held = converted_some (λ js. of_members js ahead.0) (members (value depth) n ts) ms rest ahead.3 in
      ahead.2 ∙ sym (none_left held.0 ahead.0 (leaves held.0 rest held.1) ahead.1 held.2)

-- ---- members in turn, of which the last are left out

one_fewer : (P : List ℕ → Bool) (left : ℕ) (k : List ℕ) (j : Json) (js : tree.Members) → 0 < left → LeavesBehind P left (tree.member k j js) → LeavesBehind P (left - 1) js
one_fewer P zero k j js some h = let never : ⊥ = omega (arith, some) in absurd never
one_fewer P (suc n) k j js some h = let e : n ≡ suc n - 1 = omega arith in subst (λ x. LeavesBehind P x js) e h

pub leaves_more : (P : List ℕ → Bool) (depth n left : ℕ) (k : List ℕ) (ts s r : List Token) → 0 < n → 0 < left → read_key ts ≡ Some (Some k, s) → skip_value depth s ≡ Some r
    → ((js : tree.Members) (rest : List Token) → members (value depth) n ts ≡ Some (js, rest) → LeavesBehind P left js) → (js : tree.Members) (rest : List Token) → members (value depth) (n - 1) r ≡ Some (js, rest) → LeavesBehind P (left - 1) js
leaves_more P depth n left k ts s r some more key skip leaves js rest read =
    let j = left_some (value depth s) r skip in
    one_fewer P left k j.0 js more (leaves (tree.member k j.0 js) rest (members_more (value depth) n k ts s r j.0 some key j.1 ∙ ap (parse_map (tree.member k j.0)) read))

-- ---- a text that is an object

pub object_read : (text : List ℕ) (ts : List Token) (d : Data) → tokens text ≡ Token.begin_object ∷ ts → read text ≡ Some d → (ms : Members) × HasMembers 126 ts ms [] × (d ≡ object ms)
object_read text ts d opens is =
    let whole = ap (λ o. option_and_then of_json (option_and_then (λ p. if_last p.0 p.1) o)) (ap (value 127) opens ∙ value-begin_object 127 ts (omega arith)) in
    by (members (value 126) (length ts) ts) (sym whole ∙ is)
  where
    at_end : (o : Option Members) → option_map object o ≡ Some d → (ms : Members) × (option_map {U = Members × List Token} (λ b. (b, [])) o ≡ Some (ms, [])) × (d ≡ object ms)
    at_end None e = absurd cc
    at_end (Some ms) e = (ms, refl, let same : d ≡ object ms = cc in same)

    by : (o : Option (tree.Members × List Token)) → option_and_then of_json (option_and_then (λ p. if_last p.0 p.1) (parse_map tree.object o)) ≡ Some d
        → (ms : Members) × (converted (λ js. of_members js no_members) o ≡ Some (ms, [])) × (d ≡ object ms)
    by None e = absurd cc
    by (Some (js, [])) e = at_end (of_members js no_members) e
    by (Some (js, t ∷ rest)) e = absurd cc
