-- Members of a document in turn: what was seen of them, and of the list of used extensions.
use Rattle.std.proofs.Common.{◌≡◌, ℕ, List, [], Bool, true, false, cond, Option, Some, None, refl, sym, ap, ◌∙◌, subst, bytes_eq, BTreeSet, String, Global}
use Rattle.std.specs.Prelude.{if◌then◌else◌, codes}
use Rattle.std.proofs.lemmas.Slice.Eq.{bytes_eq-Decides}
use Rattle.std.specs.BTreeSet.{contains_text}
use Rattle.json.specs.Json as tree
use Rattle.json.specs.Find.{later_or, get_member}
use Rattle.serde_json.specs.Data.{Data}
use Rattle.serde_json.specs.Read.{of_json}
use Rattle.gltf_base.specs.Steps.{Step}
use Rattle.gltf_schema.specs.declared.outline.Member.{Member}
use Rattle.gltf_findings_members.specs.Document.{AreFullLists, CoversSome, IsUsedIn, KeepsLoud, UsedNext}
use Rattle.gltf_findings_members.specs.Format.{Format}
use Rattle.gltf_findings_members.specs.LeftOut.{told_left_out}
use Rattle.gltf_findings_members.specs.Noted.{Noted}
use Rattle.gltf_findings_members.specs.Quiet.{AreQuietBy, Reading}
use Rattle.gltf_findings_members.specs.Seen.{AreUsed, IsFullList, ListsUsed}
use Rattle.gltf_findings_members.specs.Walk.{member_notice}
use Rattle.gltf_findings_members.proofs.NoneInObjects.{quiet_member}

-- ---- the list of used extensions

-- the names so far are those of the list, if it came
abbrev pub UsedFrom : Option (BTreeSet (String Global)) → (tree.Members → tree.Members) → Type 0
UsedFrom None before = (js : tree.Members) → get_member (codes "extensionsUsed") (before js) ≡ get_member (codes "extensionsUsed") js
UsedFrom (Some s) before = (j : tree.Json) × AreUsed s j × ((js : tree.Members) → get_member (codes "extensionsUsed") js ≡ None → get_member (codes "extensionsUsed") (before js) ≡ Some j)

later_none : (o : Option tree.Json) → later_or o None ≡ o
later_none None = refl
later_none (Some j) = refl

-- the member in front has the name, or doesn't
in_front : (k n : List ℕ) (j : tree.Json) (js : tree.Members) (b : Bool) → bytes_eq k n ≡ b → get_member n (tree.member k j js) ≡ later_or (get_member n js) (cond b (Some j) None)
in_front k n j js b is = ap (λ c. later_or (get_member n js) (cond c (Some j) None)) is

differs : (k n : List ℕ) → bytes_eq k n ≡ false → k ≡ n → ⊥
differs k n apart same = let same_bytes : bytes_eq k n ≡ true = (bytes_eq-Decides k n).1 same in absurd (cc)

listed_next : (old new : Option (BTreeSet (String Global))) (k : List ℕ) (j : tree.Json) (before : tree.Members → tree.Members) → bytes_eq k (codes "extensionsUsed") ≡ true → ListsUsed old j new → UsedFrom old before
    → UsedFrom new (λ js. before (tree.member k j js))
listed_next None None k j before is lists from = absurd lists
listed_next None (Some s) k j before is lists from =
    (j, lists, λ js none. from (tree.member k j js) ∙ in_front k (codes "extensionsUsed") j js true is ∙ ap (λ o. later_or o (Some j)) none)
listed_next (Some s) None k j before is lists from = absurd lists
listed_next (Some s) (Some r) k j before is lists from = absurd lists

kept_next : (used : Option (BTreeSet (String Global))) (k : List ℕ) (j : tree.Json) (before : tree.Members → tree.Members) → bytes_eq k (codes "extensionsUsed") ≡ false → UsedFrom used before → UsedFrom used (λ js. before (tree.member k j js))
kept_next None k j before apart from = λ js. from (tree.member k j js) ∙ in_front k (codes "extensionsUsed") j js false apart ∙ later_none (get_member (codes "extensionsUsed") js)
kept_next (Some s) k j before apart from =
    (from.0, from.1, λ js none. from.2 (tree.member k j js) (in_front k (codes "extensionsUsed") j js false apart ∙ later_none (get_member (codes "extensionsUsed") js) ∙ none))

pub used_next : (old new : Option (BTreeSet (String Global))) (k : List ℕ) (j : tree.Json) (before : tree.Members → tree.Members) → UsedNext k j old new → UsedFrom old before → UsedFrom new (λ js. before (tree.member k j js))
used_next old new k j before next from = by (bytes_eq k (codes "extensionsUsed")) refl
  where
    by : (b : Bool) → bytes_eq k (codes "extensionsUsed") ≡ b → UsedFrom new (λ js. before (tree.member k j js))
    by true e = listed_next old new k j before e (next.0 ((bytes_eq-Decides k (codes "extensionsUsed")).0 e)) from
    by false e = subst (λ u. UsedFrom u (λ js. before (tree.member k j js))) (sym (next.1 (differs k (codes "extensionsUsed") e))) (kept_next old k j before e from)

pub used_end : (used : Option (BTreeSet (String Global))) (before : tree.Members → tree.Members) → UsedFrom used before → IsUsedIn used (before tree.no_members)
used_end None before from = from tree.no_members
used_end (Some s) before from = (from.0, from.2 tree.no_members refl, from.1)

covers_listed : (uses : List ℕ → Bool) (old new : Option (BTreeSet (String Global))) (j : tree.Json) → ListsUsed old j new → CoversSome uses old
covers_listed uses None new j lists = tt
covers_listed uses (Some s) None j lists = absurd lists
covers_listed uses (Some s) (Some r) j lists = absurd lists

pub covers_old : (uses : List ℕ → Bool) (old new : Option (BTreeSet (String Global))) (k : List ℕ) (j : tree.Json) → UsedNext k j old new → CoversSome uses new → CoversSome uses old
covers_old uses old new k j next covers = by (bytes_eq k (codes "extensionsUsed")) refl
  where
    by : (b : Bool) → bytes_eq k (codes "extensionsUsed") ≡ b → CoversSome uses old
    by true e = covers_listed uses old new j (next.0 ((bytes_eq-Decides k (codes "extensionsUsed")).0 e))
    by false e = subst (CoversSome uses) (next.1 (differs k (codes "extensionsUsed") e)) covers

-- ---- a member in front

abbrev left_out : (List ℕ → Bool) → Format → List Member → List Step → List ℕ → Data → List Noted
left_out P f rows at n d = if P n then [] else member_notice f rows at n d

pub quiet_left_out : (P : List ℕ → Bool) (f : Format) (rows : List Member) (k : List ℕ) (j : tree.Json) (js : tree.Members) → (P k ≡ false → (at : List Step) → Reading j (λ d. member_notice f rows at k d ≡ []))
    → AreQuietBy (told_left_out P f rows) js → AreQuietBy (told_left_out P f rows) (tree.member k j js)
quiet_left_out P f rows k j js here rest = quiet_member (told_left_out P f rows) (left_out P f rows) (λ at. refl) (λ at n d ms. refl) k j js (λ at d read. by (P k) refl at d read) rest
  where
    by : (b : Bool) → P k ≡ b → (at : List Step) (d : Data) → of_json j ≡ Some d → (if b then [] else member_notice f rows at k d) ≡ []
    by true e at d read = refl
    by false e at d read = here e at d read

pub full_next : (P : List ℕ → Bool) (k : List ℕ) (j : tree.Json) (js : tree.Members) → (P k ≡ false → IsFullList k j) → AreFullLists P js → AreFullLists P (tree.member k j js)
full_next P k j js here rest n i left found = by (get_member n js) (bytes_eq k n) refl refl found
  where
    by : (o : Option tree.Json) (b : Bool) → get_member n js ≡ o → bytes_eq k n ≡ b → later_or o (cond b (Some j) None) ≡ Some i → IsFullList n i
    by (Some x) b e same is = rest n i left (e ∙ is)
    by None true e same is =
        let named : k ≡ n = (bytes_eq-Decides k n).0 same in
        let value : j ≡ i = cc in
        subst (λ x. IsFullList n x) value (subst (λ x. IsFullList x j) named (here (ap P named ∙ left)))
    by None false e same is = absurd (cc)

pub no_lists : (P : List ℕ → Bool) → AreFullLists P tree.no_members
no_lists P n j left found = absurd (cc)

-- a member whose name is left out has no notices
pub left_quiet : (P : List ℕ → Bool) (loud : BTreeSet (String Global)) (k : List ℕ) (quiet : Bool) → (quiet ≡ false → contains_text loud k ≡ true) → KeepsLoud P loud → P k ≡ false → quiet ≡ true
left_quiet P loud k true noted keeps left = refl
left_quiet P loud k false noted keeps left = let never : true ≡ false = sym (keeps k (noted refl)) ∙ left in absurd (cc)

-- the list of used extensions is none of those whose items have to have members
pub not_full : (n : List ℕ) (j : tree.Json) → n ≡ codes "extensionsUsed" → IsFullList n j
not_full n j is = (
  λ e. absurd (differs (codes "extensionsUsed") (codes "animations") refl (sym is ∙ e)),
  λ e. absurd (differs (codes "extensionsUsed") (codes "buffers") refl (sym is ∙ e)),
  λ e. absurd (differs (codes "extensionsUsed") (codes "skins") refl (sym is ∙ e)),
)
