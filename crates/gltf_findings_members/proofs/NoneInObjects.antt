-- Members in turn: those that have no notices, and the member of a name.
use Rattle.std.proofs.Common.{◌≡◌, ℕ, List, [], ◌∷◌, ◌++◌, Bool, true, false, cond, Option, Some, None, option_map, refl, sym, ap, ◌∙◌, subst, is_eq, bytes_eq, Ordering, Less, Equal, Greater}
use Rattle.std.specs.Prelude.{◌&&◌, if◌then◌else◌, is_some, is_none, option_and_then}
use Rattle.std.specs.Cmp.Lexicographic.{slice_cmp}
use Rattle.std.specs.Ordering.{nat_cmp, match_ordering}
use Rattle.std.proofs.lemmas.Map.Text.{is_eq-slice_cmp}
use Rattle.std.proofs.lemmas.Slice.Eq.{bytes_eq-Decides}
use Rattle.json.specs.Json as tree
use Rattle.json.specs.Find as in_tree
use Rattle.json.specs.Find.{later_or}
use Rattle.serde_json.specs.Data.{Data, object, Members, no_members, member, put}
use Rattle.serde_json.specs.Find.{get, get_member, as_object}
use Rattle.serde_json.specs.Read.{of_json, of_members}
use Rattle.serde_json.proofs.Views.{get_member-put, get_member-put_other}
use Rattle.gltf_base.specs.Steps.{Step, field}
use Rattle.gltf_schema.specs.declared.outline.Member.{Member}
use Rattle.gltf_findings_codes.specs.declared.code.Code.TheVariants.{UndefinedProperty}
use Rattle.gltf_findings_members.specs.Empty.{empty_object_code}
use Rattle.gltf_findings_members.specs.Noted.{Noted}
use Rattle.gltf_findings_members.specs.Quiet.{Reading, AreQuietBy}
use Rattle.gltf_findings_members.specs.Required.{lacking_code}
use Rattle.gltf_findings_members.specs.Rows.{is_missing, is_needed}
use Rattle.gltf_findings_members.proofs.NoneNoted.{both, first_none, rest_none}

alike : (k l : List ℕ) → slice_cmp nat_cmp k l ≡ Equal → k ≡ l
alike k l is = (bytes_eq-Decides k l).0 (sym (is_eq-slice_cmp k l) ∙ ap is_eq is)

differs : (k n : List ℕ) → bytes_eq k n ≡ false → n ≡ k → ⊥
differs k n apart same = let yes : bytes_eq k n ≡ true = (bytes_eq-Decides k n).1 (sym same) in absurd (cc)

-- ---- notices that are told of each member in turn

pub quiet_no_members : (told : List Step → Members → List Noted) → AreQuietBy told tree.no_members
quiet_no_members told at old ms quiet read = let same : old ≡ ms = cc in subst (λ x. told at x ≡ []) same quiet

module _ (told : List Step → Members → List Noted) (each : List Step → List ℕ → Data → List Noted)
    (none : (at : List Step) → told at no_members ≡ [])
    (more : (at : List Step) (n : List ℕ) (d : Data) (ms : Members) → told at (member n d ms) ≡ each (at ++ field n ∷ []) n d ++ told at ms) where
  parts : (at : List Step) (n : List ℕ) (d : Data) (ms : Members) → told at (member n d ms) ≡ [] → (each (at ++ field n ∷ []) n d ≡ []) × (told at ms ≡ [])
  parts at n d ms quiet =
      let all = sym (more at n d ms) ∙ quiet in
      (first_none (each (at ++ field n ∷ []) n d) (told at ms) all, rest_none (each (at ++ field n ∷ []) n d) (told at ms) all)

  whole : (at : List Step) (n : List ℕ) (d : Data) (ms : Members) → each (at ++ field n ∷ []) n d ≡ [] → told at ms ≡ [] → told at (member n d ms) ≡ []
  whole at n d ms here there = more at n d ms ∙ both (each (at ++ field n ∷ []) n d) (told at ms) here there

  quiet_put_at : (o : Ordering) (at : List Step) (k l : List ℕ) (d e : Data) (ms : Members) → slice_cmp nat_cmp k l ≡ o
      → each (at ++ field k ∷ []) k d ≡ [] → told at (member l e ms) ≡ [] → told at (put k d ms) ≡ []
      → told at (match_ordering o (member k d (member l e ms)) (member l d ms) (member l e (put k d ms))) ≡ []
  quiet_put_at Less at k l d e ms is here old later = whole at k d (member l e ms) here old
  quiet_put_at Equal at k l d e ms is here old later = whole at l d ms (subst (λ x. each (at ++ field x ∷ []) x d ≡ []) (alike k l is) here) (parts at l e ms old).1
  quiet_put_at Greater at k l d e ms is here old later = whole at l e (put k d ms) (parts at l e ms old).0 later

  quiet_put : (at : List Step) (k : List ℕ) (d : Data) (ms : Members) → each (at ++ field k ∷ []) k d ≡ [] → told at ms ≡ [] → told at (put k d ms) ≡ []
  quiet_put at k d no_members here old = whole at k d no_members here old
  quiet_put at k d (member l e ms) here old = quiet_put_at (slice_cmp nat_cmp k l) at k l d e ms refl here old (quiet_put at k d ms here (parts at l e ms old).1)

  pub quiet_member : (k : List ℕ) (j : tree.Json) (js : tree.Members) → ((at : List Step) → Reading j (λ d. each at k d ≡ [])) → AreQuietBy told js → AreQuietBy told (tree.member k j js)
  quiet_member k j js here there at old ms quiet read = by (of_json j) refl read
    where
      by : (o : Option Data) → of_json j ≡ o → option_and_then (λ d. of_members js (put k d old)) o ≡ Some ms → told at ms ≡ []
      by None e h = absurd (cc)
      by (Some d) e h = there at (put k d old) ms (quiet_put at k d old (here (at ++ field k ∷ []) d e) quiet) h

-- ---- the member of a name

-- what a name leads to in the members that are read, by what it leads to in those of the tree
abbrev pub Leads : List ℕ → Option tree.Json → Option Data → Members → Type 0
Leads n None before ms = get_member n ms ≡ before
Leads n (Some j) before ms = (d : Data) × (of_json j ≡ Some d) × (get_member n ms ≡ Some d)

leads_here : (n k : List ℕ) (j : tree.Json) (d : Data) (later : Option tree.Json) (b : Bool) (old ms : Members) → of_json j ≡ Some d → bytes_eq k n ≡ b
    → Leads n later (get_member n (put k d old)) ms → Leads n (later_or later (cond b (Some j) None)) (get_member n old) ms
leads_here n k j d (Some x) b old ms read is h = h
leads_here n k j d None true old ms read is h = let same : k ≡ n = (bytes_eq-Decides k n).0 is in (d, read, h ∙ subst (λ x. get_member x (put k d old) ≡ Some d) same (get_member-put k d old))
leads_here n k j d None false old ms read is h = h ∙ get_member-put_other n k d old (differs k n is)

leads_next : (n k : List ℕ) (j : tree.Json) (js : tree.Members) (old ms : Members) (o : Option Data) → of_json j ≡ o
    → ((d : Data) → of_members js (put k d old) ≡ Some ms → Leads n (in_tree.get_member n js) (get_member n (put k d old)) ms)
    → option_and_then (λ d. of_members js (put k d old)) o ≡ Some ms → Leads n (in_tree.get_member n (tree.member k j js)) (get_member n old) ms
leads_next n k j js old ms None e later h = absurd (cc)
leads_next n k j js old ms (Some d) e later h = leads_here n k j d (in_tree.get_member n js) (bytes_eq k n) old ms e refl (later d h)

pub leads : (n : List ℕ) (js : tree.Members) (old ms : Members) → of_members js old ≡ Some ms → Leads n (in_tree.get_member n js) (get_member n old) ms
leads n tree.no_members old ms read = let same : old ≡ ms = cc in subst (λ x. get_member n x ≡ get_member n old) same refl
leads n (tree.member k j js) old ms read = leads_next n k j js old ms (of_json j) refl (λ d h. leads n js (put k d old) ms h) read

-- ---- a value and the tree that it is read from

-- what a name leads to in an object that is read
pub leads_in : (n : List ℕ) (js : tree.Members) (d : Data) → of_json (tree.object js) ≡ Some d → (ms : Members) × (d ≡ object ms) × Leads n (in_tree.get_member n js) None ms
leads_in n js d read = by (of_members js no_members) refl read
  where
    by : (o : Option Members) → of_members js no_members ≡ o → option_map object o ≡ Some d → (ms : Members) × (d ≡ object ms) × Leads n (in_tree.get_member n js) None ms
    by None e h = absurd (cc)
    by (Some ms) e h = let same : d ≡ object ms = cc in (ms, same, leads n js no_members ms e)

given_at : (n : List ℕ) (o : Option tree.Json) (j : tree.Json) (ms : Members) → o ≡ Some j → Leads n o None ms → (d : Data) × (of_json j ≡ Some d) × (get_member n ms ≡ Some d)
given_at n o j ms is h = subst (λ x. Leads n x None ms) is h

-- what is found in a tree is found in the value
pub found : (n : List ℕ) (j k : tree.Json) (d : Data) → of_json j ≡ Some d → in_tree.get n j ≡ Some k → (e : Data) × (of_json k ≡ Some e) × (get n d ≡ Some e)
found n tree.null k d read is = absurd (cc)
found n (tree.boolean b) k d read is = absurd (cc)
found n (tree.number s) k d read is = absurd (cc)
found n (tree.string s) k d read is = absurd (cc)
found n (tree.array js) k d read is = absurd (cc)
found n (tree.object js) k d read is =
    let r = leads_in n js d read in
    let e = given_at n (in_tree.get_member n js) k r.0 is r.2 in
    (e.0, e.1, ap (get n) r.1 ∙ e.2)

-- ---- a member that is there

without : {X : Type 0} (b : Bool) (x : Option X) → (if b && false then x else None) ≡ None
without true x = refl
without false x = refl

pub not_lacking : (n : List ℕ) (d e : Data) → get n d ≡ Some e → lacking_code n d ≡ None
not_lacking n d e is = ap (λ o. if is_some (as_object d) && is_none o then Some UndefinedProperty else None) is ∙ without (is_some (as_object d)) (Some UndefinedProperty)

pub not_missing : (m : Member) (d e : Data) → get m.name.now d ≡ Some e → is_missing d m ≡ None
not_missing m d e is = ap (λ o. if is_needed m && is_none o then Some UndefinedProperty else None) is ∙ without (is_needed m) (Some UndefinedProperty)

-- ---- an object that has members

put_fills_at : (o : Ordering) (k l : List ℕ) (d e : Data) (ms : Members) → empty_object_code (match_ordering o (member k d (member l e ms)) (member l d ms) (member l e (put k d ms))) ≡ None
put_fills_at Less k l d e ms = refl
put_fills_at Equal k l d e ms = refl
put_fills_at Greater k l d e ms = refl

put_fills : (k : List ℕ) (d : Data) (ms : Members) → empty_object_code (put k d ms) ≡ None
put_fills k d no_members = refl
put_fills k d (member l e ms) = put_fills_at (slice_cmp nat_cmp k l) k l d e ms

stays_next : (k : List ℕ) (js : tree.Members) (old ms : Members) (o : Option Data) → ((d : Data) → of_members js (put k d old) ≡ Some ms → empty_object_code ms ≡ None)
    → option_and_then (λ d. of_members js (put k d old)) o ≡ Some ms → empty_object_code ms ≡ None
stays_next k js old ms None later h = absurd (cc)
stays_next k js old ms (Some d) later h = later d h

stays_filled : (js : tree.Members) (old ms : Members) → empty_object_code old ≡ None → of_members js old ≡ Some ms → empty_object_code ms ≡ None
stays_filled tree.no_members old ms filled read = let same : old ≡ ms = cc in subst (λ x. empty_object_code x ≡ None) same filled
stays_filled (tree.member k j js) old ms filled read = stays_next k js old ms (of_json j) (λ d h. stays_filled js (put k d old) ms (put_fills k d old) h) read

pub one_fills : (k : List ℕ) (j : tree.Json) (js : tree.Members) (ms : Members) → of_members (tree.member k j js) no_members ≡ Some ms → empty_object_code ms ≡ None
one_fills k j js ms read = stays_next k js no_members ms (of_json j) (λ d h. stays_filled js (put k d no_members) ms (put_fills k d no_members) h) read
