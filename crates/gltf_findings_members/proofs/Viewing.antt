-- What a look sees of the members of a text, said of the value that the text is.
use Rattle.std.proofs.Common.{◌≡◌, ℕ, suc, List, [], ◌∷◌, ◌++◌, Bool, true, false, Option, Some, None, option_map, refl, sym, ap, ◌∙◌, subst, BTreeSet, String, Global, Vec, IsTrue, length, Result, Ok, IfOk}
use Rattle.std.specs.Prelude.{codes, if◌then◌else◌, option_and_then, slice_get}
use Rattle.std.specs.BTreeSet.{contains_text}
use Rattle.json.specs.Lex.{tokens}
use Rattle.json.specs.Token.{Token}
use Rattle.json.specs.Json as tree
use Rattle.json.specs.Json.{members, value}
use Rattle.json.specs.declared.reader.Invalid.{Invalid}
use Rattle.json.specs.Find as in_tree
use Rattle.serde_json.specs.Data.{Data, Members, no_members, member, object}
use Rattle.serde_json.specs.Find.{as_array, get, get_member}
use Rattle.serde_json.specs.Read.{of_json, of_members, read}
use Rattle.gltf_base.specs.Steps.{Step, field}
use Rattle.gltf_schema.specs.declared.outline.Member.{Member}
use Rattle.gltf_schema.specs.declared.outline.Outline.{Outline}
use Rattle.gltf_schema.specs.declared.outline.Shape.TheVariants.{Object}
use Rattle.gltf_findings_members.specs.Document.{AreFullLists, CoversSome, IsUsedIn, KeepsLoud, SeesMembers}
use Rattle.gltf_findings_members.specs.Empty.{empty_object_code}
use Rattle.gltf_findings_members.specs.First.{AreRows, has_name, SeesText, SeesValue, TellsSame}
use Rattle.gltf_findings_members.specs.Format.{Format}
use Rattle.gltf_findings_members.specs.Kept.{excerpt}
use Rattle.gltf_findings_members.specs.LeftOut.{KeepsNeeded, LeavesOutFull, LeavesOutFullLists, told_left_out}
use Rattle.gltf_findings_members.specs.Look.{Covers, format_with}
use Rattle.gltf_findings_members.specs.Noted.{maybe_note}
use Rattle.gltf_findings_members.specs.Notices.{all_notices, format_for}
use Rattle.gltf_findings_members.specs.Required.{lacking_in, required_in, required_notices}
use Rattle.gltf_findings_members.specs.Rows.{empty_target_code, is_needed, is_target, missing_notices, own_notices}
use Rattle.gltf_findings_members.specs.Seen.{AllHave}
use Rattle.gltf_findings_members.specs.Uses.{is_in, uses}
use Rattle.gltf_findings_members.specs.Walk.{member_notice, member_notices, notices}
use Rattle.gltf_findings_members.specs.declared.document.Seen.{Seen}
use Rattle.gltf_findings_members.specs.declared.table.Table.{Table}
use Rattle.gltf_schema.proofs.Turns.{converted_some}
use Rattle.gltf_findings_members.proofs.Keeping.{object_read}
use Rattle.gltf_findings_members.proofs.Excerpted.{get_excerpt, same_notices}
use Rattle.gltf_findings_members.proofs.NoneInObjects.{Leads, leads}
use Rattle.gltf_findings_members.proofs.NoneNoted.{both}

-- ---- a list of the document, by the member of the tree

list_full : (n : List ℕ) (o : Option tree.Json) (at : List Step) (list : List ℕ) (ms : Members) → Leads list o None ms → ((j : tree.Json) → o ≡ Some j → AllHave n j) → lacking_in at n (option_and_then as_array (get_member list ms)) ≡ []
list_full n None at list ms leads have = ap (λ x. lacking_in at n (option_and_then as_array x)) leads
list_full n (Some j) at list ms leads have = ap (λ x. lacking_in at n (option_and_then as_array x)) leads.2 ∙ have j refl at leads.0 leads.1

full : (P : List ℕ → Bool) (js : tree.Members) (ms : Members) (list n : List ℕ) → of_members js no_members ≡ Some ms → (P list ≡ false → (j : tree.Json) → in_tree.get_member list js ≡ Some j → AllHave n j) → LeavesOutFull P list n (object ms)
full P js ms list n read have left = list_full n (in_tree.get_member list js) (field list ∷ []) list ms (leads list js no_members ms read) (have left)

full_lists : (P : List ℕ → Bool) (js : tree.Members) (ms : Members) → of_members js no_members ≡ Some ms → AreFullLists P js → LeavesOutFullLists P (object ms)
full_lists P js ms read all = (
  full P js ms (codes "animations") (codes "channels") read (λ left j found. ((all (codes "animations") j left found).0 refl).0),
  full P js ms (codes "animations") (codes "samplers") read (λ left j found. ((all (codes "animations") j left found).0 refl).1),
  full P js ms (codes "buffers") (codes "byteLength") read (λ left j found. (all (codes "buffers") j left found).1 refl),
  full P js ms (codes "skins") (codes "joints") read (λ left j found. (all (codes "skins") j left found).2 refl),
)

-- ---- the list of used extensions

used_is : (u : Option (BTreeSet (String Global))) (js : tree.Members) (ms : Members) (q : List ℕ) → of_members js no_members ≡ Some ms → IsUsedIn u js → has_name u q ≡ uses (object ms) q
used_is None js ms q read used =
    let none : get_member (codes "extensionsUsed") ms ≡ None = subst (λ o. Leads (codes "extensionsUsed") o None ms) used (leads (codes "extensionsUsed") js no_members ms read) in
    sym (ap (λ x. is_in q (option_and_then as_array x)) none)
used_is (Some s) js ms q read used =
    let found : (d : Data) × (of_json used.0 ≡ Some d) × (get_member (codes "extensionsUsed") ms ≡ Some d) =
    subst (λ o. Leads (codes "extensionsUsed") o None ms) used.1 (leads (codes "extensionsUsed") js no_members ms read) in
    used.2 found.0 found.1 q ∙ sym (ap (λ x. is_in q (option_and_then as_array x)) found.2)

covers_some : (u : Option (BTreeSet (String Global))) (names : List ℕ → Bool) → ((q : List ℕ) → has_name u q ≡ names q) → CoversSome names u
covers_some None names same = tt
covers_some (Some s) names same = λ q has. sym (same q) ∙ has

-- ---- all of it

object_is : (js : tree.Members) (ms : Members) → of_members js no_members ≡ Some ms → of_json (tree.object js) ≡ Some (object ms)
object_is js ms read = ap (option_map object) read

pub sees_value : (t : Table) (rows : List Member) (s : Seen) (js : tree.Members) (ms : Members) (d : Data) → d ≡ object ms → of_members js no_members ≡ Some ms → Covers (uses d) t → SeesMembers t rows s js → SeesValue (format_with t (uses d)) rows s d
sees_value t rows s js ms d is read covers sees =
    let used = λ (q : List ℕ). used_is s.used js ms q read sees.used ∙ ap (λ x. uses x q) (sym is) in
    record {
      members = ms;
      is = is;
      told = λ P keeps. sees.told (uses d) P covers (covers_some s.used (uses d) used) keeps [] no_members ms refl read;
      lists = λ P keeps. subst (LeavesOutFullLists P) (sym is) (full_lists P js ms read (sees.lists P keeps));
      used = used;
      whole = λ yes. (λ at. subst (λ x. missing_notices at x rows ≡ []) (sym is) ((sees.whole yes).0 at (object ms) (object_is js ms read)), (sees.whole yes).1);
    }

pub some_first : (a b : tree.Members) (r q : List Token) → ◌≡◌ {A = Option (tree.Members × List Token)} (Some (a, r)) (Some (b, q)) → a ≡ b
some_first a b r q e = ap first_of e
  where
    first_of : Option (tree.Members × List Token) → tree.Members
    first_of None = a
    first_of (Some p) = p.0

pub sees_text : (t : Table) (rows : List Member) (s : Seen) (text : List ℕ) (ts rest : List Token) (r : Result Seen Invalid) (d : Data) → tokens text ≡ Token.begin_object ∷ ts → read text ≡ Some d → r ≡ Ok s
    → IfOk r (λ seen. (js : tree.Members) × (members (value 126) (length ts) ts ≡ Some (js, rest)) × SeesMembers t rows seen js) → Covers (uses d) t → SeesValue (format_with t (uses d)) rows s d
sees_text t rows s text ts rest r d opens is ok sees covers =
    let got = object_read text ts d opens is in
    let held = converted_some (λ js. of_members js no_members) (members (value 126) (length ts) ts) got.0 [] got.1 in
    let seen = subst (λ o. IfOk o (λ seen. (js : tree.Members) × (members (value 126) (length ts) ts ≡ Some (js, rest)) × SeesMembers t rows seen js)) ok sees in
    let same : held.0 ≡ seen.0 = some_first held.0 seen.0 [] rest (sym held.1 ∙ seen.1) in
    sees_value t rows s seen.0 got.0 d got.2 (subst (λ x. of_members x no_members ≡ Some got.0) same held.2) covers seen.2

-- ---- a text without notices

told_all : (f : Format) (rows : List Member) (at : List Step) (ms : Members) → told_left_out (λ n. false) f rows at ms ≡ member_notices f rows at ms
told_all f rows at no_members = refl
told_all f rows at (member n d ms) = ap (λ xs. member_notice f rows (at ++ field n ∷ []) n d ++ xs) (told_all f rows at ms)

no_target : (rows : List Member) (ms : Members) → is_target rows ≡ false → empty_target_code rows ms ≡ None
no_target rows ms no_row = ap (λ b. if b then empty_object_code ms else None) no_row

none_required : (d : Data) → LeavesOutFullLists (λ n. false) d → required_notices [] d ≡ []
none_required d lists =
    let in_list = λ (list n : List ℕ). required_in [] list n d in
    let first = both (in_list (codes "animations") (codes "channels")) (in_list (codes "animations") (codes "samplers")) (lists.0 refl) (lists.1 refl) in
    let second = both (in_list (codes "animations") (codes "channels") ++ in_list (codes "animations") (codes "samplers")) (in_list (codes "buffers") (codes "byteLength")) first (lists.2 refl) in
    both (in_list (codes "animations") (codes "channels") ++ in_list (codes "animations") (codes "samplers") ++ in_list (codes "buffers") (codes "byteLength")) (in_list (codes "skins") (codes "joints")) second (lists.3 refl)

none_in_object : (f : Format) (held : Vec Member Global) (keeps : Bool) (s : Seen) (d : Data) → SeesValue f held.items s d → IsTrue s.is_whole → ((q : List ℕ) → contains_text s.loud q ≡ false)
    → notices f false (Some (Object held keeps)) [] d ++ required_notices [] d ≡ []
none_in_object f held keeps s d sees whole quiet =
    let rows = held.items in
    let keeps_none : KeepsLoud (λ n. false) s.loud = λ q has. sym (quiet q) ∙ has in
    let ms = sees.members in
    let whole_rows = sees.whole whole in
    let missing : missing_notices [] (object ms) rows ≡ [] = subst (λ x. missing_notices [] x rows ≡ []) sees.is (whole_rows.0 []) in
    let own : own_notices [] rows ms (object ms) ≡ [] = both (maybe_note [] (empty_target_code rows ms)) (missing_notices [] (object ms) rows) (ap (maybe_note []) (no_target rows ms whole_rows.1)) missing in
    let told : member_notices f rows [] ms ≡ [] = sym (told_all f rows [] ms) ∙ sees.told (λ n. false) keeps_none in
    let here : notices f false (Some (Object held keeps)) [] (object ms) ≡ [] = both (own_notices [] rows ms (object ms)) (member_notices f rows [] ms) own told in
    both (notices f false (Some (Object held keeps)) [] d) (required_notices [] d) (subst (λ x. notices f false (Some (Object held keeps)) [] x ≡ []) (sym sees.is) here) (none_required d (sees.lists (λ n. false) keeps_none))

pub quiet_text : (o : Outline) (rows : List Member) (text : List ℕ) (s : Seen) → AreRows o rows → SeesText o rows text s → IsTrue s.is_whole → ((q : List ℕ) → contains_text s.loud q ≡ false) → (d : Data) → read text ≡ Some d
    → all_notices o.nodes.items o.root d ≡ []
quiet_text o rows text s are sees whole quiet d is =
    let f = format_for o.nodes.items d in
    let value : SeesValue f are.0.items s d = subst (λ rs. SeesValue f rs s d) are.3 (sees d is) in
    ap (λ shape. notices f false shape [] d ++ required_notices [] d) are.2 ∙ none_in_object f are.0 are.1 s d value whole quiet

-- ---- an excerpt

same_object : (P : List ℕ → Bool) (o : Outline) (held : Vec Member Global) (keeps : Bool) (s : Seen) (d : Data) → slice_get o.nodes.items o.root ≡ Some (Object held keeps) → SeesValue (format_for o.nodes.items d) held.items s d → is_target held.items ≡ false
    → KeepsLoud P s.loud → P (codes "extensionsUsed") ≡ true → KeepsNeeded P held.items → all_notices o.nodes.items o.root (excerpt P d) ≡ all_notices o.nodes.items o.root d
same_object P o held keeps s d shape sees target loud used needed =
    let ms = sees.members in
    let lists = subst (LeavesOutFullLists P) sees.is (sees.lists P loud) in
    let told = subst (λ x. told_left_out P (format_for o.nodes.items x) held.items [] ms ≡ []) sees.is (sees.told P loud) in
    subst (λ x. all_notices o.nodes.items o.root (excerpt P x) ≡ all_notices o.nodes.items o.root x) (sym sees.is) (same_notices P o.nodes.items o.root held keeps ms shape target used needed lists told)

pub excerpt_tells : (P : List ℕ → Bool) (o : Outline) (rows : List Member) (text : List ℕ) (s : Seen) (v : Data) → AreRows o rows → SeesText o rows text s → is_target rows ≡ false → KeepsLoud P s.loud → P (codes "extensionsUsed") ≡ true
    → P (codes "asset") ≡ true → KeepsNeeded P rows → (d : Data) → read text ≡ Some d → v ≡ excerpt P d → TellsSame o v d
excerpt_tells P o rows text s v are sees target loud used asset needed d is same =
    let f = format_for o.nodes.items d in
    let value : SeesValue f are.0.items s d = subst (λ rs. SeesValue f rs s d) are.3 (sees d is) in
    let told = same_object P o are.0 are.1 s d are.2 value (subst (λ rs. is_target rs ≡ false) are.3 target) loud used (subst (KeepsNeeded P) are.3 needed) in
    (ap (all_notices o.nodes.items o.root) same ∙ told, ap (get (codes "asset")) same ∙ get_excerpt P (codes "asset") d asset)

-- ---- rows that are kept

pub needed_kept : (P : List ℕ → Bool) (rows : List Member) → ((i : ℕ) (m : Member) → slice_get rows i ≡ Some m → is_needed m ≡ true → P m.name.now ≡ true) → KeepsNeeded P rows
needed_kept P [] each = tt
needed_kept P (m ∷ ms) each = (each 0 m refl, needed_kept P ms (λ i. each (suc i)))
