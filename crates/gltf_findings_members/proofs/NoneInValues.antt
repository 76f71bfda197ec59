-- Objects and lists without notices, by what is in them.
use Rattle.std.proofs.Common.{◌≡◌, ℕ, ◌+◌, List, [], ◌∷◌, ◌++◌, Bool, Option, Some, None, option_map, refl, ap, subst, Vec, Global}
use Rattle.std.specs.Prelude.{option_and_then, slice_get}
use Rattle.json.specs.Json as tree
use Rattle.serde_json.specs.Data.{Data, object, Items, Members, no_members}
use Rattle.serde_json.specs.Data.{item as json_item}
use Rattle.serde_json.specs.Read.{of_json, of_items, of_members}
use Rattle.gltf_base.specs.Steps.{Step, field}
use Rattle.gltf_base.specs.Steps.{item as to_item}
use Rattle.gltf_schema.specs.declared.outline.Member.{Member}
use Rattle.gltf_schema.specs.declared.outline.Shape.TheVariants.{Numbers, Indexes, List as ListOf, Object}
use Rattle.gltf_findings_members.specs.Empty.{empty_object_code}
use Rattle.gltf_findings_members.specs.Format.{Format, undeclared_code}
use Rattle.gltf_findings_members.specs.Lists.{empty_code, length_code, repeat_notices}
use Rattle.gltf_findings_members.specs.Members.{attribute_code, attribute_notices}
use Rattle.gltf_findings_members.specs.Misfits.{index_misfit}
use Rattle.gltf_findings_members.specs.Noted.{maybe_note}
use Rattle.gltf_findings_members.specs.Quiet.{Reading, IsQuiet, AreQuietItems, AreQuietBy, HaveMember, HaveNoRepeats, LacksNone}
use Rattle.gltf_findings_members.specs.Required.{lacking_code, lacking_notices}
use Rattle.gltf_findings_members.specs.Rows.{empty_target_code, is_missing, missing_notices, own_notices}
use Rattle.gltf_findings_members.specs.Walk.{notices, item_notices, member_notice, member_notices, extension_notice, extension_members_notices}
use Rattle.gltf_findings_members.proofs.NoneNoted.{both, array_reads, object_reads}
use Rattle.gltf_findings_members.proofs.NoneInObjects.{quiet_member}

-- ---- one member in front of others

pub quiet_row_member : (f : Format) (rows : List Member) (k : List ℕ) (j : tree.Json) (js : tree.Members) → ((at : List Step) → Reading j (λ d. member_notice f rows at k d ≡ []))
    → AreQuietBy (member_notices f rows) js → AreQuietBy (member_notices f rows) (tree.member k j js)
quiet_row_member f rows = quiet_member (member_notices f rows) (member_notice f rows) (λ at. refl) (λ at n d ms. refl)

pub quiet_extension_member : (f : Format) (rows : Option (List Member)) (k : List ℕ) (j : tree.Json) (js : tree.Members)
    → ((at : List Step) → Reading j (λ d. maybe_note at (undeclared_code f k) ++ extension_notice f rows at k d ≡ []))
    → AreQuietBy (extension_members_notices f rows) js → AreQuietBy (extension_members_notices f rows) (tree.member k j js)
quiet_extension_member f rows = quiet_member (extension_members_notices f rows) (λ at n d. maybe_note at (undeclared_code f n) ++ extension_notice f rows at n d) (λ at. refl) (λ at n d ms. refl)

pub quiet_attribute_member : (k : List ℕ) (j : tree.Json) (js : tree.Members) → ((at : List Step) → Reading j (λ d. maybe_note at (attribute_code k) ++ maybe_note at (index_misfit d) ≡ []))
    → AreQuietBy attribute_notices js → AreQuietBy attribute_notices (tree.member k j js)
quiet_attribute_member = quiet_member attribute_notices (λ at n d. maybe_note at (attribute_code n) ++ maybe_note at (index_misfit d)) (λ at. refl) (λ at n d ms. refl)

-- ---- objects

pub quiet_object : (f : Format) (rows : Vec Member Global) (keeps : Bool) (js : tree.Members)
    → ((ms : Members) → of_members js no_members ≡ Some ms → empty_target_code rows.items ms ≡ None) → LacksNone rows.items (tree.object js) → AreQuietBy (member_notices f rows.items) js
    → IsQuiet f (Some (Object rows keeps)) (tree.object js)
quiet_object f rows keeps js filled lacks quiet l at d read =
    object_reads js (λ x. missing_notices at x rows.items ≡ [] → notices f l (Some (Object rows keeps)) at x ≡ []) (λ ms e missing.
    both (own_notices at rows.items ms (object ms)) (member_notices f rows.items at ms)
    (both (maybe_note at (empty_target_code rows.items ms)) (missing_notices at (object ms) rows.items) (ap (maybe_note at) (filled ms e)) missing)
    (quiet at no_members ms refl e)) d read (lacks at d read)

pub quiet_attributes : (f : Format) (i : ℕ) (js : tree.Members) → ((ms : Members) → of_members js no_members ≡ Some ms → empty_object_code ms ≡ None) → AreQuietBy attribute_notices js
    → IsQuiet f (Some (Indexes i)) (tree.object js)
quiet_attributes f i js filled quiet l at d read =
    object_reads js (λ x. notices f l (Some (Indexes i)) at x ≡ []) (λ ms e.
    both (maybe_note at (empty_object_code ms)) (attribute_notices at ms) (ap (maybe_note at) (filled ms e)) (quiet at no_members ms refl e)) d read

-- ---- lists

pub quiet_list : (f : Format) (i : ℕ) (js : tree.Items) → ((ds : Items) → of_items js ≡ Some ds → empty_code ds ≡ None) → AreQuietItems f (slice_get f.nodes i) js → HaveNoRepeats (slice_get f.nodes i) js
    → IsQuiet f (Some (ListOf i)) (tree.array js)
quiet_list f i js some quiet new l at d read =
    array_reads js (λ x. notices f l (Some (ListOf i)) at x ≡ []) (λ ds e.
    both (maybe_note at (empty_code ds) ++ item_notices f (slice_get f.nodes i) at 0 ds) (repeat_notices (slice_get f.nodes i) at ds)
    (both (maybe_note at (empty_code ds)) (item_notices f (slice_get f.nodes i) at 0 ds) (ap (maybe_note at) (some ds e)) (quiet at 0 ds e))
    (new at ds e)) d read

pub quiet_numbers : (f : Format) (n i : ℕ) (js : tree.Items) → ((ds : Items) → of_items js ≡ Some ds → length_code n ds ≡ None) → AreQuietItems f (slice_get f.nodes i) js
    → IsQuiet f (Some (Numbers n i)) (tree.array js)
quiet_numbers f n i js len quiet l at d read =
    array_reads js (λ x. notices f l (Some (Numbers n i)) at x ≡ []) (λ ds e.
    both (maybe_note at (length_code n ds)) (item_notices f (slice_get f.nodes i) at 0 ds) (ap (maybe_note at) (len ds e)) (quiet at 0 ds e)) d read

-- ---- members that have to be there

pub lacks_row : (m : Member) (ms : List Member) (j : tree.Json) → Reading j (λ d. is_missing d m ≡ None) → LacksNone ms j → LacksNone (m ∷ ms) j
lacks_row m ms j here more at d read = both (maybe_note (at ++ field m.name.now ∷ []) (is_missing d m)) (missing_notices at d ms) (ap (maybe_note (at ++ field m.name.now ∷ [])) (here d read)) (more at d read)

has_next : (n : List ℕ) (at : List Step) (i : ℕ) (ds : Items) (o : Option Data) (p : Option Items) → ((d : Data) → o ≡ Some d → lacking_code n d ≡ None) → ((es : Items) → p ≡ Some es → lacking_notices at n (i + 1) es ≡ [])
    → option_and_then (λ d. option_map (json_item d) p) o ≡ Some ds → lacking_notices at n i ds ≡ []
has_next n at i ds None p here more h = absurd (cc)
has_next n at i ds (Some d) None here more h = absurd (cc)
has_next n at i ds (Some d) (Some es) here more h =
    let same : json_item d es ≡ ds = cc in
    let place = (at ++ to_item i ∷ []) ++ field n ∷ [] in
    subst (λ x. lacking_notices at n i x ≡ []) same (both (maybe_note place (lacking_code n d)) (lacking_notices at n (i + 1) es) (ap (maybe_note place) (here d refl)) (more es refl))

pub item_has : (n : List ℕ) (j : tree.Json) (js : tree.Items) → Reading j (λ d. lacking_code n d ≡ None) → HaveMember n js → HaveMember n (tree.item j js)
item_has n j js here more at i ds read = has_next n at i ds (of_json j) (of_items js) here (λ es e. more at (i + 1) es e) read
