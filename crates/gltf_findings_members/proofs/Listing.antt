-- Lists of which more is wanted than their rows say.
use Rattle.std.proofs.Common.{◌≡◌, ℕ, List, [], Bool, true, false, Option, Some, None, option_map, refl, sym, ap, ◌∙◌, subst, bytes_eq, Global}
use Rattle.std.specs.Prelude.{◌||◌, codes, slice_get, String}
use Rattle.std.specs.BTreeSet.{BTreeSet, contains_text}
use Rattle.std.proofs.lemmas.Slice.Eq.{bytes_eq-Decides}
use Rattle.json.specs.Json as tree
use Rattle.serde_json.specs.Data.{string, Items, item, no_items}
use Rattle.serde_json.specs.Find.{as_array}
use Rattle.serde_json.specs.Read.{of_items}
use Rattle.gltf_base.specs.Steps.{Step}
use Rattle.gltf_schema.specs.declared.outline.Member.{Member}
use Rattle.gltf_schema.specs.declared.outline.Shape.TheVariants.{Text, List as ListOf}
use Rattle.gltf_findings_members.specs.Format.{Format}
use Rattle.gltf_findings_members.specs.Look.{Beside, format_with}
use Rattle.gltf_findings_members.specs.Quiet.{AreQuietItems, HaveMember, HaveNoRepeats, IsQuiet, Reading}
use Rattle.gltf_findings_members.specs.Required.{lacking_code, lacking_in, lacking_notices}
use Rattle.gltf_findings_members.specs.Rows.{row_named}
use Rattle.gltf_findings_members.specs.Seen.{AllHave, AreTexts, AreUsed, IsFullList, IsQuietRow}
use Rattle.gltf_findings_members.specs.Uses.{has_text, is_in}
use Rattle.gltf_findings_members.specs.Walk.{member_notice}
use Rattle.gltf_findings_members.specs.declared.table.Table.{Table}
use Rattle.gltf_findings_members.proofs.Filled.{not_empty}
use Rattle.gltf_findings_members.proofs.Named.{member_of_row}
use Rattle.gltf_findings_members.proofs.NoneInValues.{item_has, quiet_list}
use Rattle.gltf_findings_members.proofs.NoneNoted.{array_reads}

-- ---- texts in turn

-- the texts of all items are those that were found and those of the items that are left
abbrev pub EndsIn : (List ℕ → Bool) → tree.Items → Items → Type 0
EndsIn has js all = (ds : Items) × (of_items js ≡ Some ds) × ((q : List ℕ) → (has q || has_text q ds) ≡ has_text q all)

pub none_found : (has : List ℕ → Bool) → ((q : List ℕ) → has q ≡ false) → (js : tree.Items) (all : Items) → of_items js ≡ Some all → EndsIn has js all
none_found has none js all read = (all, read, λ q. ap (λ b. b || has_text q all) (none q))

or_or : (a b c : Bool) → ((a || b) || c) ≡ (a || (b || c))
or_or true b c = refl
or_or false b c = refl

or_false : (a : Bool) → (a || false) ≡ a
or_false true = refl
or_false false = refl

found_one : (old new : List ℕ → Bool) (t : List ℕ) (all : Items) (js : tree.Items) → ((q : List ℕ) → new q ≡ (old q || bytes_eq t q)) → EndsIn old (tree.item (tree.string t) js) all → EndsIn new js all
found_one old new t all js added ends = by (of_items js) refl ends.1
  where
    by : (o : Option Items) → of_items js ≡ o → option_map (item (string t)) o ≡ Some ends.0 → EndsIn new js all
    by None e h = absurd (cc)
    by (Some es) e h =
        let same : item (string t) es ≡ ends.0 = cc in (
          es,
          e,
          λ q. ap (λ b. b || has_text q es) (added q) ∙ or_or (old q) (bytes_eq t q) (has_text q es) ∙ ap (λ ds. old q || has_text q ds) same ∙ ends.2 q,
        )

pub found_text : (old new : List ℕ → Bool) (t : List ℕ) (before : tree.Items → tree.Items) → ((q : List ℕ) → new q ≡ (old q || bytes_eq t q))
    → ((js : tree.Items) (all : Items) → of_items (before js) ≡ Some all → EndsIn old js all) → (js : tree.Items) (all : Items) → of_items (before (tree.item (tree.string t) js)) ≡ Some all → EndsIn new js all
found_text old new t before added ends js all read = found_one old new t all js added (ends (tree.item (tree.string t) js) all read)

pub all_found : (has : List ℕ → Bool) (all : Items) → EndsIn has tree.no_items all → (q : List ℕ) → has q ≡ has_text q all
all_found has all ends q = sym (or_false (has q)) ∙ ap (λ ds. has q || has_text q ds) none ∙ ends.2 q
  where
    none : no_items ≡ ends.0
    none = cc

-- ---- items with members

-- of items this is so only if the first has a member of the name, and it is so of the others
abbrev pub Gives : List ℕ → (tree.Items → Type 0) → Type 0
Gives n Are = (j : tree.Json) (js : tree.Items) → Are (tree.item j js) → Reading j (λ d. lacking_code n d ≡ None) × Are js

have_member : (n : List ℕ) (Are : tree.Items → Type 0) → Gives n Are → (js : tree.Items) → Are js → HaveMember n js
have_member n Are gives tree.no_items are at i ds read = let none : no_items ≡ ds = cc in subst (λ x. lacking_notices at n i x ≡ []) none refl
have_member n Are gives (tree.item j js) are at i ds read = let parts = gives j js are in item_has n j js parts.0 (have_member n Are gives js parts.1) at i ds read

pub all_have : (n : List ℕ) (Are : tree.Items → Type 0) (j : tree.Json) → (js : tree.Items) × (j ≡ tree.array js) × Are js → Gives n Are → AllHave n j
all_have n Are j items gives at =
    subst (λ x. Reading x (λ d. lacking_in at n (as_array d) ≡ [])) (sym items.1) (array_reads items.0 (λ d. lacking_in at n (as_array d) ≡ []) (λ ds e. have_member n Are gives items.0 items.2 at 0 ds e))

-- ---- by the name of a list

unlike : (n a b : List ℕ) → n ≡ a → bytes_eq a b ≡ false → n ≡ b → ⊥
unlike n a b is other e = let never : true ≡ false = sym ((bytes_eq-Decides a b).1 (sym is ∙ e)) ∙ other in absurd (cc)

pub full_animations : (n : List ℕ) (j : tree.Json) → n ≡ codes "animations" → AllHave (codes "channels") j → AllHave (codes "samplers") j → IsFullList n j
full_animations n j is channels samplers =
    (λ e. (channels, samplers), λ e. absurd (unlike n (codes "animations") (codes "buffers") is refl e), λ e. absurd (unlike n (codes "animations") (codes "skins") is refl e))

pub full_buffers : (n : List ℕ) (j : tree.Json) → n ≡ codes "buffers" → AllHave (codes "byteLength") j → IsFullList n j
full_buffers n j is lengths =
    (λ e. absurd (unlike n (codes "buffers") (codes "animations") is refl e), λ e. lengths, λ e. absurd (unlike n (codes "buffers") (codes "skins") is refl e))

pub full_skins : (n : List ℕ) (j : tree.Json) → n ≡ codes "skins" → AllHave (codes "joints") j → IsFullList n j
full_skins n j is joints =
    (λ e. absurd (unlike n (codes "skins") (codes "animations") is refl e), λ e. absurd (unlike n (codes "skins") (codes "buffers") is refl e), λ e. joints)

same_text : (n a b : List ℕ) → n ≡ a → bytes_eq a b ≡ false → bytes_eq n b ≡ false
same_text n a b is other = ap (λ x. bytes_eq x b) is ∙ other

-- the member of a name that has a row, and is neither of the two that every object has
pub quiet_named : (t : Table) (rows : List Member) (n a : List ℕ) (m : Member) (j : tree.Json) → n ≡ a → bytes_eq a (codes "extensions") ≡ false → bytes_eq a (codes "extras") ≡ false → row_named n rows ≡ Some m → IsQuietRow t m j
    → Beside t (λ f. (at : List Step) → Reading j (λ d. member_notice f rows at n d ≡ []))
quiet_named t rows n a m j is not_extensions not_extras row quiet uses covers at d read =
    member_of_row (format_with t uses) rows m at n d (same_text n a (codes "extensions") is not_extensions) (same_text n a (codes "extras") is not_extras) row (quiet uses covers at d read)

-- ---- the list of used extensions

pub are_used : (s : BTreeSet (String Global)) (js : tree.Items) → AreTexts s js → AreUsed s (tree.array js)
are_used s js texts = array_reads js (λ d. (q : List ℕ) → contains_text s q ≡ is_in q (as_array d)) (λ ds e. texts.2 ds e)

pub quiet_texts : (f : Format) (i : ℕ) (s : BTreeSet (String Global)) (js : tree.Items) → slice_get f.nodes i ≡ Some Text → AreTexts s js → IsQuiet f (Some (ListOf i)) (tree.array js)
quiet_texts f i s js shape texts =
    quiet_list f i js (λ ds read. not_empty js ds texts.0 read) (subst (λ o. AreQuietItems f o js) (sym shape) (texts.1 f)) (subst (λ o. HaveNoRepeats o js) (sym shape) (λ at ds read. refl))
