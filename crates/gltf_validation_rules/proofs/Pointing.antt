-- Where the reports of a value that was read lead in its JSON.
use Rattle.std.proofs.Common.{◌≡◌, ℕ, zero, suc, ◌+◌, option_map, arith, List, [], ◌∷◌, ◌++◌, Bool, true, false, ◌&&◌, cond, nat_eq, not, codes, Some, None, Option, refl, sym, ◌∙◌, ap, subst}
use Rattle.std.proofs.lemmas.List.Elements.{All-head, All-tail}
use Rattle.std.proofs.lemmas.Option.{same_Some}
use Rattle.std.specs.List.{All}
use Rattle.std.specs.Map.{keys_of, lookup}
use Rattle.std.specs.Str.{bytes_eq}
use Rattle.std.proofs.lemmas.Slice.Eq.{bytes_eq-Decides}
use Rattle.serde_json.specs.Data as json
use Rattle.serde_json.specs.Data.{Data, Items, Members}
use Rattle.serde_json.specs.Find.{get_item, get_member, as_array, as_object, as_str}
use Rattle.gltf_base.specs.Keys as keys
use Rattle.gltf_base.specs.Keys.{Key, key_text}
use Rattle.gltf_scene.specs.Mesh.{primitive_rows}
use Rattle.gltf_base.specs.Lists.{ListName}
use Rattle.gltf_base.specs.Steps.{Step, field, key, value}
use Rattle.gltf_base.specs.declared.validation.Error.TheVariants.{Invalid, Missing, Unsupported}
use Rattle.gltf_schema.specs.Kind.{Mark, required, optional, always, unless, sometimes, or_null, Kind, IndexInto, SourceImage, ChannelSampler, U32, U64, Stride, Number, Numbers, Text, Truth, Any, Choice, Attributes, ListOf, Object, Rows, no_rows, row, Rule, no_rule, needs_data, needs_projection, needs_cone, needs_positions, requires_enabled, holds_samplers}
use Rattle.gltf_schema.specs.Maybe.{◌>>=◌}
use Rattle.gltf_schema.specs.Read.{read, read_rows, read_items, read_member, kept}
use Rattle.gltf_schema.specs.Tree as tree
use Rattle.gltf_schema.specs.Tree.{Tree, Trees, end, with_tree, is_absent, tree_at, items_in, members_in, entries_in}
use Rattle.gltf_schema.proofs.ReadPlain.{bound, mapped}
use Rattle.gltf_parts.specs.Texture.{no_image}
use Rattle.gltf_root.specs.Lists.{count_in, sampler_count}
use Rattle.gltf_root.specs.Named.{row_named}
use Rattle.gltf_root.specs.Root.{root_rows}
use Rattle.gltf_validation_rules.specs.Report.{From, report}
use Rattle.gltf_validation_rules.specs.Context.{Context}
use Rattle.gltf_validation_rules.specs.Faults.{report_if, number_faults, index_faults, source_faults, stride_faults, choice_faults, items_reports}
use Rattle.gltf_validation_rules.specs.Found.{HasKey, Lead, without_last, is_missing}
use Rattle.gltf_validation_rules.specs.Reports.{animation_below, reports, member_reports}
use Rattle.gltf_validation_rules.specs.Rules.{is_positions, primitive_attributes, root_extensions_required, positions_faults, extension_faults, rule_faults, object_faults}
use Rattle.gltf_validation_rules.proofs.TwoParts.{joined}
use Rattle.gltf_validation_rules.proofs.KeysThere.{is_array, is_object, keys_there}
use Rattle.gltf_validation_rules.proofs.Leading.{Has, Leads, AllLead, none_lead, both_lead, each_of, if_leads, missing_leads, entries_lead, one_leads, step_leads, items_lead}
use Rattle.gltf_validation_rules.proofs.Shifting.{Shifts, extension_shifts, items_shift, reports_shift}
use Rattle.gltf_validation_rules.proofs.FaultsBelow.{StandsBelow, positions_below}

-- ---- defaults, in which nothing is wrong, but that an image may be missing

abbrev has_none : Trees → Bool
has_none end = true
has_none (with_tree t ts) = false

abbrev is_valid : Tree → Bool
is_valid tree.invalid = false
is_valid _ = true

abbrev is_no_image : Tree → Bool
is_no_image (tree.index n) = nat_eq n no_image
is_no_image _ = true

abbrev mutual
  is_quiet : Kind → Tree → Bool
  is_quiet U32 t = true
  is_quiet U64 t = true
  is_quiet Number t = true
  is_quiet (Numbers n) t = true
  is_quiet Text t = true
  is_quiet Truth t = true
  is_quiet Any t = true
  is_quiet (Choice form spellings) t = is_valid t
  is_quiet (ListOf kind) t = has_none (items_in t)
  is_quiet (Object no_rule rows keeps) t = are_quiet (members_in t) rows
  is_quiet _ t = is_absent t

  are_quiet : Trees → Rows → Bool
  are_quiet end rows = true
  are_quiet (with_tree t ts) no_rows = true
  are_quiet (with_tree t ts) (row n mark kind rows) = is_quiet kind t && are_quiet ts rows

abbrev default_fits : Kind → Tree → Bool
default_fits SourceImage t = is_no_image t
default_fits kind t = is_quiet kind t

abbrev mark_fits : Mark → Kind → Bool
mark_fits (always t) kind = default_fits kind t
mark_fits (unless t) kind = default_fits kind t
mark_fits _ kind = true

-- ---- rules, which find the members that they look up

abbrev begins_with_attributes : Rows → Bool
begins_with_attributes (row n required (Attributes named) rows) = bytes_eq n (codes "attributes")
begins_with_attributes _ = false

abbrev is_texts : Kind → Bool
is_texts (ListOf Text) = true
is_texts _ = false

abbrev lists_names : ℕ → Rows → Bool
lists_names n no_rows = false
lists_names zero (row n mark kind rows) = bytes_eq n (codes "extensionsRequired") && is_texts kind
lists_names (suc i) (row n mark kind rows) = lists_names i rows

abbrev rule_fits : Rule → Rows → Bool
rule_fits needs_positions rows = begins_with_attributes rows
rule_fits requires_enabled rows = lists_names (row_named (codes "extensionsRequired") root_rows) rows
rule_fits _ rows = true

abbrev mutual
  pub fits : Kind → Bool
  fits (ListOf kind) = fits kind
  fits (Object rule rows keeps) = rule_fits rule rows && rows_fit rows
  fits _ = true

  pub rows_fit : Rows → Bool
  rows_fit no_rows = true
  rows_fit (row n mark kind rows) = mark_fits mark kind && (fits kind && rows_fit rows)

both_true : (a b : Bool) → (a && b) ≡ true → (a ≡ true) × (b ≡ true)
both_true true b h = (refl, h)
both_true false b h = absurd cc

-- ---- trees in which nothing is wrong

absent_none : (kind : Kind) (context : Context) (above : Tree) (base : List Step) → reports kind tree.absent context above base ≡ []
absent_none (IndexInto named) context above base = refl
absent_none SourceImage context above base = refl
absent_none ChannelSampler context above base = refl
absent_none Stride context above base = refl
absent_none (Choice form spellings) context above base = refl
absent_none (Attributes named) context above base = refl
absent_none (ListOf kind) context above base = refl
absent_none (Object rule rows keeps) context above base = refl
absent_none kind context above base = refl

is_absent-absent : (t : Tree) → is_absent t ≡ true → t ≡ tree.absent
is_absent-absent tree.absent h = refl
is_absent-absent t h = absurd cc

absent_quiet : (kind : Kind) (t : Tree) (context : Context) (above : Tree) (base : List Step) → is_absent t ≡ true → reports kind t context above base ≡ []
absent_quiet kind t context above base h = rw (is_absent-absent t h) (absent_none kind context above base)

choice_quiet : (t : Tree) (base : List Step) → is_valid t ≡ true → choice_faults t base ≡ []
choice_quiet tree.invalid base h = absurd cc
choice_quiet t base h = refl

items_quiet : (g : Tree → From) (i : ℕ) (ts : Trees) (base : List Step) → has_none ts ≡ true → items_reports g i ts base ≡ []
items_quiet g i end base h = refl
items_quiet g i (with_tree t ts) base h = absurd cc

ruleless : (t : Tree) (context : Context) (base : List Step) → object_faults t no_rule context base ≡ []
ruleless (tree.object ts others) context base = refl
ruleless t context base = refl

mutual
  quiet : (kind : Kind) (t : Tree) (context : Context) (above : Tree) (base : List Step) → is_quiet kind t ≡ true → reports kind t context above base ≡ []
  quiet U32 t context above base h = refl
  quiet U64 t context above base h = refl
  quiet Number t context above base h = refl
  quiet (Numbers n) t context above base h = refl
  quiet Text t context above base h = refl
  quiet Truth t context above base h = refl
  quiet Any t context above base h = refl
  quiet (Choice form spellings) t context above base h = choice_quiet t base h
  quiet (ListOf kind) t context above base h = items_quiet (λ x. reports kind x context above) 0 (items_in t) base h
  quiet (Object no_rule rows keeps) t context above base h = joined (all_quiet (members_in t) rows context above base h) (ruleless t context base)
  quiet kind t context above base h = absent_quiet kind t context above base h

  all_quiet : (ts : Trees) (rows : Rows) (context : Context) (above : Tree) (base : List Step) → are_quiet ts rows ≡ true → member_reports ts rows context above base ≡ []
  all_quiet end rows context above base h = refl
  all_quiet (with_tree t ts) no_rows context above base h = refl
  all_quiet (with_tree t ts) (row n mark kind rows) context above base h =
      let parts = both_true (is_quiet kind t) (are_quiet ts rows) h in
      joined (quiet kind t context above (base ++ field n ∷ []) parts.0) (all_quiet ts rows context above base parts.1)

no_image_leads : (may_be_empty : Bool) (count : ℕ) (t : Tree) (n : List ℕ) (d : Data) → is_no_image t ≡ true → AllLead d (source_faults may_be_empty count t (field n ∷ []))
no_image_leads may_be_empty count (tree.index m) n d h = rw h (missing_leads (not may_be_empty) n d)
no_image_leads may_be_empty count t n d h = none_lead d

default_leads : (kind : Kind) (t : Tree) (context : Context) (above : Tree) (n : List ℕ) (d : Data) → default_fits kind t ≡ true
    → AllLead d (reports kind t context above (field n ∷ []))
default_leads SourceImage t context above n d h = no_image_leads context.rules.empty_texture (count_in ListName.images context.root) t n d h
default_leads kind t context above n d h = subst (AllLead d) (sym (quiet kind t context above (field n ∷ []) h)) (none_lead d)

-- ---- a member, as its row's mark reads it

abbrev IsDefault : Mark → Tree → Type 0
IsDefault (always x) t = x ≡ t
IsDefault (unless x) t = x ≡ t
IsDefault _ t = ⊥

data Member (mark : Mark) (f : Data → Option Tree) (m : Option Data) (t : Tree) : Type 0 where
  held : (d : Data) → m ≡ Some d → f d ≡ Some t → Member mark f m t
  left_out : tree.absent ≡ t → Member mark f m t
  default : IsDefault mark t → Member mark f m t

same_tree : {a b : Tree} → Some a ≡ Some b → a ≡ b
same_tree h = cc

null_or : (b : Bool) (mark : Mark) (f : Data → Option Tree) (d : Data) (t : Tree) → cond b (Some tree.absent) (f d) ≡ Some t → Member mark f (Some d) t
null_or true mark f d t h = left_out (same_tree h)
null_or false mark f d t h = held d refl h

member_is : (mark : Mark) (f : Data → Option Tree) (m : Option Data) (t : Tree) → read_member mark f m ≡ Some t → Member mark f m t
member_is required f None t h = absurd cc
member_is required f (Some d) t h = held d refl h
member_is optional f None t h = left_out (same_tree h)
member_is optional f (Some d) t h = null_or _ optional f d t h
member_is (always x) f None t h = default (same_tree h)
member_is (always x) f (Some d) t h = held d refl h
member_is (unless x) f None t h = default (same_tree h)
member_is (unless x) f (Some d) t h = held d refl h
member_is sometimes f None t h = left_out (same_tree h)
member_is sometimes f (Some d) t h = held d refl h
member_is or_null f None t h = left_out (same_tree h)
member_is or_null f (Some d) t h = null_or _ or_null f d t h

default_is : (mark : Mark) (kind : Kind) (t : Tree) → mark_fits mark kind ≡ true → IsDefault mark t → default_fits kind t ≡ true
default_is (always x) kind t fit is = subst (λ u. default_fits kind u ≡ true) is fit
default_is (unless x) kind t fit is = subst (λ u. default_fits kind u ≡ true) is fit
default_is required kind t fit is = absurd is
default_is optional kind t fit is = absurd is
default_is sometimes kind t fit is = absurd is
default_is or_null kind t fit is = absurd is

member_leads : (g : Tree → From) → ((t : Tree) → Shifts (g t)) → (mark : Mark) (kind : Kind) (n : List ℕ) (ms : Members) (t : Tree)
    → ((d : Data) (u : Tree) → read kind d ≡ Some u → AllLead d (g u [])) → (g tree.absent (field n ∷ []) ≡ [])
    → ((u : Tree) → default_fits kind u ≡ true → AllLead (json.object ms) (g u (field n ∷ [])))
    → mark_fits mark kind ≡ true → Member mark (read kind) (get_member n ms) t → AllLead (json.object ms) (g t (field n ∷ []))
member_leads g shifts mark kind n ms t each none fill fit (held d is h) =
    step_leads (g t) (shifts t) (field n) (json.object ms) d (λ steps. (refl, refl)) is (each d t h)
member_leads g shifts mark kind n ms t each none fill fit (left_out is) =
    subst (λ u. AllLead (json.object ms) (g u (field n ∷ []))) is (subst (AllLead (json.object ms)) (sym none) (none_lead (json.object ms)))
member_leads g shifts mark kind n ms t each none fill fit (default is) = fill t (default_is mark kind t fit is)

-- ---- the rules

same_bytes : (xs ys : List ℕ) → bytes_eq xs ys ≡ true → xs ≡ ys
same_bytes xs ys h = (bytes_eq-Decides xs ys).0 h

-- a member of an object, in front of a key in it
in_member : (n : List ℕ) (ms : Members) (d : Data) → get_member n ms ≡ Some d → Lead (field n ∷ []) (json.object ms)
in_member n ms d at = record { place = d; there = rw at refl; at_key = λ text h. absurd cc }

before : (n k : List ℕ) (ms : Members) (d : Data) (rest : List Step) → get_member n ms ≡ Some d → HasKey k d → Lead (field n ∷ key k ∷ rest) (json.object ms)
before n k ms d rest at has = record { place = d; there = rw at refl; at_key = λ text h. subst (λ t. HasKey t d) (same_Some k text h) has }

behind_key : (n k : List ℕ) (ms : Members) (d : Data) (missing : Bool) (rest : List Step) → get_member n ms ≡ Some d → HasKey k d
    → Lead (cond missing (without_last (field n ∷ key k ∷ rest)) (field n ∷ key k ∷ rest)) (json.object ms)
behind_key n k ms d true [] at has = in_member n ms d at
behind_key n k ms d true (s ∷ rest) at has = before n k ms d (without_last (s ∷ rest)) at has
behind_key n k ms d false rest at has = before n k ms d rest at has

positions_lead : (option : Option ℕ) (root : Tree) (n k : List ℕ) (ms : Members) (d : Data) → get_member n ms ≡ Some d → ((i : ℕ) → option ≡ Some i → HasKey k d)
    → AllLead (json.object ms) (positions_faults option root (field n ∷ key k ∷ []))
positions_lead None root n k ms d at has = one_leads (json.object ms) (report (field n ∷ key k ∷ []) Missing) (in_member n ms d at)
positions_lead (Some i) root n k ms d at has =
    each_of (StandsBelow (field n ∷ key k ∷ [])) (Leads (json.object ms))
    (λ r below. subst (λ steps. Lead (cond (is_missing r.error) (without_last steps) steps) (json.object ms)) (sym below.1)
    (behind_key n k ms d (is_missing r.error) below.0 at (has i refl)))
    (positions_faults (Some i) root (field n ∷ key k ∷ [])) (positions_below (Some i) root (field n ∷ key k ∷ []))

-- the attributes of an object that was read
record Attributed (ms : Members) (ts : Trees) : Type 0 where
  map_there : Data
  at : get_member (codes "attributes") ms ≡ Some map_there
  has : All (Has map_there) (keys_of (entries_in (primitive_attributes ts)))

attributed : (named : ListName) (n : List ℕ) (ms : Members) (t : Tree) (ts : Trees) (m : Option Data) → n ≡ codes "attributes" → get_member n ms ≡ m → primitive_attributes ts ≡ t
    → read_member required (read (Attributes named)) m ≡ Some t → Attributed ms ts
attributed named n ms t ts None name at is h = absurd cc
attributed named n ms t ts (Some d) name at is h =
    record { map_there = d; at = ap (λ q. get_member q ms) (sym name) ∙ at; has = rw is (keys_there named d t h) }

first_attributes : (t : Tree) (ts : Trees) → primitive_attributes (with_tree t ts) ≡ t
unfolding primitive_rows
first_attributes t ts = refl

attributes_there : (rows : Rows) (ms : Members) (ts : Trees) → begins_with_attributes rows ≡ true → read_rows rows ms ≡ Some ts → Attributed ms ts
attributes_there (row n required (Attributes named) rows) ms ts begins h =
    let first = bound (read_member required (read (Attributes named)) (get_member n ms)) _ ts h in
    let later = mapped (with_tree first.0) (read_rows rows ms) ts first.2 in
    rw (← later.2) (attributed named n ms first.0 (with_tree first.0 later.0) (get_member n ms) (same_bytes n (codes "attributes") begins) refl (first_attributes first.0 later.0) first.1)
attributes_there rows ms ts begins h = absurd cc

-- the positions, if a primitive has them, are a key of its attributes
are_positions : (k : Key) (d : Data) → is_positions k ≡ true → Has d k → HasKey (codes "POSITION") d
are_positions keys.positions d is h = h
are_positions k d is h = absurd cc

picked : (b : Bool) (k : Key) (d : Data) (i n : ℕ) (rest : Option ℕ) → is_positions k ≡ b → Has d k → (rest ≡ Some n → HasKey (codes "POSITION") d) → cond b (Some i) rest ≡ Some n
    → HasKey (codes "POSITION") d
picked true k d i n rest is has later h = are_positions k d is has
picked false k d i n rest is has later h = later h

positions_there : (es : List (Key × ℕ)) (d : Data) (n : ℕ) → All (Has d) (keys_of es) → lookup is_positions es ≡ Some n → HasKey (codes "POSITION") d
positions_there [] d n has h = absurd cc
positions_there (e ∷ es) d n has h =
    picked (is_positions e.0) e.0 d e.1 n (lookup is_positions es) refl (All-head (Has d) e.0 (keys_of es) has) (positions_there es d n (All-tail (Has d) e.0 (keys_of es) has)) h

-- the names of the extensions that are required, as they were read
record Names (ms : Members) (t : Tree) : Type 0 where
  mark : Mark
  fit : mark_fits mark (ListOf Text) ≡ true
  read_by : Member mark (read (ListOf Text)) (get_member (codes "extensionsRequired") ms) t

texts : (kind : Kind) → is_texts kind ≡ true → kind ≡ ListOf Text
texts (ListOf Text) h = refl
texts kind h = absurd cc

named_here : (mark : Mark) (kind : Kind) (n : List ℕ) (ms : Members) (t : Tree) → n ≡ codes "extensionsRequired" → kind ≡ ListOf Text → mark_fits mark kind ≡ true
    → read_member mark (read kind) (get_member n ms) ≡ Some t → Names ms t
named_here mark kind n ms t name of_texts fit h = record {
  mark = mark;
  fit = subst (λ k. mark_fits mark k ≡ true) of_texts fit;
  read_by =
      subst (λ q. Member mark (read (ListOf Text)) (get_member q ms) t) name (subst (λ k. Member mark (read k) (get_member n ms) t) of_texts (member_is mark (read kind) (get_member n ms) t h));
}

names_read : (i : ℕ) (rows : Rows) (ms : Members) (ts : Trees) → lists_names i rows ≡ true → rows_fit rows ≡ true → read_rows rows ms ≡ Some ts → Names ms (tree_at i ts)
names_read i no_rows ms ts lists fit h = absurd cc
names_read zero (row n mark kind rows) ms ts lists fit h =
    let is = both_true (bytes_eq n (codes "extensionsRequired")) (is_texts kind) lists in
    let first = bound (read_member mark (read kind) (get_member n ms)) _ ts h in
    let later = mapped (with_tree first.0) (read_rows rows ms) ts first.2 in
    rw (← later.2) (named_here mark kind n ms first.0 (same_bytes n (codes "extensionsRequired") is.0) (texts kind is.1) (both_true (mark_fits mark kind) (fits kind && rows_fit rows) fit).0 first.1)
names_read (suc i) (row n mark kind rows) ms ts lists fit h =
    let first = bound (read_member mark (read kind) (get_member n ms)) _ ts h in
    let later = mapped (with_tree first.0) (read_rows rows ms) ts first.2 in
    let fit_both = both_true (mark_fits mark kind) (fits kind && rows_fit rows) fit in
    rw (← later.2) (names_read i rows ms later.0 lists (both_true (fits kind) (rows_fit rows) fit_both.1).1 later.1)

-- ---- lists

list_leads : (g : Tree → From) → ((t : Tree) → Shifts (g t)) → (f : Data → Option Tree) → ((e : Data) (t : Tree) → f e ≡ Some t → AllLead e (g t []))
    → (d : Data) (t : Tree) → (as_array d >>= λ ds. option_map tree.list (read_items f ds)) ≡ Some t → AllLead d (items_reports g 0 (items_in t) [])
list_leads g shifts f each d t h =
    let ds = bound (as_array d) _ t h in
    let ts = mapped tree.list (read_items f ds.0) t ds.2 in
    let at : (j : ℕ) → get_item j ds.0 ≡ get_item (j + 0) ds.0 = λ j. let same : j ≡ j + 0 = omega arith in ap (λ n. get_item n ds.0) same in
    rw (← ts.2) (subst (λ x. AllLead x (items_reports g 0 ts.0 [])) (sym (is_array d ds.0 ds.1)) (items_lead g shifts f each 0 ds.0 ds.0 ts.0 at ts.1))

value_leads : (b : Bool) (s : List ℕ) (d : Data) → AllLead d (report_if b Unsupported (value s ∷ []))
value_leads true s d = one_leads d (report (value s ∷ []) Unsupported) (record { place = d; there = refl; at_key = λ text h. absurd cc })
value_leads false s d = none_lead d

text_leads : (enabled : List (List ℕ)) (d : Data) (t : Tree) → read Text d ≡ Some t → AllLead d (extension_faults enabled t [])
text_leads enabled d t h = let s = mapped tree.text (as_str d) t h in rw (← s.2) (value_leads _ s.0 d)

required_lead : (enabled : List (List ℕ)) (ms : Members) (t : Tree) → Names ms t
    → AllLead (json.object ms) (items_reports (extension_faults enabled) 0 (items_in t) (field (codes "extensionsRequired") ∷ []))
required_lead enabled ms t names =
    let g : Tree → From = λ u. items_reports (extension_faults enabled) 0 (items_in u) in
    member_leads g (λ u. items_shift (extension_faults enabled) (extension_shifts enabled) 0 (items_in u)) names.mark (ListOf Text) (codes "extensionsRequired") ms t
    (λ d u h. list_leads (extension_faults enabled) (extension_shifts enabled) (read Text) (text_leads enabled) d u h) refl
    (λ u none. subst (AllLead (json.object ms)) (sym (items_quiet (extension_faults enabled) 0 (items_in u) (field (codes "extensionsRequired") ∷ []) none)) (none_lead (json.object ms)))
    names.fit names.read_by

rule_leads : (rule : Rule) (rows : Rows) (ms : Members) (ts : Trees) (context : Context) → rule_fits rule rows ≡ true → rows_fit rows ≡ true → read_rows rows ms ≡ Some ts
    → AllLead (json.object ms) (rule_faults rule ts context [])
rule_leads needs_data rows ms ts context suits fit h = missing_leads _ (codes "bufferView") (json.object ms)
rule_leads needs_projection rows ms ts context suits fit h = if_leads _ Missing (json.object ms)
rule_leads needs_cone rows ms ts context suits fit h = missing_leads _ (codes "spot") (json.object ms)
rule_leads needs_positions rows ms ts context suits fit h =
    let attributes = attributes_there rows ms ts suits h in
    positions_lead (lookup is_positions (entries_in (primitive_attributes ts))) context.root (codes "attributes") (codes "POSITION") ms attributes.map_there attributes.at
    (λ n is. positions_there (entries_in (primitive_attributes ts)) attributes.map_there n attributes.has is)
rule_leads requires_enabled rows ms ts context suits fit h =
    required_lead context.rules.enabled ms (root_extensions_required ts) (names_read (row_named (codes "extensionsRequired") root_rows) rows ms ts suits fit h)
rule_leads no_rule rows ms ts context suits fit h = none_lead (json.object ms)
rule_leads holds_samplers rows ms ts context suits fit h = none_lead (json.object ms)

-- ---- values

index_leads : (count : ℕ) (t : Tree) (d : Data) → AllLead d (index_faults count t [])
index_leads count (tree.index n) d = if_leads _ _ d
index_leads count t d = none_lead d

source_at : (may_be_empty is_none : Bool) (count n : ℕ) (d : Data) → AllLead d (cond is_none (report_if (not may_be_empty) Missing []) (number_faults count n []))
source_at may_be_empty true count n d = if_leads _ _ d
source_at may_be_empty false count n d = if_leads _ _ d

source_leads : (may_be_empty : Bool) (count : ℕ) (t : Tree) (d : Data) → AllLead d (source_faults may_be_empty count t [])
source_leads may_be_empty count (tree.index n) d = source_at may_be_empty _ count n d
source_leads may_be_empty count t d = none_lead d

stride_leads : (t : Tree) (d : Data) → AllLead d (stride_faults t [])
stride_leads (tree.whole n) d = if_leads _ _ d
stride_leads t d = none_lead d

choice_leads : (t : Tree) (d : Data) → AllLead d (choice_faults t [])
choice_leads tree.invalid d = if_leads true Invalid d
choice_leads t d = none_lead d

mutual
  -- what is reported of a value that was read is at places of its JSON
  pub all_lead : (kind : Kind) (d : Data) (t : Tree) → fits kind ≡ true → read kind d ≡ Some t → (context : Context) (above : Tree) → AllLead d (reports kind t context above [])
  all_lead (IndexInto named) d t fit h context above = index_leads (count_in named context.root) t d
  all_lead SourceImage d t fit h context above = source_leads context.rules.empty_texture (count_in ListName.images context.root) t d
  all_lead ChannelSampler d t fit h context above = index_leads (sampler_count above) t d
  all_lead Stride d t fit h context above = stride_leads t d
  all_lead (Choice form spellings) d t fit h context above = choice_leads t d
  all_lead (Attributes named) d t fit h context above = entries_lead (count_in named context.root) (entries_in t) d (keys_there named d t h)
  all_lead (ListOf kind) d t fit h context above =
      list_leads (λ x. reports kind x context above) (λ x. reports_shift kind x context above) (read kind) (λ e u r. all_lead kind e u fit r context above) d t h
  all_lead (Object rule rows keeps) d t fit h context above =
      let ms = bound (as_object d) _ t h in
      let ts = mapped (λ us. tree.object us (kept keeps rows ms.0)) (read_rows rows ms.0) t ms.2 in
      let suits = both_true (rule_fits rule rows) (rows_fit rows) fit in
      let whole = tree.object ts.0 (kept keeps rows ms.0) in
      let inner = animation_below rule whole above in
      rw (← ts.2) (subst (λ x. AllLead x (reports (Object rule rows keeps) whole context above [])) (sym (is_object d ms.0 ms.1))
      (both_lead (json.object ms.0) (member_reports ts.0 rows context inner []) (rule_faults rule ts.0 context [])
      (members_lead rows ms.0 ts.0 suits.1 ts.1 context inner) (rule_leads rule rows ms.0 ts.0 context suits.0 suits.1 ts.1)))
  all_lead kind d t fit h context above = none_lead d

  members_lead : (rows : Rows) (ms : Members) (ts : Trees) → rows_fit rows ≡ true → read_rows rows ms ≡ Some ts → (context : Context) (above : Tree)
      → AllLead (json.object ms) (member_reports ts rows context above [])
  members_lead no_rows ms ts fit h context above = let e : end ≡ ts = cc in rw (← e) (none_lead (json.object ms))
  members_lead (row n mark kind rows) ms ts fit h context above =
      let first = bound (read_member mark (read kind) (get_member n ms)) _ ts h in
      let later = mapped (with_tree first.0) (read_rows rows ms) ts first.2 in
      let own = both_true (mark_fits mark kind) (fits kind && rows_fit rows) fit in
      let inner = both_true (fits kind) (rows_fit rows) own.1 in
      rw (← later.2) (both_lead (json.object ms) (reports kind first.0 context above (field n ∷ [])) (member_reports later.0 rows context above [])
      (member_leads (λ x. reports kind x context above) (λ x. reports_shift kind x context above) mark kind n ms first.0 (λ d u r. all_lead kind d u inner.0 r context above)
      (absent_none kind context above (field n ∷ [])) (λ u quiet_one. default_leads kind u context above n (json.object ms) quiet_one) own.0
      (member_is mark (read kind) (get_member n ms) first.0 first.1))
      (members_lead rows ms later.0 inner.1 later.1 context above))
