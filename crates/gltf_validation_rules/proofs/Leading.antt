-- Reports whose steps lead to something in a JSON value.
use Rattle.std.proofs.Common.{◌≡◌, ℕ, suc, ◌+◌, List, [], ◌∷◌, ◌++◌, Bool, true, false, cond, map, Some, Option, refl, sym, ◌∙◌, ap, subst, arith}
use Rattle.std.proofs.lemmas.List.Elements.{All-nil, All-cons, All-append, All-head, All-tail, All-map}
use Rattle.std.proofs.lemmas.Option.{same_Some}
use Rattle.std.specs.List.{All}
use Rattle.std.specs.Map.{keys_of}
use Rattle.serde_json.specs.Data.{Data, array, Items, no_items, item as data_item}
use Rattle.serde_json.specs.Find.{get_item}
use Rattle.gltf_base.specs.Keys.{Key, key_text}
use Rattle.gltf_base.specs.Keys as keys
use Rattle.gltf_base.specs.Steps.{Step, field, item, key}
use Rattle.gltf_base.specs.declared.validation.Error.{Error}
use Rattle.gltf_base.specs.declared.validation.Error.TheVariants.{IndexOutOfBounds, Invalid, Missing}
use Rattle.gltf_schema.specs.Read.{read_items}
use Rattle.gltf_schema.specs.Tree.{Tree, Trees, end, with_tree}
use Rattle.gltf_schema.proofs.ReadPlain.{bound, mapped}
use Rattle.gltf_validation_rules.specs.Report.{From, Report, report}
use Rattle.gltf_validation_rules.specs.Bases.{behind}
use Rattle.gltf_validation_rules.specs.Faults.{report_if, number_faults, key_faults, entries_faults, items_reports}
use Rattle.gltf_validation_rules.specs.Found.{HasKey, Lead, step_to, without_last, before_key, first_key, is_missing, steps_there}
use Rattle.gltf_validation_rules.proofs.Shifting.{Shifts, from_nothing}

abbrev pub Leads : Data → Report → Type 0
Leads d r = Lead (steps_there r) d

abbrev pub AllLead : Data → List Report → Type 0
AllLead d rs = All (Leads d) rs

pub none_lead : (d : Data) → AllLead d []
none_lead d = All-nil (Leads d)

pub both_lead : (d : Data) (rs qs : List Report) → AllLead d rs → AllLead d qs → AllLead d (rs ++ qs)
both_lead d rs qs = All-append (Leads d) rs qs

pub one_leads : (d : Data) (r : Report) → Leads d r → AllLead d (r ∷ [])
one_leads d r h = All-cons (Leads d) r [] h (none_lead d)

pub each_of : {A : Type 0} (P Q : A → Type 0) → ((x : A) → P x → Q x) → (xs : List A) → All P xs → All Q xs
each_of P Q f [] h = All-nil Q
each_of P Q f (x ∷ xs) h = All-cons Q x xs (f x (All-head P x xs h)) (each_of P Q f xs (All-tail P x xs h))

-- ---- reports of a value itself, of what is missing in it, and at a key in it

at_place : (d : Data) → Lead [] d
at_place d = record { place = d; there = refl; at_key = λ text h. absurd cc }

here : (b : Bool) (d : Data) → Lead (cond b (without_last []) []) d
here true d = at_place d
here false d = at_place d

pub if_leads : (b : Bool) (error : Error) (d : Data) → AllLead d (report_if b error [])
if_leads true error d = one_leads d (report [] error) (here (is_missing error) d)
if_leads false error d = none_lead d

pub missing_leads : (b : Bool) (name : List ℕ) (d : Data) → AllLead d (report_if b Missing (field name ∷ []))
missing_leads true name d = one_leads d (report (field name ∷ []) Missing) (at_place d)
missing_leads false name d = none_lead d

with_key : (text : List ℕ) (d : Data) → HasKey text d → Lead (key text ∷ []) d
with_key text d has = record { place = d; there = refl; at_key = λ t h. subst (λ u. HasKey u d) (same_Some text t h) has }

key_leads : (k : Key) (text : List ℕ) (d : Data) → HasKey text d → AllLead d (key_faults k (key text ∷ []))
key_leads keys.unknown text d has = one_leads d (report (key text ∷ []) Invalid) (with_key text d has)
key_leads k text d has = none_lead d

number_leads : (b : Bool) (text : List ℕ) (d : Data) → HasKey text d → AllLead d (report_if b IndexOutOfBounds (key text ∷ []))
number_leads true text d has = one_leads d (report (key text ∷ []) IndexOutOfBounds) (with_key text d has)
number_leads false text d has = none_lead d

-- an object has a key
abbrev pub Has : Data → Key → Type 0
Has d k = HasKey (key_text k) d

pub entries_lead : (count : ℕ) (es : List (Key × ℕ)) (d : Data) → All (Has d) (keys_of es) → AllLead d (entries_faults count es [])
entries_lead count [] d has = none_lead d
entries_lead count (e ∷ es) d has =
    let at = key (key_text e.0) ∷ [] in
    let own = All-head (Has d) e.0 (keys_of es) has in
    both_lead d (key_faults e.0 at ++ number_faults count e.1 at) (entries_faults count es [])
    (both_lead d (key_faults e.0 at) (number_faults count e.1 at) (key_leads e.0 (key_text e.0) d own) (number_leads _ (key_text e.0) d own))
    (entries_lead count es d (All-tail (Has d) e.0 (keys_of es) has))

-- ---- one step down

-- the step is to no key
abbrev pub IsOpen : Step → Type 0
IsOpen s = (steps : List Step) → (before_key (s ∷ steps) ≡ s ∷ before_key steps) × (first_key (s ∷ steps) ≡ first_key steps)

down : (s : Step) (d e : Data) (steps : List Step) → IsOpen s → step_to s d ≡ Some e → Lead steps e → Lead (s ∷ steps) d
down s d e steps open_step at h = record {
  place = h.place;
  there = rw ((open_step steps).0, at) h.there;
  at_key = λ text k. h.at_key text (sym (open_step steps).1 ∙ k);
}

through : (s : Step) (d e : Data) (missing : Bool) (steps : List Step) → IsOpen s → step_to s d ≡ Some e
    → Lead (cond missing (without_last steps) steps) e → Lead (cond missing (without_last (s ∷ steps)) (s ∷ steps)) d
through s d e true [] open_step at h = at_place d
through s d e true (next ∷ steps) open_step at h = down s d e (without_last (next ∷ steps)) open_step at h
through s d e false steps open_step at h = down s d e steps open_step at h

pub all_through : (s : Step) (d e : Data) → IsOpen s → step_to s d ≡ Some e → (rs : List Report) → AllLead e rs → AllLead d (map (behind (s ∷ [])) rs)
all_through s d e open_step at rs h =
    All-map (Leads d) (behind (s ∷ [])) rs (each_of (Leads e) (λ r. Leads d (behind (s ∷ []) r)) (λ r k. through s d e (is_missing r.error) r.steps open_step at k) rs h)

-- what is reported of a value one step down
pub step_leads : (f : From) → Shifts f → (s : Step) (d e : Data) → IsOpen s → step_to s d ≡ Some e → AllLead e (f []) → AllLead d (f (s ∷ []))
step_leads f shifts s d e open_step at h = subst (AllLead d) (sym (from_nothing f shifts (s ∷ []))) (all_through s d e open_step at (f []) h)

-- ---- the items of an array

pub items_lead : (g : Tree → From) → ((t : Tree) → Shifts (g t)) → (f : Data → Option Tree) → ((e : Data) (t : Tree) → f e ≡ Some t → AllLead e (g t []))
    → (i : ℕ) (all rest : Items) (ts : Trees) → ((j : ℕ) → get_item j rest ≡ get_item (j + i) all) → read_items f rest ≡ Some ts → AllLead (array all) (items_reports g i ts [])
items_lead g shifts f each i all no_items ts at h = let e : end ≡ ts = cc in rw (← e) (none_lead (array all))
items_lead g shifts f each i all (data_item d rest) ts at h =
    let first = bound (f d) _ ts h in
    let later = mapped (with_tree first.0) (read_items f rest) ts first.2 in
    let next : (j : ℕ) → get_item j rest ≡ get_item (j + suc i) all =
    λ j. let same : suc j + i ≡ j + suc i = omega arith in at (suc j) ∙ ap (λ n. get_item n all) same in
    let here_too : 0 + i ≡ i = omega arith in
    rw (← later.2) (both_lead (array all) (g first.0 (item i ∷ [])) (items_reports g (suc i) later.0 [])
    (step_leads (g first.0) (shifts first.0) (item i) (array all) d (λ steps. (refl, refl)) (sym (at 0 ∙ ap (λ n. get_item n all) here_too)) (each d first.0 first.1))
    (items_lead g shifts f each (suc i) all rest later.0 next later.1))
