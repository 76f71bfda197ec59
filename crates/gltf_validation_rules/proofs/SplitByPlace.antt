-- What is wrong in a document with one more item, parted by whether it stands at the item.
use Rattle.std.proofs.Common.{◌≡◌, List, [], ◌∷◌, ◌++◌, Bool, true, false, not, refl, sym, ◌∙◌, ap}
use Rattle.std.proofs.lemmas.Bool.{and_parts, eq-eqb, eqb-true}
use Rattle.std.proofs.lemmas.List.{append-nil}
use Rattle.std.proofs.lemmas.List.Elements.{All-weaker, All-head, All-tail, filter-append}
use Rattle.std.proofs.lemmas.Slice.Eq.{bytes_eq-Decides}
use Rattle.std.specs.List.{All, filter}
use Rattle.gltf_base.specs.Lists.{ListName}
use Rattle.gltf_base.specs.Steps.{Step, field, item, key, value}
use Rattle.gltf_schema.specs.Tree.{Tree, absent}
use Rattle.gltf_root.specs.Lists.{count_in}
use Rattle.gltf_root.specs.Pushed.{pushed, item_place, item_kind}
use Rattle.gltf_root.specs.Root.{root_kind, root_tree}
use Rattle.gltf_root.specs.declared.root.Root.{Root}
use Rattle.gltf_validation_rules.specs.Report.{Report}
use Rattle.gltf_validation_rules.specs.Context.{Rules, under}
use Rattle.gltf_validation_rules.specs.Inserted.{IsInserted}
use Rattle.gltf_validation_rules.specs.Naming.{Avoids}
use Rattle.gltf_validation_rules.specs.Reports.{document_reports, reports_by_rules}
use Rattle.gltf_validation_rules.specs.ReportPlaces.{same_step, begin_with, is_below}
use Rattle.gltf_validation_rules.proofs.FaultsElsewhere.{StandsElsewhere, root_elsewhere}
use Rattle.gltf_validation_rules.proofs.TwoParts.{joined, first_none, second_none}
use Rattle.gltf_validation_rules.proofs.PushesOnto.{inserted}
use Rattle.gltf_validation_rules.proofs.FaultsBelow.{StandsBelow, reports_below}

-- ---- the test decides what is below a place

step_itself : (s : Step) → same_step s s ≡ true
step_itself (field f) = (bytes_eq-Decides f f).1 refl
step_itself (item n) = eq-eqb n n refl
step_itself (key f) = (bytes_eq-Decides f f).1 refl
step_itself (value f) = (bytes_eq-Decides f f).1 refl

step_same : (s u : Step) → same_step s u ≡ true → s ≡ u
step_same (field f) (field g) h = ap (λ fs. field fs) ((bytes_eq-Decides f g).0 h)
step_same (item m) (item n) h = ap (λ k. item k) (eqb-true m n h)
step_same (key f) (key g) h = ap (λ fs. key fs) ((bytes_eq-Decides f g).0 h)
step_same (value f) (value g) h = ap (λ fs. value fs) ((bytes_eq-Decides f g).0 h)
step_same s u h = absurd cc

begins : (place rest : List Step) → begin_with place (place ++ rest) ≡ true
begins [] rest = refl
begins (p ∷ place) rest = rw (step_itself p, begins place rest) refl

begun : (place steps : List Step) → begin_with place steps ≡ true → (rest : List Step) × (steps ≡ place ++ rest)
begun [] steps h = (steps, refl)
begun (p ∷ place) [] h = absurd cc
begun (p ∷ place) (s ∷ steps) h =
    let parts = and_parts (same_step p s) (begin_with place steps) h in
    let tail = begun place steps parts.1 in
    (tail.0, ap (λ u. u ∷ steps) (sym (step_same p s parts.0)) ∙ ap (λ us. p ∷ us) tail.1)

told_below : (place : List Step) (q : Report) → StandsBelow place q → is_below place q ≡ true
told_below place q h = rw h.1 (begins place h.0)

told_at : (b : Bool) (place : List Step) (q : Report) → is_below place q ≡ b → StandsElsewhere place q → b ≡ false
told_at true place q is off = absurd (off (begun place q.steps is))
told_at false place q is off = refl

told_elsewhere : (place : List Step) (q : Report) → StandsElsewhere place q → is_below place q ≡ false
told_elsewhere place q off = told_at (is_below place q) place q refl off

-- ---- what is put in is parted from the rest by any test that separates them

all_kept : {A : Type 0} (p : A → Bool) (xs : List A) → All (λ x. p x ≡ true) xs → filter p xs ≡ xs
all_kept p [] h = refl
all_kept p (x ∷ xs) h = rw (All-head (λ y. p y ≡ true) x xs h) (ap (λ ys. x ∷ ys) (all_kept p xs (All-tail (λ y. p y ≡ true) x xs h)))

none_kept : {A : Type 0} (p : A → Bool) (xs : List A) → All (λ x. p x ≡ false) xs → filter p xs ≡ []
none_kept p [] h = refl
none_kept p (x ∷ xs) h = rw (All-head (λ y. p y ≡ false) x xs h) (none_kept p xs (All-tail (λ y. p y ≡ false) x xs h))

parted : {A : Type 0} (p : A → Bool) (before new after : List A) → filter p (before ++ (new ++ after)) ≡ filter p before ++ (filter p new ++ filter p after)
parted p before new after = filter-append p before (new ++ after) ∙ ap (λ xs. filter p before ++ xs) (filter-append p new after)

the_new : {A : Type 0} (p : A → Bool) {old new whole : List A} → IsInserted old new whole → filter p new ≡ new → filter p old ≡ [] → filter p whole ≡ new
the_new p {old} {new} {whole} h own none =
    let nothing : filter p h.before ++ filter p h.after ≡ [] = sym (filter-append p h.before h.after) ∙ ap (filter p) (sym h.was) ∙ none in
    ap (filter p) h.now ∙ parted p h.before new h.after
    ∙ joined (first_none (filter p h.before) (filter p h.after) nothing) (joined own (second_none (filter p h.before) (filter p h.after) nothing))
    ∙ append-nil new

the_old : {A : Type 0} (p : A → Bool) {old new whole : List A} → IsInserted old new whole → filter p new ≡ [] → filter p old ≡ old → filter p whole ≡ old
the_old p {old} {new} {whole} h none own =
    ap (filter p) h.now ∙ parted p h.before new h.after ∙ ap (λ xs. filter p h.before ++ (xs ++ filter p h.after)) none
    ∙ sym (filter-append p h.before h.after) ∙ ap (filter p) (sym h.was) ∙ own

parts : {A : Type 0} (p : A → Bool) {old new whole : List A} → IsInserted old new whole → All (λ x. p x ≡ true) new → All (λ x. p x ≡ false) old
    → (filter p whole ≡ new) × (filter (λ x. not (p x)) whole ≡ old)
parts {A} p {old} {new} {whole} h own others =
    let q : A → Bool = λ x. not (p x) in (
      the_new p h (all_kept p new own) (none_kept p old others),
      the_old q h (none_kept q new (All-weaker (λ x. p x ≡ true) (λ x. q x ≡ false) (λ x e. ap not e) new own))
          (all_kept q old (All-weaker (λ x. p x ≡ false) (λ x. q x ≡ true) (λ x e. ap not e) old others)),
    )

-- ---- the law

-- what stands at the item's place is the item's, and the rest is what there was
pub parted_by_place : (rules : Rules) (named : ListName) (x : Tree) (r : Root) → Avoids named (count_in named (root_tree r)) root_kind (root_tree r)
    → let n = count_in named (root_tree r) in let new = pushed named x (root_tree r) in
    (filter (is_below (item_place named n)) (document_reports rules new) ≡ reports_by_rules rules (item_kind named) x new (item_place named n))
    × (filter (λ q. not (is_below (item_place named n) q)) (document_reports rules new) ≡ document_reports rules (root_tree r))
parted_by_place rules named x r off =
    let place = item_place named (count_in named (root_tree r)) in
    let new = pushed named x (root_tree r) in
    let own = reports_by_rules rules (item_kind named) x new place in
    let others = document_reports rules (root_tree r) in
    parts (is_below place) (inserted rules named x r off)
    (All-weaker (StandsBelow place) (λ q. is_below place q ≡ true) (told_below place) own (reports_below (item_kind named) x (under rules new) absent place))
    (All-weaker (StandsElsewhere place) (λ q. is_below place q ≡ false) (told_elsewhere place) others (root_elsewhere named r (under rules (root_tree r))))
