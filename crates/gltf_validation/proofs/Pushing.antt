-- Items that are pushed onto a list, and what is reported of them.
use Rattle.std.proofs.Common.{◌≡◌, ℕ, ◌-◌, ◌<◌, ◌≤◌, ◌↔◌, List, [], ◌∷◌, ◌++◌, length, Option, Some, None, Result, Ok, Err, IfOk, IfErr, OnErr, refl, sym, ◌∙◌, ap, subst, arith}
use Rattle.std.specs.List.{slice_get}
use Rattle.std.specs.Prelude.{⊤}
use Rattle.std.proofs.lemmas.Grind.{common_steps}
use Rattle.std.proofs.lemmas.Option.{none-some, same_Some}
use Rattle.std.proofs.Math.Nat.{lt_of_not-le}
use Rattle.gltf_base.specs.Lists.{ListName}
use Rattle.gltf_base.specs.Steps.{Step}
use Rattle.gltf_base.specs.declared.index.IndexTo.{IndexTo}
use Rattle.gltf_base.specs.declared.index.PushError.{PushError}
use Rattle.gltf_base.specs.declared.index.PushError.TheVariants as refusal
use Rattle.gltf_base.specs.declared.validation.Error.{Error}
use Rattle.gltf_schema.specs.Kind.{Kind}
use Rattle.gltf_schema.specs.Tree.{Tree, absent}
use Rattle.gltf_validation_rules.specs.Report.{From, first_fault_of}
use Rattle.gltf_root.specs.Lists.{count_in}
use Rattle.gltf_root.specs.Pushed.{pushed, item_kind, item_place}
use Rattle.gltf_root.specs.Root.{root_tree}
use Rattle.gltf_root.specs.declared.root.Root.{Root}
use Rattle.gltf_validation_rules.specs.Context.{Rules, Context}
use Rattle.gltf_validation_rules.specs.Reports.{document_reports, reports, reports_by_rules}
use Rattle.gltf_validation_rules.proofs.PushesOnto.{onto_clean}
use Rattle.gltf_validation.specs.ByType.{reports_by}
use Rattle.gltf_validation.specs.Clean.{IsClean, IsPushed, item_reports}
use Rattle.gltf_validation.specs.declared.push.CleanError.{CleanError}
use Rattle.gltf_validation.specs.declared.push.CleanError.TheVariants.{Full, Memory, Faulty}
use Rattle.gltf_validation.proofs.SameFaults.{reports_same}
use Rattle.gltf_validation.proofs.Sinking.{no_first_fault, same_first}

-- ---- whether there was room

-- each push that doesn't fail with Full had room
abbrev IsMade : {A B : Type 0} → Result A B → Type 0
IsMade (Ok a) = Unit {0}
IsMade (Err e) = ⊥

abbrev LacksMemory : {A X : Type 0} → Result A (PushError X) → Type 0
LacksMemory (Err (refusal.Memory x)) = Unit {0}
LacksMemory _ = ⊥

pub room_where_made : {A B : Type 0} (a : A) (e : B) (most : ℕ) {count : ℕ} → ((Ok a ≡ Err e) ↔ (most ≤ count)) → count < most
room_where_made a e most full = lt_of_not-le (λ h. subst IsMade (full.1 h) tt)

pub room_without_memory : {A X : Type 0} (x y : X) (most : ℕ) {count : ℕ}
    → (◌≡◌ {A = Result A (PushError X)} (Err (refusal.Memory x)) (Err (refusal.Full y)) ↔ (most ≤ count)) → count < most
room_without_memory x y most full = lt_of_not-le (λ h. subst LacksMemory (full.1 h) tt)

-- ---- the item at the end of a list

at_end : {X : Type 0} (xs : List X) (x : X) → slice_get (xs ++ x ∷ []) (length xs) ≡ Some x
at_end [] x = refl
at_end (y ∷ xs) x = at_end xs x

-- the last item of a list that ends in an item is that one
pub is_last : {X : Type 0} (before list : List X) (x last : X) → list ≡ before ++ x ∷ [] → Some last ≡ slice_get list (length list - 1) → last ≡ x
is_last before list x last whole found =
    let n : length (before ++ x ∷ []) - 1 ≡ length before = grind (arith, common_steps) in
    same_Some last x (found ∙ ap (λ xs. slice_get xs (length xs - 1)) whole ∙ ap (slice_get (before ++ x ∷ [])) n ∙ at_end before x)

-- ---- what is reported of an item

-- by its type, as by the table
pub reported_by_table : (of : Option Kind) (kind : Kind) (s t : Tree) (own : Context → From) (context : Context) (base : List Step) → of ≡ Some kind → s ≡ t
    → first_fault_of (reports_by of s own context []) ≡ first_fault_of (reports kind t context absent base)
reported_by_table of kind s t own context base is same =
    ap (λ k. first_fault_of (reports_by k s own context [])) is ∙ (ap (λ x. first_fault_of (reports kind x context absent [])) same ∙ same_first (reports_same kind t context absent [] base))

-- of the last item of a document, as of one that was pushed
pub told_of_pushed : (rules : Rules) (named : ListName) (x old new : Tree) (found : Option Error) → new ≡ pushed named x old
    → found ≡ first_fault_of (reports_by_rules rules (item_kind named) x new (item_place named (count_in named old))) → first_fault_of (item_reports rules named x old) ≡ found
told_of_pushed rules named x old new found is told =
    sym (told ∙ ap (λ t. first_fault_of (reports_by_rules rules (item_kind named) x t (item_place named (count_in named old)))) is)

-- nothing is wrong with an item of which no report is found
pub none_of_pushed : (rules : Rules) (named : ListName) (x old new : Tree) (found : Option Error) → new ≡ pushed named x old
    → found ≡ first_fault_of (reports_by_rules rules (item_kind named) x new (item_place named (count_in named old))) → found ≡ None → item_reports rules named x old ≡ []
none_of_pushed rules named x old new found is told none = no_first_fault (item_reports rules named x old) (told_of_pushed rules named x old new found is told ∙ none)

-- what is wrong after a push is what is wrong with the item
pub all_of_item : (rules : Rules) (named : ListName) (x : Tree) (r : Root) (new : Tree) → IsClean rules (root_tree r) → new ≡ pushed named x (root_tree r)
    → document_reports rules new ≡ item_reports rules named x (root_tree r)
all_of_item rules named x r new clean is = ap (document_reports rules) is ∙ onto_clean rules named x r clean

pub faulty_pushed : (rules : Rules) (named : ListName) (x : Tree) (r : Root) (new : Tree) (error : Error) → IsClean rules (root_tree r) → new ≡ pushed named x (root_tree r)
    → first_fault_of (item_reports rules named x (root_tree r)) ≡ Some error → ¬ IsClean rules new
faulty_pushed rules named x r new error clean is faulty =
    λ none. none-some error (ap first_fault_of (sym none ∙ all_of_item rules named x r new clean is) ∙ faulty)

-- ---- what became of a push, whichever errors are returned

-- a document that a push leaves has no report
pub stays_clean : {P X E : Type 0} (rules : Rules) (named : ListName) (item : X) (x : Tree) (r : Root) (result : Result (IndexTo P) E) (new : Tree) → IsClean rules (root_tree r)
    → IfOk result (λ index. IsPushed rules named item x (root_tree r) (Ok index) new) → OnErr result (new ≡ root_tree r) → IsClean rules new
stays_clean rules named item x r (Ok index) new clean made same = subst (IsClean rules) (sym made.3) (onto_clean rules named x r clean ∙ made.1)
stays_clean rules named item x r (Err error) new clean made same = subst (IsClean rules) (sym same) clean

pub is_pushed : {P X : Type 0} (rules : Rules) (named : ListName) (item : X) (x old : Tree) (result : Result (IndexTo P) (CleanError X)) (new : Tree)
    → IfOk result (λ index. IsPushed rules named item x old (Ok index) new) → IfErr result (λ error. IsPushed {P = ⊤} rules named item x old (Err error) old) → OnErr result (new ≡ old)
    → IsPushed rules named item x old result new
is_pushed rules named item x old (Ok index) new made refused same = made
is_pushed rules named item x old (Err (Full back)) new made refused same = (refused.0, refused.1, same)
is_pushed rules named item x old (Err (Memory back)) new made refused same = (refused.0, refused.1, same)
is_pushed rules named item x old (Err (Faulty back error)) new made refused same = (refused.0, refused.1, refused.2, same)
