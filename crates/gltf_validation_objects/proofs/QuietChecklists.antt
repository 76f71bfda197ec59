-- A quiet checklist has no report; and which items, attributes and moves decide whether a checklist is quiet.
use Rattle.std.proofs.Common.{◌≡◌, ℕ, zero, suc, ◌+◌, ◌≤◌, ◌<◌, List, [], ◌∷◌, ◌++◌, map, length, drop, get_or, Bool, true, false, ◌&&◌, Option, Some, None, refl, sym, ◌∙◌, ap, arith}
use Rattle.std.specs.Option.{is_none, is_some}
use Rattle.std.proofs.lemmas.List.{drop_all, drop_more}
use Rattle.gltf_base.specs.Keys.{Key}
use Rattle.gltf_base.specs.Steps.{Step}
use Rattle.gltf_base.specs.declared.validation.Error.{Error}
use Rattle.gltf_schema.specs.Tree.{Tree, trees}
use Rattle.gltf_validation_rules.specs.Report.{From, found_at}
use Rattle.gltf_validation_rules.specs.Faults.{key_faults, number_faults}
use Rattle.gltf_validation_objects.specs.Moves.{IsSeen}
use Rattle.gltf_validation_objects.specs.Checklist.{Checklist, Checklists, place, nothing, below, leaf, reports_of, reports_below, quiet, all_quiet, rest_after, rest_after_below, first_move, move_at}
use Rattle.gltf_validation_objects.specs.ChecklistOf.{fault_of_reports, leaf_of, entry_checklist, entry_checklists, item_checklists}
use Rattle.gltf_validation_objects.specs.declared.look.Look.TheVariants as look
use Rattle.gltf_validation_objects.proofs.Leaves.{found_fault}

-- ---- reports

both : (a b : Bool) → (a && b) ≡ true → (a ≡ true) × (b ≡ true)
both true b h = (refl, h)
both false b h = absurd cc

mutual
  pub no_report : (p : Checklist) → quiet p ≡ true → (base : List Step) → reports_of p base ≡ []
  no_report (place ps []) h base = rw (no_report_below ps h base) refl
  no_report (place ps (e ∷ es)) h base = absurd cc

  no_report_below : (ps : Checklists) → all_quiet ps ≡ true → (base : List Step) → reports_below ps base ≡ []
  no_report_below nothing h base = refl
  no_report_below (below s p ps) h base =
      let here = both (quiet p) (all_quiet ps) h in
      rw (no_report p here.0 (base ++ s ∷ [])) (no_report_below ps here.1 base)

-- a value at which a look found nothing wrong has no report
pub looked_at : (b : Bool) (p : Checklist) → (b && quiet p) ≡ true → (base : List Step) → reports_of p base ≡ []
looked_at b p h = no_report p (both b (quiet p) h).1

-- ---- leaves

pub quiet_leaf : (e : Option Error) → is_none e ≡ quiet (leaf e)
quiet_leaf None = refl
quiet_leaf (Some error) = refl

-- what was found at a place decides
pub found_quiet : (f : From) (e : Option Error) → ((base : List Step) → found_at e base ≡ f base) → is_none e ≡ quiet (leaf_of f)
found_quiet f e h = quiet_leaf e ∙ ap (λ x. quiet (leaf x)) (found_fault f e h)

quiet_entry : (k i : Option Error) → (is_none k && quiet (leaf i)) ≡ quiet (entry_checklist k i)
quiet_entry None None = refl
quiet_entry None (Some error) = refl
quiet_entry (Some error) i = refl

pub fault_there : (e : Option Error) → is_some e ≡ true → is_none e ≡ false
fault_there None h = absurd cc
fault_there (Some error) h = refl

-- ---- attributes

-- one that is quiet leaves the answer to those behind it, and one that isn't decides
pub entry_first : (count : ℕ) (es : List (Key × ℕ)) (e : Key × ℕ) (rest : List (Key × ℕ)) (b : Bool) → es ≡ e ∷ rest
    → (is_none (fault_of_reports (key_faults e.0)) && quiet (leaf (fault_of_reports (number_faults count e.1)))) ≡ b
    → (b && all_quiet (entry_checklists count rest)) ≡ all_quiet (entry_checklists count es)
entry_first count es e rest b here h =
    sym (ap (λ ys. all_quiet (entry_checklists count ys)) here
    ∙ ap (λ x. x && all_quiet (entry_checklists count rest)) (sym (quiet_entry (fault_of_reports (key_faults e.0)) (fault_of_reports (number_faults count e.1))) ∙ h))

-- ---- lists

-- each item is quiet
abbrev pub items_quiet : {X : Type 0} → (Tree → Checklist) → (X → Tree) → List X → Bool
items_quiet f tree [] = true
items_quiet f tree (x ∷ xs) = quiet (f (tree x)) && items_quiet f tree xs

-- whatever their numbers
quiet_items : {X : Type 0} (f : Tree → Checklist) (tree : X → Tree) (xs : List X) (i : ℕ) → items_quiet f tree xs ≡ all_quiet (item_checklists f i (trees (map tree xs)))
quiet_items f tree [] i = refl
quiet_items f tree (x ∷ xs) i = ap (λ b. quiet (f (tree x)) && b) (quiet_items f tree xs (suc i))

item_first : {X : Type 0} (f : Tree → Checklist) (tree : X → Tree) (xs : List X) (n : ℕ) (x : X) → n < length xs → x ≡ get_or xs n x
    → items_quiet f tree (drop n xs) ≡ (quiet (f (tree x)) && items_quiet f tree (drop (n + 1) xs))
item_first f tree xs n x l e =
    ap (items_quiet f tree) (drop_more xs n x l ∙ ap (λ y. y ∷ drop (n + 1) xs) (sym e))

-- an item that is quiet leaves the answer to those behind it
pub quiet_item : {X : Type 0} (f : Tree → Checklist) (tree : X → Tree) (xs : List X) (n : ℕ) (x : X) → n < length xs → x ≡ get_or xs n x → quiet (f (tree x)) ≡ true
    → items_quiet f tree (drop (n + 1) xs) ≡ items_quiet f tree (drop n xs)
quiet_item f tree xs n x l e h =
    sym (item_first f tree xs n x l e ∙ ap (λ b. b && items_quiet f tree (drop (n + 1) xs)) h)

-- one that isn't decides
pub loud_item : {X : Type 0} (f : Tree → Checklist) (tree : X → Tree) (xs : List X) (n : ℕ) (x : X) → n < length xs → x ≡ get_or xs n x → quiet (f (tree x)) ≡ false
    → items_quiet f tree (drop n xs) ≡ items_quiet f tree xs → false ≡ all_quiet (item_checklists f 0 (trees (map tree xs)))
loud_item f tree xs n x l e h same =
    sym (item_first f tree xs n x l e ∙ ap (λ b. b && items_quiet f tree (drop (n + 1) xs)) h) ∙ (same ∙ quiet_items f tree xs 0)

-- past the last item
pub past_items : {X : Type 0} (f : Tree → Checklist) (tree : X → Tree) (xs : List X) (n : ℕ) → length xs ≤ n
    → items_quiet f tree (drop n xs) ≡ items_quiet f tree xs → true ≡ all_quiet (item_checklists f 0 (trees (map tree xs)))
past_items f tree xs n l same = sym (ap (items_quiet f tree) (drop_all n xs l)) ∙ (same ∙ quiet_items f tree xs 0)

-- ---- objects

passed_below : (ps : Checklists) (es : List Error) (n : ℕ) → IsSeen (first_move (rest_after_below ps es n)) look.Quiet
    → quiet (rest_after_below ps es (suc n)) ≡ quiet (rest_after_below ps es n)
passed_below nothing [] zero h = absurd h
passed_below nothing [] (suc n) h = passed_below nothing [] n h
passed_below nothing (e ∷ es) zero h = absurd h
passed_below nothing (e ∷ es) (suc n) h = passed_below nothing es n h
passed_below (below s p ps) [] zero h = rw h refl
passed_below (below s p ps) (e ∷ es) zero h = refl
passed_below (below s p ps) es (suc n) h = passed_below ps es n h

-- a move that is quiet leaves the answer to those behind it
pub passed : (p : Checklist) (n : ℕ) → IsSeen (move_at p n) look.Quiet → quiet (rest_after p (n + 1)) ≡ quiet (rest_after p n)
passed (place ps es) n h =
    let more : n + 1 ≡ suc n = omega arith in
    ap (λ m. quiet (rest_after_below ps es m)) more ∙ passed_below ps es n h

-- one that isn't decides
pub stopped : (p : Checklist) → IsSeen (first_move p) look.Faulty → false ≡ quiet p
stopped (place (below s p ps) []) h = sym (ap (λ b. b && all_quiet ps) h)
stopped (place (below s p ps) (e ∷ es)) h = refl
stopped (place nothing (e ∷ es)) h = refl
stopped (place nothing []) h = absurd h

-- and past the last there is nothing wrong
pub ended : (p : Checklist) → IsSeen (first_move p) look.Over → true ≡ quiet p
ended (place (below s p ps) es) h = absurd h
ended (place nothing (e ∷ es)) h = absurd h
ended (place nothing []) h = refl
