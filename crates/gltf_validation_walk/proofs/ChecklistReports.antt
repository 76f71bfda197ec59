-- A checklist of a tree has the reports of the tree.
use Rattle.std.proofs.Common.{◌≡◌, ℕ, suc, List, [], ◌∷◌, ◌++◌, Bool, true, false, cond, not, codes, Option, Some, None, nat_eq, refl, sym, ◌∙◌, ap, append_assoc}
use Rattle.std.proofs.lemmas.List.{append-nil}
use Rattle.std.specs.Map.{lookup}
use Rattle.gltf_base.specs.Keys.{Key, key_text}
use Rattle.gltf_base.specs.Keys as keys
use Rattle.gltf_base.specs.Lists.{ListName}
use Rattle.gltf_base.specs.Steps.{Step, field, item, key, value}
use Rattle.gltf_base.specs.declared.validation.Error.{Error}
use Rattle.gltf_base.specs.declared.validation.Error.TheVariants.{Missing}
use Rattle.gltf_schema.specs.Tree as tree
use Rattle.gltf_schema.specs.Tree.{Tree, Trees, end, with_tree, tree_at, items_in, members_in, entries_in}
use Rattle.gltf_schema.specs.Kind.{Kind, IndexInto, SourceImage, ChannelSampler, Stride, Choice, Attributes, ListOf, Object, Rows, no_rows, row, Rule, needs_data, needs_projection, needs_cone, needs_positions, requires_enabled}
use Rattle.gltf_parts.specs.Texture.{no_image}
use Rattle.gltf_root.specs.Lists.{list_in, count_in, sampler_count}
use Rattle.gltf_validation_rules.specs.Report.{From, Report, report}
use Rattle.gltf_validation_rules.specs.Context.{Context}
use Rattle.gltf_validation_rules.specs.Faults.{report_if, number_faults, index_faults, source_faults, stride_faults, choice_faults, key_faults, entries_faults, items_reports}
use Rattle.gltf_validation_rules.specs.Reports.{animation_below, reports, member_reports}
use Rattle.gltf_validation_rules.specs.Rules.{is_positions, accessor_min, accessor_max, primitive_attributes, root_extensions_required, bound_faults, bounds_faults, positions_faults, extension_faults, rule_faults, object_faults}
use Rattle.gltf_schema.specs.Silence.{is_silent}
use Rattle.gltf_validation_rules.proofs.TwoParts.{joined}
use Rattle.gltf_validation_rules.proofs.Silent.{silent}
use Rattle.gltf_validation_objects.specs.Checklist.{Checklist, Checklists, nothing, below, fault_list, leaf, also, reports_of, reports_below, reports_here}
use Rattle.gltf_validation_objects.specs.ChecklistOf.{fault_among, fault_of_reports, leaf_of, entry_checklists, item_checklists, bounds_checklist, positions_checklist, name_checklist, rule_checklists, own_fault, unless_silent, checklist, member_checklists}

-- ---- reports one behind the other

also_told : (ps qs : Checklists) (base : List Step) → reports_below (also ps qs) base ≡ reports_below ps base ++ reports_below qs base
also_told nothing qs base = refl
also_told (below s p ps) qs base =
    ap (λ rs. reports_of p (base ++ s ∷ []) ++ rs) (also_told ps qs base) ∙ sym (append_assoc (reports_of p (base ++ s ∷ [])) (reports_below ps base) (reports_below qs base))

here_reported : (es fs : List Error) (base : List Step) → reports_here (es ++ fs) base ≡ reports_here es base ++ reports_here fs base
here_reported [] fs base = refl
here_reported (e ∷ es) fs base = ap (λ rs. report base e ∷ rs) (here_reported es fs base)

-- ---- a place at which one thing may be wrong

if_reported : (b : Bool) (error : Error) (base : List Step) → reports_of (leaf_of (report_if b error)) base ≡ report_if b error base
if_reported true error base = refl
if_reported false error base = refl

index_told : (count : ℕ) (t : Tree) (base : List Step) → reports_of (leaf_of (index_faults count t)) base ≡ index_faults count t base
index_told count (tree.index n) base = if_reported _ _ base
index_told count t base = refl

source_at : (may_be_empty is_none : Bool) (count n : ℕ) (base : List Step)
    → reports_of (leaf_of (λ at. cond is_none (report_if (not may_be_empty) Missing at) (number_faults count n at))) base
    ≡ cond is_none (report_if (not may_be_empty) Missing base) (number_faults count n base)
source_at may_be_empty true count n base = if_reported _ _ base
source_at may_be_empty false count n base = if_reported _ _ base

source_told : (may_be_empty : Bool) (count : ℕ) (t : Tree) (base : List Step) → reports_of (leaf_of (source_faults may_be_empty count t)) base ≡ source_faults may_be_empty count t base
source_told may_be_empty count (tree.index n) base = source_at may_be_empty (nat_eq n no_image) count n base
source_told may_be_empty count t base = refl

stride_told : (t : Tree) (base : List Step) → reports_of (leaf_of (stride_faults t)) base ≡ stride_faults t base
stride_told (tree.whole n) base = if_reported _ _ base
stride_told t base = refl

choice_told : (t : Tree) (base : List Step) → reports_of (leaf_of (choice_faults t)) base ≡ choice_faults t base
choice_told tree.invalid base = refl
choice_told t base = refl

key_reported : (k : Key) (base : List Step) → reports_of (leaf_of (key_faults k)) base ≡ key_faults k base
key_reported keys.unknown base = refl
key_reported k base = refl

-- one thing may be wrong a step below
if_told_below : (b : Bool) (error : Error) (s : Step) (base : List Step)
    → reports_below (below s (leaf_of (λ at. report_if b error (at ++ s ∷ []))) nothing) base ≡ report_if b error (base ++ s ∷ [])
if_told_below true error s base = refl
if_told_below false error s base = refl

-- ---- attributes and lists

entries_told : (count : ℕ) (es : List (Key × ℕ)) (base : List Step) → reports_below (entry_checklists count es) base ≡ entries_faults count es base
entries_told count [] base = refl
entries_told count (e ∷ es) base =
    let at = base ++ key (key_text e.0) ∷ [] in
    joined
    (here_reported (fault_list (fault_of_reports (key_faults e.0))) (fault_list (fault_of_reports (number_faults count e.1))) at ∙ joined (key_reported e.0 at) (if_reported _ _ at))
    (entries_told count es base)

items_reported : (f : Tree → Checklist) (g : Tree → From) → ((t : Tree) (base : List Step) → reports_of (f t) base ≡ g t base)
    → (i : ℕ) (ts : Trees) (base : List Step) → reports_below (item_checklists f i ts) base ≡ items_reports g i ts base
items_reported f g each i end base = refl
items_reported f g each i (with_tree t ts) base = joined (each t (base ++ item i ∷ [])) (items_reported f g each (suc i) ts base)

-- ---- the rules

bound_reported : (t : Tree) (base : List Step) → reports_of (leaf_of (bound_faults t)) base ≡ bound_faults t base
bound_reported tree.absent base = refl
bound_reported (tree.any d) base = if_reported _ _ base
bound_reported t base = refl

-- the checklist at positions, by what is wrong there seen from the place itself
abbrev plan_at : List Report → Checklist
plan_at rs = bounds_checklist (fault_among [] rs) (fault_among (field (codes "min") ∷ []) rs) (fault_among (field (codes "max") ∷ []) rs)

-- what is wrong with the two bounds
abbrev both_bounds : Option Error → Option Error → From
both_bounds e f base = reports_of (leaf e) (base ++ field (codes "min") ∷ []) ++ reports_of (leaf f) (base ++ field (codes "max") ∷ [])

both_told : (e f : Option Error) (base : List Step) → reports_of (plan_at (both_bounds e f [])) base ≡ both_bounds e f base
both_told None None base = refl
both_told None (Some f) base = refl
both_told (Some e) None base = refl
both_told (Some e) (Some f) base = refl

bounds_told : (t : Tree) (base : List Step) → reports_of (plan_at (bounds_faults t [])) base ≡ bounds_faults t base
bounds_told (tree.object ts others) base =
    let least = fault_of_reports (bound_faults (accessor_min ts)) in
    let most = fault_of_reports (bound_faults (accessor_max ts)) in
    let same : (at : List Step) → both_bounds least most at ≡ bounds_faults (tree.object ts others) at =
    λ at. joined (bound_reported (accessor_min ts) (at ++ field (codes "min") ∷ [])) (bound_reported (accessor_max ts) (at ++ field (codes "max") ∷ [])) in
    ap (λ rs. reports_of (plan_at rs) base) (sym (same [])) ∙ both_told least most base ∙ same base
bounds_told t base = refl

positions_reported : (found : Option ℕ) (root : Tree) (base : List Step)
    → reports_of (positions_checklist (positions_faults found root)) base ≡ positions_faults found root base
positions_reported None root base = refl
positions_reported (Some n) root base = bounds_told (tree_at n (list_in ListName.accessors root)) base

name_reported : (enabled : List (List ℕ)) (t : Tree) (base : List Step) → reports_of (name_checklist enabled t) base ≡ extension_faults enabled t base
name_reported enabled (tree.text s) base = append-nil _ ∙ if_told_below _ _ (value s) base
name_reported enabled t base = refl

-- nothing is wrong with an object without a rule
unruled : (rule : Rule) (t : Tree) (context : Context) (base : List Step)
    → ((ts : Trees) → rule_faults rule ts context base ≡ []) → [] ≡ object_faults t rule context base
unruled rule (tree.object ts others) context base none = sym (none ts)
unruled rule t context base none = refl

rule_told : (rule : Rule) (t : Tree) (context : Context) (base : List Step)
    → reports_below (rule_checklists rule t context) base ++ reports_here (fault_list (own_fault rule t)) base ≡ object_faults t rule context base
rule_told needs_data (tree.object ts others) context base = append-nil _ ∙ if_told_below _ _ (field (codes "bufferView")) base
rule_told needs_cone (tree.object ts others) context base = append-nil _ ∙ if_told_below _ _ (field (codes "spot")) base
rule_told needs_projection (tree.object ts others) context base = if_reported _ _ base
rule_told needs_positions (tree.object ts others) context base =
    let found = lookup is_positions (entries_in (primitive_attributes ts)) in
    let at = base ++ field (codes "attributes") ∷ [] in
    append-nil _ ∙ append-nil _ ∙ append-nil _ ∙ append-nil _ ∙ positions_reported found context.root (at ++ key (codes "POSITION") ∷ [])
rule_told requires_enabled (tree.object ts others) context base =
    let names = items_in (root_extensions_required ts) in
    let at = base ++ field (codes "extensionsRequired") ∷ [] in
    let enabled = context.rules.enabled in
    append-nil _ ∙ append-nil _ ∙ append-nil _ ∙ items_reported (name_checklist enabled) (extension_faults enabled) (name_reported enabled) 0 names at
rule_told needs_data t context base = refl
rule_told needs_cone t context base = refl
rule_told needs_projection t context base = refl
rule_told needs_positions t context base = refl
rule_told requires_enabled t context base = refl
rule_told rule t context base = unruled rule t context base (λ ts. refl)

-- ---- kinds

-- a row that the checklist has, or leaves out because nothing can be wrong in it
row_told : (is_over : Bool) (n : List ℕ) (p : Checklist) (ps : Checklists) (rs qs : List Report) (base : List Step) → (is_over ≡ true → rs ≡ [])
    → reports_of p (base ++ field n ∷ []) ≡ rs → reports_below ps base ≡ qs → reports_below (unless_silent is_over n p ps) base ≡ rs ++ qs
row_told true n p ps rs qs base over here further = let none = over refl in rw none further
row_told false n p ps rs qs base over here further = joined here further

mutual
  pub checklist_reports : (kind : Kind) (t : Tree) (context : Context) (animation : Tree) (base : List Step) → reports_of (checklist kind t context animation) base ≡ reports kind t context animation base
  checklist_reports (IndexInto named) t context animation base = index_told (count_in named context.root) t base
  checklist_reports SourceImage t context animation base = source_told context.rules.empty_texture (count_in ListName.images context.root) t base
  checklist_reports ChannelSampler t context animation base = index_told (sampler_count animation) t base
  checklist_reports Stride t context animation base = stride_told t base
  checklist_reports (Choice form spellings) t context animation base = choice_told t base
  checklist_reports (Attributes named) t context animation base = append-nil _ ∙ entries_told (count_in named context.root) (entries_in t) base
  checklist_reports (ListOf kind) t context animation base =
      append-nil _
      ∙ items_reported (λ x. checklist kind x context animation) (λ x. reports kind x context animation) (λ x at. checklist_reports kind x context animation at) 0 (items_in t) base
  checklist_reports (Object rule rows keeps) t context animation base =
      let ps = member_checklists (members_in t) rows context (animation_below rule t animation) in
      let qs = rule_checklists rule t context in
      let own = reports_here (fault_list (own_fault rule t)) base in
      ap (λ rs. rs ++ own) (also_told ps qs base) ∙ append_assoc (reports_below ps base) (reports_below qs base) own
      ∙ joined (members_told (members_in t) rows context (animation_below rule t animation) base) (rule_told rule t context base)
  checklist_reports kind t context animation base = refl

  members_told : (ts : Trees) (rows : Rows) (context : Context) (animation : Tree) (base : List Step)
      → reports_below (member_checklists ts rows context animation) base ≡ member_reports ts rows context animation base
  members_told end rows context animation base = refl
  members_told (with_tree t ts) no_rows context animation base = refl
  members_told (with_tree t ts) (row n mark kind rows) context animation base =
      row_told (is_silent kind) n (checklist kind t context animation) (member_checklists ts rows context animation) (reports kind t context animation (base ++ field n ∷ []))
      (member_reports ts rows context animation base) base (λ over. silent kind over t context animation (base ++ field n ∷ []))
      (checklist_reports kind t context animation (base ++ field n ∷ [])) (members_told ts rows context animation base)
