-- What is wrong in a tree stands at or below the place that the tree is seen from.
use Rattle.std.proofs.Common.{◌≡◌, ℕ, suc, List, [], ◌∷◌, ◌++◌, Bool, true, false, cond, not, codes, Option, Some, None, refl, sym, ◌∙◌, append_assoc}
use Rattle.std.proofs.lemmas.List.{append-nil}
use Rattle.std.proofs.lemmas.List.Elements.{All-nil, All-cons, All-append}
use Rattle.std.specs.List.{All}
use Rattle.std.specs.Map.{lookup}
use Rattle.gltf_base.specs.Keys.{Key, key_text}
use Rattle.gltf_base.specs.Keys as keys
use Rattle.gltf_base.specs.Lists.{ListName}
use Rattle.gltf_base.specs.Steps.{Step, field, item, key, value}
use Rattle.gltf_base.specs.declared.validation.Error.{Error}
use Rattle.gltf_base.specs.declared.validation.Error.TheVariants.{Missing}
use Rattle.gltf_schema.specs.Tree as tree
use Rattle.gltf_schema.specs.Tree.{Tree, Trees, end, with_tree, items_in, members_in, entries_in}
use Rattle.gltf_schema.specs.Kind.{Kind, IndexInto, SourceImage, ChannelSampler, Stride, Choice, Attributes, ListOf, Object, Rows, no_rows, row, Rule, needs_data, needs_projection, needs_cone, needs_positions, requires_enabled}
use Rattle.gltf_root.specs.Lists.{count_in, sampler_count}
use Rattle.gltf_validation_rules.specs.Report.{From, Report, report}
use Rattle.gltf_validation_rules.specs.Context.{Context}
use Rattle.gltf_validation_rules.specs.Faults.{report_if, number_faults, index_faults, source_faults, stride_faults, choice_faults, key_faults, entries_faults, items_reports}
use Rattle.gltf_validation_rules.specs.Reports.{animation_below, reports, member_reports}
use Rattle.gltf_validation_rules.specs.Rules.{is_positions, accessor_min, accessor_max, root_extensions_required, primitive_attributes, bound_faults, bounds_faults, positions_faults, extension_faults, root_rule, rule_faults, object_faults}

-- at a place or below it
abbrev pub StandsBelow : List Step → Report → Type 0
StandsBelow base r = (rest : List Step) × (r.steps ≡ base ++ rest)

abbrev pub AllBelow : List Step → List Report → Type 0
AllBelow base rs = All (StandsBelow base) rs

none_below : (base : List Step) → AllBelow base []
none_below base = All-nil (StandsBelow base)

both_below : (base : List Step) (rs qs : List Report) → AllBelow base rs → AllBelow base qs → AllBelow base (rs ++ qs)
both_below base rs qs = All-append (StandsBelow base) rs qs

one_below : (error : Error) (base rest at : List Step) → at ≡ base ++ rest → AllBelow base (report at error ∷ [])
one_below error base rest at same = All-cons (StandsBelow base) (report at error) [] (rest, same) (none_below base)

here_below : (error : Error) (base : List Step) → AllBelow base (report base error ∷ [])
here_below error base = one_below error base [] base (sym (append-nil base))

if_below : (b : Bool) (error : Error) (base rest at : List Step) → at ≡ base ++ rest → AllBelow base (report_if b error at)
if_below true error base rest at same = one_below error base rest at same
if_below false error base rest at same = none_below base

if_here : (b : Bool) (error : Error) (base : List Step) → AllBelow base (report_if b error base)
if_here b error base = if_below b error base [] base (sym (append-nil base))

-- what stands below a further place stands below this one
further_below : (base more : List Step) (rs : List Report) → AllBelow (base ++ more) rs → AllBelow base rs
further_below base more rs h k d lt = let s = h k d lt in (more ++ s.0, s.1 ∙ append_assoc base more s.0)

-- ---- what is wrong with a value by itself

index_below : (count : ℕ) (t : Tree) (base : List Step) → AllBelow base (index_faults count t base)
index_below count (tree.index n) base = if_here _ _ base
index_below count t base = none_below base

source_at : (may_be_empty is_none : Bool) (count n : ℕ) (base : List Step)
    → AllBelow base (cond is_none (report_if (not may_be_empty) Missing base) (number_faults count n base))
source_at may_be_empty true count n base = if_here _ _ base
source_at may_be_empty false count n base = if_here _ _ base

source_below : (may_be_empty : Bool) (count : ℕ) (t : Tree) (base : List Step) → AllBelow base (source_faults may_be_empty count t base)
source_below may_be_empty count (tree.index n) base = source_at may_be_empty _ count n base
source_below may_be_empty count t base = none_below base

stride_below : (t : Tree) (base : List Step) → AllBelow base (stride_faults t base)
stride_below (tree.whole n) base = if_here _ _ base
stride_below t base = none_below base

choice_below : (t : Tree) (base : List Step) → AllBelow base (choice_faults t base)
choice_below tree.invalid base = here_below _ base
choice_below t base = none_below base

key_below : (k : Key) (base : List Step) → AllBelow base (key_faults k base)
key_below keys.unknown base = here_below _ base
key_below k base = none_below base

entries_below : (count : ℕ) (es : List (Key × ℕ)) (base : List Step) → AllBelow base (entries_faults count es base)
entries_below count [] base = none_below base
entries_below count (e ∷ es) base =
    let step = key (key_text e.0) ∷ [] in
    let at = base ++ step in
    both_below base (key_faults e.0 at ++ number_faults count e.1 at) (entries_faults count es base)
    (further_below base step _ (both_below at (key_faults e.0 at) (number_faults count e.1 at) (key_below e.0 at) (if_here _ _ at)))
    (entries_below count es base)

items_below : (f : Tree → From) → ((t : Tree) (base : List Step) → AllBelow base (f t base)) → (i : ℕ) (ts : Trees) (base : List Step) → AllBelow base (items_reports f i ts base)
items_below f each i end base = none_below base
items_below f each i (with_tree t ts) base =
    both_below base (f t (base ++ item i ∷ [])) (items_reports f (suc i) ts base) (further_below base (item i ∷ []) _ (each t (base ++ item i ∷ []))) (items_below f each (suc i) ts base)

-- ---- the rules

bound_below : (t : Tree) (base : List Step) → AllBelow base (bound_faults t base)
bound_below tree.absent base = here_below _ base
bound_below (tree.any d) base = if_here _ _ base
bound_below t base = none_below base

bounds_below : (t : Tree) (base : List Step) → AllBelow base (bounds_faults t base)
bounds_below (tree.object ts others) base =
    let least = field (codes "min") ∷ [] in
    let most = field (codes "max") ∷ [] in
    both_below base (bound_faults (accessor_min ts) (base ++ least)) (bound_faults (accessor_max ts) (base ++ most)) (further_below base least _ (bound_below (accessor_min ts) (base ++ least)))
    (further_below base most _ (bound_below (accessor_max ts) (base ++ most)))
bounds_below t base = none_below base

pub positions_below : (found : Option ℕ) (root : Tree) (base : List Step) → AllBelow base (positions_faults found root base)
positions_below None root base = here_below _ base
positions_below (Some n) root base = bounds_below _ base

extension_below : (enabled : List (List ℕ)) (t : Tree) (base : List Step) → AllBelow base (extension_faults enabled t base)
extension_below enabled (tree.text s) base = if_below _ _ base (value s ∷ []) _ refl
extension_below enabled t base = none_below base

-- what a document requires stands below its member of that
pub required_below : (enabled : List (List ℕ)) (ts : Trees) (base : List Step) → AllBelow (base ++ field (codes "extensionsRequired") ∷ []) (root_rule enabled ts base)
required_below enabled ts base = items_below (extension_faults enabled) (extension_below enabled) 0 (items_in (root_extensions_required ts)) (base ++ field (codes "extensionsRequired") ∷ [])

rule_below : (rule : Rule) (ts : Trees) (context : Context) (base : List Step) → AllBelow base (rule_faults rule ts context base)
rule_below needs_data ts context base = if_below _ _ base (field (codes "bufferView") ∷ []) _ refl
rule_below needs_projection ts context base = if_here _ _ base
rule_below needs_cone ts context base = if_below _ _ base (field (codes "spot") ∷ []) _ refl
rule_below needs_positions ts context base =
    let attributes = field (codes "attributes") ∷ [] in
    let position = key (codes "POSITION") ∷ [] in
    further_below base attributes _ (further_below (base ++ attributes) position _ (positions_below (lookup is_positions (entries_in (primitive_attributes ts))) context.root ((base ++ attributes) ++ position)))
rule_below requires_enabled ts context base = further_below base (field (codes "extensionsRequired") ∷ []) _ (required_below context.rules.enabled ts base)
rule_below rule ts context base = none_below base

object_below : (rule : Rule) (t : Tree) (context : Context) (base : List Step) → AllBelow base (object_faults t rule context base)
object_below rule (tree.object ts others) context base = rule_below rule ts context base
object_below rule t context base = none_below base

-- ---- a whole tree

mutual
  -- the law, at every kind and place
  pub reports_below : (kind : Kind) (t : Tree) (context : Context) (above : Tree) (base : List Step) → AllBelow base (reports kind t context above base)
  reports_below (IndexInto named) t context above base = index_below (count_in named context.root) t base
  reports_below SourceImage t context above base = source_below context.rules.empty_texture (count_in ListName.images context.root) t base
  reports_below ChannelSampler t context above base = index_below (sampler_count above) t base
  reports_below Stride t context above base = stride_below t base
  reports_below (Choice form spellings) t context above base = choice_below t base
  reports_below (Attributes named) t context above base = entries_below (count_in named context.root) (entries_in t) base
  reports_below (ListOf kind) t context above base = items_below (λ x. reports kind x context above) (λ x at. reports_below kind x context above at) 0 (items_in t) base
  reports_below (Object rule rows keeps) t context above base =
      both_below base (member_reports (members_in t) rows context (animation_below rule t above) base) (object_faults t rule context base)
      (members_below (members_in t) rows context (animation_below rule t above) base) (object_below rule t context base)
  reports_below kind t context above base = none_below base

  members_below : (ts : Trees) (rows : Rows) (context : Context) (above : Tree) (base : List Step) → AllBelow base (member_reports ts rows context above base)
  members_below end rows context above base = none_below base
  members_below (with_tree t ts) no_rows context above base = none_below base
  members_below (with_tree t ts) (row name mark kind rows) context above base =
      both_below base (reports kind t context above (base ++ field name ∷ [])) (member_reports ts rows context above base)
      (further_below base (field name ∷ []) _ (reports_below kind t context above (base ++ field name ∷ []))) (members_below ts rows context above base)
