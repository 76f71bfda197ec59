-- Reports from a base are those from further down with the base in front.
use Rattle.std.proofs.Common.{◌≡◌, ℕ, suc, List, [], ◌∷◌, ◌++◌, Bool, true, false, cond, not, codes, map, Option, Some, None, refl, sym, ◌∙◌, ap, append_assoc}
use Rattle.std.proofs.lemmas.List.{append-nil, map-append}
use Rattle.std.specs.Map.{lookup}
use Rattle.gltf_base.specs.Keys.{Key, key_text}
use Rattle.gltf_base.specs.Keys as keys
use Rattle.gltf_base.specs.Lists.{ListName}
use Rattle.gltf_base.specs.Steps.{Step, field, item, key, value}
use Rattle.gltf_base.specs.declared.validation.Error.{Error}
use Rattle.gltf_base.specs.declared.validation.Error.TheVariants.{Missing}
use Rattle.gltf_schema.specs.Tree as tree
use Rattle.gltf_schema.specs.Tree.{Tree, Trees, end, with_tree, items_in, members_in, entries_in}
use Rattle.gltf_schema.specs.Kind.{Kind, IndexInto, SourceImage, ChannelSampler, Stride, Choice, Attributes, ListOf, Object, Rows, no_rows, row, Rule, needs_data, needs_projection, needs_cone, needs_positions, requires_enabled}
use Rattle.gltf_root.specs.Lists.{count_in, sampler_count}
use Rattle.gltf_validation_rules.specs.Report.{From}
use Rattle.gltf_validation_rules.specs.Bases.{behind}
use Rattle.gltf_validation_rules.specs.Context.{Context}
use Rattle.gltf_validation_rules.specs.Faults.{report_if, number_faults, index_faults, source_faults, stride_faults, choice_faults, key_faults, entries_faults, items_reports}
use Rattle.gltf_validation_rules.specs.Reports.{animation_below, reports, member_reports}
use Rattle.gltf_validation_rules.specs.Rules.{is_positions, accessor_min, accessor_max, root_extensions_required, primitive_attributes, bound_faults, bounds_faults, positions_faults, extension_faults, rule_faults, object_faults}
use Rattle.gltf_validation_rules.proofs.TwoParts.{joined}

-- more steps in front of a place come in front of each of its reports
abbrev pub Shifts : From → Type 0
Shifts f = (base more : List Step) → f (base ++ more) ≡ map (behind base) (f more)

if_shifts : (b : Bool) (error : Error) → Shifts (report_if b error)
if_shifts true error base more = refl
if_shifts false error base more = refl

-- what is further down by some steps
further_shifts : (f : From) (steps : List Step) → Shifts f → Shifts (λ at. f (at ++ steps))
further_shifts f steps h base more = ap f (append_assoc base more steps) ∙ h base (more ++ steps)

both_shift : (f g : From) → Shifts f → Shifts g → Shifts (λ at. f at ++ g at)
both_shift f g h k base more = joined (h base more) (k base more) ∙ sym (map-append (behind base) (f more) (g more))

-- ---- what is wrong with a value by itself

index_shifts : (count : ℕ) (t : Tree) → Shifts (index_faults count t)
index_shifts count (tree.index n) base more = if_shifts _ _ base more
index_shifts count t base more = refl

source_at : (may_be_empty is_none : Bool) (count n : ℕ) → Shifts (λ at. cond is_none (report_if (not may_be_empty) Missing at) (number_faults count n at))
source_at may_be_empty true count n base more = if_shifts _ _ base more
source_at may_be_empty false count n base more = if_shifts _ _ base more

source_shifts : (may_be_empty : Bool) (count : ℕ) (t : Tree) → Shifts (source_faults may_be_empty count t)
source_shifts may_be_empty count (tree.index n) base more = source_at may_be_empty _ count n base more
source_shifts may_be_empty count t base more = refl

stride_shifts : (t : Tree) → Shifts (stride_faults t)
stride_shifts (tree.whole n) base more = if_shifts _ _ base more
stride_shifts t base more = refl

choice_shifts : (t : Tree) → Shifts (choice_faults t)
choice_shifts tree.invalid base more = refl
choice_shifts t base more = refl

key_shifts : (k : Key) → Shifts (key_faults k)
key_shifts keys.unknown base more = refl
key_shifts k base more = refl

entries_shift : (count : ℕ) (es : List (Key × ℕ)) → Shifts (entries_faults count es)
entries_shift count [] base more = refl
entries_shift count (e ∷ es) base more =
    let steps = key (key_text e.0) ∷ [] in
    let own : From = λ at. key_faults e.0 at ++ number_faults count e.1 at in
    both_shift (λ at. own (at ++ steps)) (entries_faults count es)
    (further_shifts own steps (both_shift (key_faults e.0) (number_faults count e.1) (key_shifts e.0) (λ b m. if_shifts _ _ b m)))
    (entries_shift count es) base more

pub items_shift : (f : Tree → From) → ((t : Tree) → Shifts (f t)) → (i : ℕ) (ts : Trees) → Shifts (items_reports f i ts)
items_shift f each i end base more = refl
items_shift f each i (with_tree t ts) base more =
    both_shift (λ at. f t (at ++ item i ∷ [])) (items_reports f (suc i) ts) (further_shifts (f t) (item i ∷ []) (each t)) (items_shift f each (suc i) ts) base more

-- ---- the rules

bound_shifts : (t : Tree) → Shifts (bound_faults t)
bound_shifts tree.absent base more = refl
bound_shifts (tree.any d) base more = if_shifts _ _ base more
bound_shifts t base more = refl

bounds_shift : (t : Tree) → Shifts (bounds_faults t)
bounds_shift (tree.object ts others) base more =
    let least = field (codes "min") ∷ [] in
    let most = field (codes "max") ∷ [] in
    both_shift (λ at. bound_faults (accessor_min ts) (at ++ least)) (λ at. bound_faults (accessor_max ts) (at ++ most))
    (further_shifts (bound_faults (accessor_min ts)) least (bound_shifts (accessor_min ts)))
    (further_shifts (bound_faults (accessor_max ts)) most (bound_shifts (accessor_max ts))) base more
bounds_shift t base more = refl

positions_shift : (found : Option ℕ) (root : Tree) → Shifts (positions_faults found root)
positions_shift None root base more = refl
positions_shift (Some n) root base more = bounds_shift _ base more

pub extension_shifts : (enabled : List (List ℕ)) (t : Tree) → Shifts (extension_faults enabled t)
extension_shifts enabled (tree.text s) base more = further_shifts (report_if _ _) (value s ∷ []) (if_shifts _ _) base more
extension_shifts enabled t base more = refl

rule_shifts : (rule : Rule) (ts : Trees) (context : Context) → Shifts (rule_faults rule ts context)
rule_shifts needs_data ts context base more = further_shifts (report_if _ _) (field (codes "bufferView") ∷ []) (if_shifts _ _) base more
rule_shifts needs_projection ts context base more = if_shifts _ _ base more
rule_shifts needs_cone ts context base more = further_shifts (report_if _ _) (field (codes "spot") ∷ []) (if_shifts _ _) base more
rule_shifts needs_positions ts context base more =
    let attributes = field (codes "attributes") ∷ [] in
    let position = key (codes "POSITION") ∷ [] in
    let own : From = positions_faults (lookup is_positions (entries_in (primitive_attributes ts))) context.root in
    further_shifts (λ at. own (at ++ position)) attributes (further_shifts own position (positions_shift (lookup is_positions (entries_in (primitive_attributes ts))) context.root)) base more
rule_shifts requires_enabled ts context base more =
    let own : From = items_reports (extension_faults context.rules.enabled) 0 (items_in (root_extensions_required ts)) in
    further_shifts own (field (codes "extensionsRequired") ∷ [])
    (items_shift (extension_faults context.rules.enabled) (extension_shifts context.rules.enabled) 0 (items_in (root_extensions_required ts))) base more
rule_shifts rule ts context base more = refl

object_shifts : (rule : Rule) (t : Tree) (context : Context) → Shifts (object_faults t rule context)
object_shifts rule (tree.object ts others) context base more = rule_shifts rule ts context base more
object_shifts rule t context base more = refl

-- ---- a whole tree

mutual
  pub reports_shift : (kind : Kind) (t : Tree) (context : Context) (above : Tree) → Shifts (reports kind t context above)
  reports_shift (IndexInto named) t context above base more = index_shifts (count_in named context.root) t base more
  reports_shift SourceImage t context above base more = source_shifts context.rules.empty_texture (count_in ListName.images context.root) t base more
  reports_shift ChannelSampler t context above base more = index_shifts (sampler_count above) t base more
  reports_shift Stride t context above base more = stride_shifts t base more
  reports_shift (Choice form spellings) t context above base more = choice_shifts t base more
  reports_shift (Attributes named) t context above base more = entries_shift (count_in named context.root) (entries_in t) base more
  reports_shift (ListOf kind) t context above base more =
      items_shift (λ x. reports kind x context above) (λ x b m. reports_shift kind x context above b m) 0 (items_in t) base more
  reports_shift (Object rule rows keeps) t context above base more =
      both_shift (member_reports (members_in t) rows context (animation_below rule t above)) (object_faults t rule context)
      (λ b m. members_shift (members_in t) rows context (animation_below rule t above) b m) (object_shifts rule t context) base more
  reports_shift kind t context above base more = refl

  members_shift : (ts : Trees) (rows : Rows) (context : Context) (above : Tree) → Shifts (member_reports ts rows context above)
  members_shift end rows context above base more = refl
  members_shift (with_tree t ts) no_rows context above base more = refl
  members_shift (with_tree t ts) (row name mark kind rows) context above base more =
      both_shift (λ at. reports kind t context above (at ++ field name ∷ [])) (member_reports ts rows context above)
      (further_shifts (reports kind t context above) (field name ∷ []) (λ b m. reports_shift kind t context above b m))
      (λ b m. members_shift ts rows context above b m) base more

-- from a base as from nothing, with the base in front
pub from_nothing : (f : From) → Shifts f → (base : List Step) → f base ≡ map (behind base) (f [])
from_nothing f h base = ap f (sym (append-nil base)) ∙ h base []

-- the law
pub from_a_base : (kind : Kind) (t : Tree) (context : Context) (above : Tree) (base : List Step)
    → reports kind t context above base ≡ map (behind base) (reports kind t context above [])
from_a_base kind t context above base = from_nothing (reports kind t context above) (reports_shift kind t context above) base
