-- Rules that allow more leave some of the reports.
use Rattle.std.proofs.Common.{◌≡◌, ℕ, suc, List, [], ◌∷◌, ◌++◌, Bool, true, false, cond, not, codes, refl}
use Rattle.gltf_base.specs.Lists.{ListName}
use Rattle.gltf_base.specs.Steps.{Step, field, item, value}
use Rattle.gltf_base.specs.declared.validation.Error.{Error}
use Rattle.gltf_base.specs.declared.validation.Error.TheVariants.{Missing, Unsupported}
use Rattle.gltf_schema.specs.Tree as tree
use Rattle.gltf_schema.specs.Tree.{Tree, Trees, end, with_tree, items_in, members_in}
use Rattle.gltf_schema.specs.Kind.{Kind, SourceImage, ListOf, Object, Rows, no_rows, row, Rule, requires_enabled}
use Rattle.gltf_root.specs.Lists.{count_in}
use Rattle.gltf_validation_rules.specs.Report.{From}
use Rattle.gltf_validation_rules.specs.Context.{Rules, under}
use Rattle.gltf_validation_rules.specs.Faults.{report_if, number_faults, source_faults, items_reports}
use Rattle.gltf_validation_rules.specs.Reports.{animation_below, reports, member_reports}
use Rattle.gltf_validation_rules.specs.Rules.{root_extensions_required, extension_faults, rule_faults, object_faults}
use Rattle.gltf_validation_rules.specs.Wider.{AllowsMore, IsSublist, neither, both, second, enables}

-- ---- parts of lists

whole : {A : Type 0} (xs : List A) → IsSublist xs xs
whole [] = neither
whole (x ∷ xs) = both x (whole xs)

parts : {A : Type 0} {xs ys us vs : List A} → IsSublist xs ys → IsSublist us vs → IsSublist (xs ++ us) (ys ++ vs)
parts neither h = h
parts (both x g) h = both x (parts g h)
parts (second y g) h = second y (parts g h)

pub of_none : {A : Type 0} {xs ys : List A} → IsSublist xs ys → ys ≡ [] → xs ≡ []
of_none neither none = refl
of_none (both x g) none = absurd cc
of_none (second y g) none = absurd cc

-- ---- where rules are asked

if_fewer : (narrow wide : Bool) (error : Error) (at : List Step) → (narrow ≡ true → wide ≡ true) → IsSublist (report_if (not wide) error at) (report_if (not narrow) error at)
if_fewer true true error at h = neither
if_fewer true false error at h = let none = h refl in absurd cc
if_fewer false true error at h = second _ neither
if_fewer false false error at h = whole _

module _ (narrow wide : Rules) (more : AllowsMore narrow wide) (root : Tree) where
  source_at : (is_none : Bool) (count n : ℕ) (at : List Step)
      → IsSublist (cond is_none (report_if (not wide.empty_texture) Missing at) (number_faults count n at)) (cond is_none (report_if (not narrow.empty_texture) Missing at) (number_faults count n at))
  source_at true count n at = if_fewer narrow.empty_texture wide.empty_texture Missing at more.textures
  source_at false count n at = whole _

  source_fewer : (count : ℕ) (t : Tree) (at : List Step) → IsSublist (source_faults wide.empty_texture count t at) (source_faults narrow.empty_texture count t at)
  source_fewer count (tree.index n) at = source_at _ count n at
  source_fewer count t at = neither

  extension_fewer : (t : Tree) (at : List Step) → IsSublist (extension_faults wide.enabled t at) (extension_faults narrow.enabled t at)
  extension_fewer (tree.text s) at = if_fewer (enables narrow s) (enables wide s) Unsupported (at ++ value s ∷ []) (more.names s)
  extension_fewer t at = neither

  items_fewer : (f g : Tree → From) → ((t : Tree) (at : List Step) → IsSublist (f t at) (g t at)) → (i : ℕ) (ts : Trees) (at : List Step)
      → IsSublist (items_reports f i ts at) (items_reports g i ts at)
  items_fewer f g each i end at = neither
  items_fewer f g each i (with_tree t ts) at = parts (each t (at ++ item i ∷ [])) (items_fewer f g each (suc i) ts at)

  rule_fewer : (rule : Rule) (ts : Trees) (at : List Step) → IsSublist (rule_faults rule ts (under wide root) at) (rule_faults rule ts (under narrow root) at)
  rule_fewer requires_enabled ts at =
      items_fewer (extension_faults wide.enabled) (extension_faults narrow.enabled) extension_fewer 0 (items_in (root_extensions_required ts)) (at ++ field (codes "extensionsRequired") ∷ [])
  rule_fewer rule ts at = whole _

  object_fewer : (rule : Rule) (t : Tree) (at : List Step) → IsSublist (object_faults t rule (under wide root) at) (object_faults t rule (under narrow root) at)
  object_fewer rule (tree.object ts others) at = rule_fewer rule ts at
  object_fewer rule t at = neither

  -- ---- a whole tree

  mutual
    pub reports_fewer : (kind : Kind) (t above : Tree) (at : List Step) → IsSublist (reports kind t (under wide root) above at) (reports kind t (under narrow root) above at)
    reports_fewer SourceImage t above at = source_fewer (count_in ListName.images root) t at
    reports_fewer (ListOf kind) t above at =
        items_fewer (λ x. reports kind x (under wide root) above) (λ x. reports kind x (under narrow root) above) (λ x b. reports_fewer kind x above b) 0 (items_in t) at
    reports_fewer (Object rule rows keeps) t above at = parts (members_fewer (members_in t) rows (animation_below rule t above) at) (object_fewer rule t at)
    reports_fewer kind t above at = whole _

    members_fewer : (ts : Trees) (rows : Rows) (above : Tree) (at : List Step) → IsSublist (member_reports ts rows (under wide root) above at) (member_reports ts rows (under narrow root) above at)
    members_fewer end rows above at = neither
    members_fewer (with_tree t ts) no_rows above at = neither
    members_fewer (with_tree t ts) (row name mark kind rows) above at = parts (reports_fewer kind t above (at ++ field name ∷ [])) (members_fewer ts rows above at)
