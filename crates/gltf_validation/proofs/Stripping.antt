-- A document that is stripped has the same reports.
use Rattle.std.proofs.Common.{◌≡◌, ℕ, zero, suc, List, [], ◌∷◌, ◌++◌, Bool, true, false, not, ◌&&◌, ◌||◌, if◌then◌else◌, codes, bytes_eq, Option, Some, None, refl, sym, ◌∙◌, ap}
use Rattle.std.proofs.lemmas.Bool.{and_parts}
use Rattle.std.specs.Map.{lookup}
use Rattle.gltf_base.specs.Lists.{ListName}
use Rattle.gltf_base.specs.Steps.{Step, field, item, key}
use Rattle.gltf_base.specs.declared.validation.Error.TheVariants.{Missing}
use Rattle.gltf_schema.specs.Kind.{Kind, IndexInto, SourceImage, ChannelSampler, Any, Attributes, ListOf, Object, Rows, no_rows, row, Rule, no_rule, needs_data, needs_projection, needs_cone, needs_positions, requires_enabled, holds_samplers}
use Rattle.gltf_schema.specs.OfKind.{may_be_absent}
use Rattle.gltf_schema.specs.Stripped.{each_tree, stripped, stripped_rows, strips_name}
use Rattle.gltf_schema.specs.Tree as tree
use Rattle.gltf_schema.specs.Tree.{Tree, Trees, absent, end, with_tree, count_of, entries_in, is_absent, items_in, members_in, tree_at}
use Rattle.gltf_schema.specs.declared.stripping.Strip.{Strip}
use Rattle.gltf_schema.specs.declared.stripping.Strip.TheVariants.{Extras, Unknown}
use Rattle.gltf_parts.specs.Accessor.{accessor_kind, accessor_rows}
use Rattle.gltf_scene.specs.Animation.{animation_rows}
use Rattle.gltf_scene.specs.Camera.{camera_rows}
use Rattle.gltf_scene.specs.Light.{light_rows}
use Rattle.gltf_scene.specs.Mesh.{primitive_rows}
use Rattle.gltf_root.specs.Lists.{count_in, list_in, sampler_count}
use Rattle.gltf_root.specs.Named.{row_named}
use Rattle.gltf_root.specs.Root.{root_rows}
use Rattle.gltf_validation_rules.specs.Report.{From}
use Rattle.gltf_validation_rules.specs.Context.{Rules, under}
use Rattle.gltf_validation_rules.specs.Faults.{entries_faults, index_faults, items_reports, report_if, source_faults}
use Rattle.gltf_validation_rules.specs.Reports.{animation_below, member_reports, reports}
use Rattle.gltf_validation_rules.specs.Rules.{accessor_buffer_view, accessor_sparse, bound_faults, bounds_faults, camera_orthographic, camera_perspective, extension_faults, is_positions, is_spot, light_spot, light_type, positions_faults, primitive_attributes, rule_faults}
use Rattle.gltf_validation_rules.proofs.Inserting.{kind_at, name_at}
use Rattle.gltf_validation_rules.proofs.TwoParts.{joined}

-- ---- kinds whose rules look at no extras

-- the row at a number doesn't have this name
abbrev pub kept : ℕ → Rows → Bool
kept n rows = not (bytes_eq (name_at n rows) (codes "extras"))

-- no member that the rule looks at has
abbrev keeps_members : Rule → Rows → Bool
keeps_members no_rule rows = true
keeps_members needs_data rows = kept (row_named (codes "sparse") accessor_rows) rows && kept (row_named (codes "bufferView") accessor_rows) rows
keeps_members needs_projection rows = kept (row_named (codes "orthographic") camera_rows) rows && kept (row_named (codes "perspective") camera_rows) rows
keeps_members needs_cone rows = kept (row_named (codes "type") light_rows) rows && kept (row_named (codes "spot") light_rows) rows
keeps_members needs_positions rows = kept (row_named (codes "attributes") primitive_rows) rows
keeps_members requires_enabled rows = kept (row_named (codes "extensionsRequired") root_rows) rows
keeps_members holds_samplers rows = kept (row_named (codes "samplers") animation_rows) rows

abbrev is_any : Kind → Bool
is_any Any = true
is_any _ = false

abbrev mutual
  -- extras are any JSON, and no rule looks at them
  pub has_plain_extras : Kind → Bool
  has_plain_extras (ListOf kind) = has_plain_extras kind
  has_plain_extras (Object rule rows keeps) = keeps_members rule rows && have_plain_extras rows
  has_plain_extras _ = true

  pub have_plain_extras : Rows → Bool
  have_plain_extras no_rows = true
  have_plain_extras (row name mark kind rows) = (not (bytes_eq name (codes "extras")) || is_any kind) && (has_plain_extras kind && have_plain_extras rows)

-- ---- what stripping leaves

pub count_each : (f : Tree → Tree) (ts : Trees) → count_of (each_tree f ts) ≡ count_of ts
count_each f end = refl
count_each f (with_tree t ts) = ap (λ n. suc n) (count_each f ts)

pub tree_each : (f : Tree → Tree) (n : ℕ) (ts : Trees) → f absent ≡ absent → tree_at n (each_tree f ts) ≡ f (tree_at n ts)
tree_each f n end same = sym same
tree_each f zero (with_tree t ts) same = refl
tree_each f (suc n) (with_tree t ts) same = tree_each f n ts same

not_true : (b : Bool) → not b ≡ true → b ≡ false
not_true false h = refl
not_true true h = absurd cc

where_stripped : (b c : Bool) → (b && c) ≡ true → c ≡ true
where_stripped true c h = h
where_stripped false c h = absurd cc

plain_there : (b c : Bool) → (not b || c) ≡ true → b ≡ true → c ≡ true
plain_there true c h is = h
plain_there false c h is = absurd cc

left_there : (b s : Bool) (t : Tree) → s ≡ false → (if b && s then absent else t) ≡ t
left_there true s t h = rw h refl
left_there false s t h = refl

kept_by : (what : Strip) (name : List ℕ) → not (bytes_eq name (codes "extras")) ≡ true → strips_name what name ≡ false
kept_by Extras name h = not_true (bytes_eq name (codes "extras")) h
kept_by Unknown name h = refl

strips_extras : (what : Strip) (name : List ℕ) → strips_name what name ≡ true → bytes_eq name (codes "extras") ≡ true
strips_extras Extras name h = h
strips_extras Unknown name h = absurd cc

module _ (what : Strip) where
  pub absent_left : (kind : Kind) → stripped what kind absent ≡ absent
  absent_left (ListOf kind) = refl
  absent_left (Object rule rows keeps) = refl
  absent_left kind = refl

  end_left : (rows : Rows) → stripped_rows what rows end ≡ end
  end_left no_rows = refl
  end_left (row name mark kind rows) = refl

  pub items_left : (kind : Kind) (t : Tree) → items_in (stripped what (ListOf kind) t) ≡ each_tree (stripped what kind) (items_in t)
  items_left kind (tree.list ts) = refl
  items_left kind t = refl

  pub members_left : (rule : Rule) (rows : Rows) (keeps : Bool) (t : Tree) → members_in (stripped what (Object rule rows keeps) t) ≡ stripped_rows what rows (members_in t)
  members_left rule rows keeps (tree.object ts others) = refl
  members_left rule rows keeps t = sym (end_left rows)

  is_kept : (n : ℕ) (rows : Rows) → kept n rows ≡ true → strips_name what (name_at n rows) ≡ false
  is_kept n rows h = kept_by what (name_at n rows) h

  pub member_at : (n : ℕ) (rows : Rows) (ts : Trees) → kept n rows ≡ true → tree_at n (stripped_rows what rows ts) ≡ stripped what (kind_at n rows) (tree_at n ts)
  member_at n rows end h = ap (tree_at n) (end_left rows) ∙ sym (absent_left (kind_at n rows))
  member_at n no_rows (with_tree t ts) h = refl
  member_at zero (row name mark kind rows) (with_tree t ts) h = left_there (may_be_absent mark) (strips_name what name) (stripped what kind t) (is_kept zero (row name mark kind rows) h)
  member_at (suc n) (row name mark kind rows) (with_tree t ts) h = member_at n rows ts h

  absent_same : (kind : Kind) (t : Tree) → is_absent (stripped what kind t) ≡ is_absent t
  absent_same (ListOf kind) (tree.list ts) = refl
  absent_same (ListOf kind) t = refl
  absent_same (Object rule rows keeps) (tree.object ts others) = refl
  absent_same (Object rule rows keeps) t = refl
  absent_same kind t = refl

  entries_same : (kind : Kind) (t : Tree) → entries_in (stripped what kind t) ≡ entries_in t
  entries_same (ListOf kind) (tree.list ts) = refl
  entries_same (ListOf kind) t = refl
  entries_same (Object rule rows keeps) (tree.object ts others) = refl
  entries_same (Object rule rows keeps) t = refl
  entries_same kind t = refl

  spot_same : (kind : Kind) (t : Tree) → is_spot (stripped what kind t) ≡ is_spot t
  spot_same (ListOf kind) (tree.list ts) = refl
  spot_same (ListOf kind) t = refl
  spot_same (Object rule rows keeps) (tree.object ts others) = refl
  spot_same (Object rule rows keeps) t = refl
  spot_same kind t = refl

  pub count_same : (kind : Kind) (t : Tree) → count_of (items_in (stripped what kind t)) ≡ count_of (items_in t)
  count_same (ListOf kind) t = ap count_of (items_left kind t) ∙ count_each (stripped what kind) (items_in t)
  count_same (Object rule rows keeps) (tree.object ts others) = refl
  count_same (Object rule rows keeps) t = refl
  count_same kind t = refl

  extension_same : (enabled : List (List ℕ)) (kind : Kind) (t : Tree) (base : List Step) → extension_faults enabled (stripped what kind t) base ≡ extension_faults enabled t base
  extension_same enabled (ListOf kind) (tree.list ts) base = refl
  extension_same enabled (ListOf kind) t base = refl
  extension_same enabled (Object rule rows keeps) (tree.object ts others) base = refl
  extension_same enabled (Object rule rows keeps) t base = refl
  extension_same enabled kind t base = refl

  items_same : (f g : Tree → From) (h : Tree → Tree) → ((t : Tree) (base : List Step) → f (h t) base ≡ g t base) → (i : ℕ) (ts : Trees) (base : List Step)
      → items_reports f i (each_tree h ts) base ≡ items_reports g i ts base
  items_same f g h each i end base = refl
  items_same f g h each i (with_tree t ts) base = joined (each t (base ++ item i ∷ [])) (items_same f g h each (suc i) ts base)

  extensions_same : (enabled : List (List ℕ)) (kind : Kind) (t : Tree) (base : List Step)
      → items_reports (extension_faults enabled) 0 (items_in (stripped what kind t)) base ≡ items_reports (extension_faults enabled) 0 (items_in t) base
  extensions_same enabled (ListOf kind) t base =
      ap (λ ts. items_reports (extension_faults enabled) 0 ts base) (items_left kind t)
      ∙ items_same (extension_faults enabled) (extension_faults enabled) (stripped what kind) (extension_same enabled kind) 0 (items_in t) base
  extensions_same enabled (Object rule rows keeps) (tree.object ts others) base = refl
  extensions_same enabled (Object rule rows keeps) t base = refl
  extensions_same enabled kind t base = refl

  -- the bounds of an accessor are any JSON
  bounds_same : (t : Tree) (base : List Step) → bounds_faults (stripped what accessor_kind t) base ≡ bounds_faults t base
  unfolding accessor_rows
  bounds_same (tree.object ts others) base =
      joined
      (ap (λ t. bound_faults t (base ++ field (codes "min") ∷ [])) (member_at (row_named (codes "min") accessor_rows) accessor_rows ts refl))
      (ap (λ t. bound_faults t (base ++ field (codes "max") ∷ [])) (member_at (row_named (codes "max") accessor_rows) accessor_rows ts refl))
  bounds_same t base = refl

  -- ---- the reports of a tree, in a document of which the other is stripped

  module _ (rules : Rules) (old new : Tree) (counts : (named : ListName) → count_in named new ≡ count_in named old)
      (accessors : (n : ℕ) → tree_at n (list_in ListName.accessors new) ≡ stripped what accessor_kind (tree_at n (list_in ListName.accessors old))) where
    positions_same : (found : Option ℕ) (base : List Step) → positions_faults found new base ≡ positions_faults found old base
    positions_same None base = refl
    positions_same (Some n) base = ap (λ t. bounds_faults t base) (accessors n) ∙ bounds_same (tree_at n (list_in ListName.accessors old)) base

    rule_same : (rule : Rule) (rows : Rows) (ts : Trees) (base : List Step) → keeps_members rule rows ≡ true
        → rule_faults rule (stripped_rows what rows ts) (under rules new) base ≡ rule_faults rule ts (under rules old) base
    rule_same no_rule rows ts base h = refl
    rule_same holds_samplers rows ts base h = refl
    rule_same needs_data rows ts base h =
        let sparse = row_named (codes "sparse") accessor_rows in
        let view = row_named (codes "bufferView") accessor_rows in
        let parts = and_parts (kept sparse rows) (kept view rows) h in
        let at = base ++ field (codes "bufferView") ∷ [] in
        ap (λ b. report_if (b && is_absent (accessor_buffer_view (stripped_rows what rows ts))) Missing at)
        (ap is_absent (member_at sparse rows ts parts.0) ∙ absent_same (kind_at sparse rows) (tree_at sparse ts))
        ∙ ap (λ b. report_if (is_absent (accessor_sparse ts) && b) Missing at)
        (ap is_absent (member_at view rows ts parts.1) ∙ absent_same (kind_at view rows) (tree_at view ts))
    rule_same needs_projection rows ts base h =
        let flat = row_named (codes "orthographic") camera_rows in
        let deep = row_named (codes "perspective") camera_rows in
        let parts = and_parts (kept flat rows) (kept deep rows) h in
        ap (λ b. report_if (b && is_absent (camera_perspective (stripped_rows what rows ts))) Missing base)
        (ap is_absent (member_at flat rows ts parts.0) ∙ absent_same (kind_at flat rows) (tree_at flat ts))
        ∙ ap (λ b. report_if (is_absent (camera_orthographic ts) && b) Missing base)
        (ap is_absent (member_at deep rows ts parts.1) ∙ absent_same (kind_at deep rows) (tree_at deep ts))
    rule_same needs_cone rows ts base h =
        let type = row_named (codes "type") light_rows in
        let spot = row_named (codes "spot") light_rows in
        let parts = and_parts (kept type rows) (kept spot rows) h in
        let at = base ++ field (codes "spot") ∷ [] in
        ap (λ b. report_if (b && is_absent (light_spot (stripped_rows what rows ts))) Missing at)
        (ap is_spot (member_at type rows ts parts.0) ∙ spot_same (kind_at type rows) (tree_at type ts))
        ∙ ap (λ b. report_if (is_spot (light_type ts) && b) Missing at)
        (ap is_absent (member_at spot rows ts parts.1) ∙ absent_same (kind_at spot rows) (tree_at spot ts))
    rule_same needs_positions rows ts base h =
        let n = row_named (codes "attributes") primitive_rows in
        let at = (base ++ field (codes "attributes") ∷ []) ++ key (codes "POSITION") ∷ [] in
        ap (λ es. positions_faults (lookup is_positions es) new at) (ap entries_in (member_at n rows ts h) ∙ entries_same (kind_at n rows) (tree_at n ts))
        ∙ positions_same (lookup is_positions (entries_in (primitive_attributes ts))) at
    rule_same requires_enabled rows ts base h =
        let n = row_named (codes "extensionsRequired") root_rows in
        let at = base ++ field (codes "extensionsRequired") ∷ [] in
        ap (λ t. items_reports (extension_faults rules.enabled) 0 (items_in t) at) (member_at n rows ts h) ∙ extensions_same rules.enabled (kind_at n rows) (tree_at n ts) at

    -- the number of samplers that channels are compared with
    samplers_same : (rule : Rule) (rows : Rows) (ts : Trees) (t u above below : Tree) → keeps_members rule rows ≡ true → members_in t ≡ stripped_rows what rows ts → members_in u ≡ ts
        → sampler_count below ≡ sampler_count above → sampler_count (animation_below rule t below) ≡ sampler_count (animation_below rule u above)
    samplers_same holds_samplers rows ts t u above below h left was same =
        let n = row_named (codes "samplers") animation_rows in
        ap (λ ms. count_of (items_in (tree_at n ms))) left ∙ (ap (λ x. count_of (items_in x)) (member_at n rows ts h)
        ∙ (count_same (kind_at n rows) (tree_at n ts) ∙ ap (λ ms. count_of (items_in (tree_at n ms))) (sym was)))
    samplers_same no_rule rows ts t u above below h left was same = same
    samplers_same needs_data rows ts t u above below h left was same = same
    samplers_same needs_projection rows ts t u above below h left was same = same
    samplers_same needs_cone rows ts t u above below h left was same = same
    samplers_same needs_positions rows ts t u above below h left was same = same
    samplers_same requires_enabled rows ts t u above below h left was same = same

    -- a member that is left, or one that is stripped and has no reports
    left_same : (b : Bool) (kind : Kind) (t above below : Tree) (base : List Step) → (b ≡ true → is_any kind ≡ true)
        → reports kind (stripped what kind t) (under rules new) below base ≡ reports kind t (under rules old) above base
        → reports kind (if b then absent else stripped what kind t) (under rules new) below base ≡ reports kind t (under rules old) above base
    left_same false kind t above below base any same = same
    left_same true Any t above below base any same = refl
    left_same true kind t above below base any same = let is = any refl in absurd cc

    mutual
      pub tree_same : (kind : Kind) (t above below : Tree) (base : List Step) → has_plain_extras kind ≡ true → sampler_count below ≡ sampler_count above
          → reports kind (stripped what kind t) (under rules new) below base ≡ reports kind t (under rules old) above base
      tree_same (IndexInto named) t above below base plain same = ap (λ n. index_faults n t base) (counts named)
      tree_same SourceImage t above below base plain same = ap (λ n. source_faults rules.empty_texture n t base) (counts ListName.images)
      tree_same ChannelSampler t above below base plain same = ap (λ n. index_faults n t base) same
      tree_same (Attributes named) t above below base plain same = ap (λ n. entries_faults n (entries_in t) base) (counts named)
      tree_same (ListOf kind) t above below base plain same =
          ap (λ ts. items_reports (λ x. reports kind x (under rules new) below) 0 ts base) (items_left kind t)
          ∙ items_same (λ x. reports kind x (under rules new) below) (λ x. reports kind x (under rules old) above) (stripped what kind)
          (λ x at. tree_same kind x above below at plain same) 0 (items_in t) base
      tree_same (Object rule rows keeps) (tree.object ts others) above below base plain same =
          let parts = and_parts (keeps_members rule rows) (have_plain_extras rows) plain in
          let t = tree.object ts others in
          joined
          (rows_same rows ts (animation_below rule t above) (animation_below rule (stripped what (Object rule rows keeps) t) below) base parts.1
          (samplers_same rule rows ts (stripped what (Object rule rows keeps) t) t above below parts.0 refl refl same))
          (rule_same rule rows ts base parts.0)
      tree_same (Object rule rows keeps) t above below base plain same = refl
      tree_same kind t above below base plain same = refl

      rows_same : (rows : Rows) (ts : Trees) (above below : Tree) (base : List Step) → have_plain_extras rows ≡ true → sampler_count below ≡ sampler_count above
          → member_reports (stripped_rows what rows ts) rows (under rules new) below base ≡ member_reports ts rows (under rules old) above base
      rows_same no_rows end above below base plain same = refl
      rows_same (row name mark kind rows) end above below base plain same = refl
      rows_same no_rows (with_tree t ts) above below base plain same = refl
      rows_same (row name mark kind rows) (with_tree t ts) above below base plain same =
          let parts = and_parts (not (bytes_eq name (codes "extras")) || is_any kind) (has_plain_extras kind && have_plain_extras rows) plain in
          let inner = and_parts (has_plain_extras kind) (have_plain_extras rows) parts.1 in
          let at = base ++ field name ∷ [] in
          joined
          (left_same (may_be_absent mark && strips_name what name) kind t above below at
          (λ h. plain_there (bytes_eq name (codes "extras")) (is_any kind) parts.0 (strips_extras what name (where_stripped (may_be_absent mark) (strips_name what name) h)))
          (tree_same kind t above below at inner.0 same))
          (rows_same rows ts above below base inner.1 same)
