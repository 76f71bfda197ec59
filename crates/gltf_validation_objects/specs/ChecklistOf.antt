-- The checklist of a tree of the table.
use Rattle.std.specs.Prelude.{ℕ, suc, List, [], ◌∷◌, ◌++◌, Bool, true, false, cond, ◌&&◌, codes, Option, Some, None}
use Rattle.std.specs.Map.{lookup}
use Rattle.gltf_base.specs.Keys.{Key, key_text}
use Rattle.gltf_base.specs.Lists.{ListName}
use Rattle.gltf_base.specs.Steps.{Step, field, item, key, value}
use Rattle.gltf_base.specs.declared.validation.Error.{Error}
use Rattle.gltf_schema.specs.Tree.{Tree, text, object, Trees, end, with_tree, items_in, members_in, entries_in}
use Rattle.gltf_schema.specs.Kind.{Kind, IndexInto, SourceImage, ChannelSampler, Stride, Choice, Attributes, ListOf, Object, Rows, no_rows, row, Rule, needs_data, needs_projection, needs_cone, needs_positions, requires_enabled}
use Rattle.gltf_root.specs.Lists.{count_in, sampler_count}
use Rattle.gltf_validation_rules.specs.Report.{Report, From, first_fault_of}
use Rattle.gltf_validation_rules.specs.Context.{Context}
use Rattle.gltf_validation_rules.specs.Faults.{index_faults, source_faults, stride_faults, choice_faults, key_faults, number_faults}
use Rattle.gltf_validation_rules.specs.Reports.{animation_below}
use Rattle.gltf_validation_rules.specs.Rules.{accessor_rule, camera_rule, light_rule, positions_faults, is_positions, primitive_attributes, root_extensions_required, extension_faults}
use Rattle.gltf_schema.specs.Silence.{is_silent}
use Rattle.gltf_validation_rules.specs.ReportPlaces.{same_step}
use Rattle.gltf_validation_rules.specs.declared.primitive.PositionFaults.{PositionFaults}
use Rattle.gltf_validation_objects.specs.Checklist.{Checklist, place, Checklists, nothing, below, fault_list, leaf, also}

-- ---- what is wrong at one place

abbrev pub same_steps : List Step → List Step → Bool
same_steps [] [] = true
same_steps (s ∷ ss) (u ∷ us) = same_step s u && same_steps ss us
same_steps _ _ = false

-- the fault of the first report at the steps
abbrev pub fault_among : List Step → List Report → Option Error
fault_among steps [] = None
fault_among steps (r ∷ rs) = cond (same_steps steps r.steps) (Some r.error) (fault_among steps rs)

-- the fault of the first report, at any place
abbrev pub fault_of_reports : From → Option Error
fault_of_reports f = first_fault_of (f [])

-- a place with nothing below and the first of these faults
abbrev pub leaf_of : From → Checklist
leaf_of f = leaf (fault_of_reports f)

-- ---- attributes and lists

-- an attribute: what is wrong with its key, then what is wrong with its index
abbrev pub entry_checklist : Option Error → Option Error → Checklist
entry_checklist in_key in_index = place nothing (fault_list in_key ++ fault_list in_index)

-- each attribute, at its key
abbrev pub entry_checklists : ℕ → List (Key × ℕ) → Checklists
entry_checklists count [] = nothing
entry_checklists count (e ∷ es) =
    below (key (key_text e.0)) (entry_checklist (fault_of_reports (key_faults e.0)) (fault_of_reports (number_faults count e.1))) (entry_checklists count es)

abbrev pub item_checklists : (Tree → Checklist) → ℕ → Trees → Checklists
item_checklists f i end = nothing
item_checklists f i (with_tree t ts) = below (item i) (f t) (item_checklists f (suc i) ts)

-- ---- the rules of objects, for places below the object

-- the faults at the positions and at the bounds of their accessor
abbrev pub bounds_checklist : Option Error → Option Error → Option Error → Checklist
bounds_checklist positions min max = place (below (field (codes "min")) (leaf min) (below (field (codes "max")) (leaf max) nothing)) (fault_list positions)

abbrev pub faults_checklist : PositionFaults → Checklist
faults_checklist f = bounds_checklist f.positions f.min f.max

abbrev pub positions_checklist : From → Checklist
positions_checklist f =
    bounds_checklist (fault_among [] (f [])) (fault_among (field (codes "min") ∷ []) (f [])) (fault_among (field (codes "max") ∷ []) (f []))

abbrev pub at_positions : Checklist → Checklist
at_positions p = place (below (key (codes "POSITION")) p nothing) []

abbrev pub name_checklist : List (List ℕ) → Tree → Checklist
name_checklist enabled (text s) = place (below (value s) (leaf_of (extension_faults enabled (text s))) nothing) []
name_checklist enabled _ = leaf None

abbrev pub rule_checklists : Rule → Tree → Context → Checklists
rule_checklists needs_data (object ts others) context = below (field (codes "bufferView")) (leaf_of (accessor_rule ts)) nothing
rule_checklists needs_cone (object ts others) context = below (field (codes "spot")) (leaf_of (light_rule ts)) nothing
rule_checklists needs_positions (object ts others) context =
    below (field (codes "attributes")) (at_positions (positions_checklist (positions_faults (lookup is_positions (entries_in (primitive_attributes ts))) context.root))) nothing
rule_checklists requires_enabled (object ts others) context =
    below (field (codes "extensionsRequired")) (place (item_checklists (name_checklist context.rules.enabled) 0 (items_in (root_extensions_required ts))) []) nothing
rule_checklists _ _ context = nothing

-- the rule of an object, for the object's own place
abbrev pub own_fault : Rule → Tree → Option Error
own_fault needs_projection (object ts others) = fault_of_reports (camera_rule ts)
own_fault _ _ = None

-- ---- kinds

abbrev pub unless_silent : Bool → List ℕ → Checklist → Checklists → Checklists
unless_silent is_silent n p ps = cond is_silent ps (below (field n) p ps)

abbrev mutual
  -- the checklist of a tree of a kind, in a context, below an animation or none; members that cannot be wrong are left out
  pub checklist : Kind → Tree → Context → Tree → Checklist
  checklist (IndexInto named) t context animation = leaf_of (index_faults (count_in named context.root) t)
  checklist SourceImage t context animation = leaf_of (source_faults context.rules.empty_texture (count_in ListName.images context.root) t)
  checklist ChannelSampler t context animation = leaf_of (index_faults (sampler_count animation) t)
  checklist Stride t context animation = leaf_of (stride_faults t)
  checklist (Choice form spellings) t context animation = leaf_of (choice_faults t)
  checklist (Attributes named) t context animation = place (entry_checklists (count_in named context.root) (entries_in t)) []
  checklist (ListOf kind) t context animation = place (item_checklists (λ x. checklist kind x context animation) 0 (items_in t)) []
  checklist (Object rule rows keeps) t context animation =
      place (also (member_checklists (members_in t) rows context (animation_below rule t animation)) (rule_checklists rule t context)) (fault_list (own_fault rule t))
  checklist _ t context animation = leaf None

  pub member_checklists : Trees → Rows → Context → Tree → Checklists
  member_checklists end rows context animation = nothing
  member_checklists (with_tree t ts) no_rows context animation = nothing
  member_checklists (with_tree t ts) (row n mark kind rows) context animation =
      unless_silent (is_silent kind) n (checklist kind t context animation) (member_checklists ts rows context animation)
