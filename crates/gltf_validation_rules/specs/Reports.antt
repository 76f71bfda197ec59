-- Everything that is wrong in a tree, in order.
use Rattle.std.specs.Prelude.{List, [], ◌∷◌, ◌++◌}
use Rattle.gltf_base.specs.Lists.{ListName}
use Rattle.gltf_base.specs.Steps.{field}
use Rattle.gltf_schema.specs.Tree.{Tree, absent, Trees, end, with_tree, items_in, members_in, entries_in}
use Rattle.gltf_schema.specs.Kind.{Kind, IndexInto, SourceImage, ChannelSampler, Stride, Choice, Attributes, ListOf, Object, Rows, no_rows, row, Rule, no_rule, needs_data, needs_projection, needs_cone, needs_positions, requires_enabled, holds_samplers}
use Rattle.gltf_root.specs.Lists.{count_in, sampler_count}
use Rattle.gltf_root.specs.Root.{root_kind}
use Rattle.gltf_validation_rules.specs.Report.{Report, From}
use Rattle.gltf_validation_rules.specs.Context.{Rules, Context, under}
use Rattle.gltf_validation_rules.specs.Faults.{index_faults, source_faults, stride_faults, choice_faults, entries_faults, items_reports}
use Rattle.gltf_validation_rules.specs.Rules.{object_faults}

-- the animation that the members of an object are below: itself, or the one above
abbrev pub animation_below : Rule → Tree → Tree → Tree
animation_below no_rule t above = above
animation_below needs_data t above = above
animation_below needs_projection t above = above
animation_below needs_cone t above = above
animation_below needs_positions t above = above
animation_below requires_enabled t above = above
animation_below holds_samplers t above = t

abbrev mutual
  -- what is wrong in a tree of a kind, against a document, by rules, below an animation or none,
  -- from a base. An object has its members' reports in the rows' order, and then its rule's
  pub reports : Kind → Tree → Context → Tree → From
  reports (IndexInto named) t context animation base = index_faults (count_in named context.root) t base
  reports SourceImage t context animation base = source_faults context.rules.empty_texture (count_in ListName.images context.root) t base
  reports ChannelSampler t context animation base = index_faults (sampler_count animation) t base
  reports Stride t context animation base = stride_faults t base
  reports (Choice form spellings) t context animation base = choice_faults t base
  reports (Attributes named) t context animation base = entries_faults (count_in named context.root) (entries_in t) base
  reports (ListOf kind) t context animation base = items_reports (λ x. reports kind x context animation) 0 (items_in t) base
  reports (Object rule rows keeps) t context animation base =
      member_reports (members_in t) rows context (animation_below rule t animation) base ++ object_faults t rule context base
  reports _ t context animation base = []

  pub member_reports : Trees → Rows → Context → Tree → From
  member_reports end rows context animation base = []
  member_reports (with_tree t ts) no_rows context animation base = []
  member_reports (with_tree t ts) (row n mark kind rows) context animation base =
      reports kind t context animation (base ++ field n ∷ []) ++ member_reports ts rows context animation base

-- what is wrong in a value by itself, below no animation, against a document
abbrev pub reports_by_rules : Rules → Kind → Tree → Tree → From
reports_by_rules rules kind t root base = reports kind t (under rules root) absent base

-- what is wrong in a document, against itself, by rules
abbrev pub document_reports : Rules → Tree → List Report
document_reports rules t = reports_by_rules rules root_kind t t []
