-- Nothing is wrong in what is silent.
use Rattle.std.proofs.Common.{◌≡◌, ℕ, suc, List, [], ◌∷◌, ◌++◌, true, refl}
use Rattle.std.proofs.lemmas.Bool.{and_parts}
use Rattle.gltf_base.specs.Steps.{Step, field, item}
use Rattle.gltf_schema.specs.Tree as tree
use Rattle.gltf_schema.specs.Tree.{Tree, Trees, end, with_tree, items_in, members_in}
use Rattle.gltf_schema.specs.Kind.{Kind, IndexInto, SourceImage, ChannelSampler, Stride, Choice, Attributes, ListOf, Object, Rows, no_rows, row, Rule, no_rule, needs_data, needs_projection, needs_cone, needs_positions, requires_enabled, holds_samplers}
use Rattle.gltf_validation_rules.specs.Report.{From}
use Rattle.gltf_validation_rules.specs.Context.{Context}
use Rattle.gltf_validation_rules.specs.Rules.{object_faults, rule_faults}
use Rattle.gltf_validation_rules.specs.Faults.{items_reports}
use Rattle.gltf_validation_rules.specs.Reports.{animation_below, reports, member_reports}
use Rattle.gltf_schema.specs.Silence.{is_silent_rule, is_silent, are_silent}
use Rattle.gltf_validation_rules.proofs.TwoParts.{joined}

rule_silent : (rule : Rule) → is_silent_rule rule ≡ true → (ts : Trees) (context : Context) (base : List Step) → rule_faults rule ts context base ≡ []
rule_silent no_rule h ts context base = refl
rule_silent needs_data h ts context base = absurd cc
rule_silent needs_projection h ts context base = absurd cc
rule_silent needs_cone h ts context base = absurd cc
rule_silent needs_positions h ts context base = absurd cc
rule_silent requires_enabled h ts context base = absurd cc
rule_silent holds_samplers h ts context base = refl

object_silent : (rule : Rule) → is_silent_rule rule ≡ true → (t : Tree) (context : Context) (base : List Step) → object_faults t rule context base ≡ []
object_silent rule h (tree.object ts others) context base = rule_silent rule h ts context base
object_silent rule h t context base = refl

no_items : (f : Tree → From) → ((t : Tree) (base : List Step) → f t base ≡ []) → (i : ℕ) (ts : Trees) (base : List Step) → items_reports f i ts base ≡ []
no_items f h i end base = refl
no_items f h i (with_tree t ts) base = joined (h t (base ++ item i ∷ [])) (no_items f h (suc i) ts base)

mutual
  pub silent : (kind : Kind) → is_silent kind ≡ true → (t : Tree) (context : Context) (animation : Tree) (base : List Step) → reports kind t context animation base ≡ []
  silent (IndexInto named) h t context animation base = absurd cc
  silent SourceImage h t context animation base = absurd cc
  silent ChannelSampler h t context animation base = absurd cc
  silent Stride h t context animation base = absurd cc
  silent (Choice form spellings) h t context animation base = absurd cc
  silent (Attributes named) h t context animation base = absurd cc
  silent (ListOf kind) h t context animation base = no_items (λ x. reports kind x context animation) (λ x at. silent kind h x context animation at) 0 (items_in t) base
  silent (Object rule rows keeps) h t context animation base =
      let parts = and_parts (is_silent_rule rule) (are_silent rows) h in
      joined (silent_members rows parts.1 (members_in t) context (animation_below rule t animation) base) (object_silent rule parts.0 t context base)
  silent kind h t context animation base = refl

  silent_members : (rows : Rows) → are_silent rows ≡ true → (ts : Trees) (context : Context) (animation : Tree) (base : List Step) → member_reports ts rows context animation base ≡ []
  silent_members no_rows h end context animation base = refl
  silent_members no_rows h (with_tree t ts) context animation base = refl
  silent_members (row n mark kind rows) h end context animation base = refl
  silent_members (row n mark kind rows) h (with_tree t ts) context animation base =
      let parts = and_parts (is_silent kind) (are_silent rows) h in
      joined (silent kind parts.0 t context animation (base ++ field n ∷ [])) (silent_members rows parts.1 ts context animation base)
