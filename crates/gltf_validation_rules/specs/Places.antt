-- The places of a tree, and what is wrong at each.
use Rattle.std.specs.Prelude.{ℕ, suc, List, [], ◌∷◌, ◌++◌}
use Rattle.std.specs.List.{flat_map}
use Rattle.gltf_base.specs.Keys.{Key, unknown, key_text}
use Rattle.gltf_base.specs.Lists.{ListName}
use Rattle.gltf_base.specs.Spelling.{by_name}
use Rattle.gltf_base.specs.Steps.{Step, field, item, key}
use Rattle.gltf_base.specs.declared.choice.Form.TheVariants as form
use Rattle.gltf_schema.specs.Tree.{Tree, absent, index, chosen, invalid, object, Trees, end, with_tree, items_in, members_in, entries_in}
use Rattle.gltf_schema.specs.Kind.{Kind, IndexInto, SourceImage, ChannelSampler, Stride, Choice, Attributes, ListOf, Object, Rows, no_rows, row}
use Rattle.gltf_root.specs.Lists.{count_in, sampler_count}
use Rattle.gltf_validation_rules.specs.Report.{Report}
use Rattle.gltf_validation_rules.specs.Context.{Rules, Context, under}
use Rattle.gltf_validation_rules.specs.Faults.{index_faults, source_faults, stride_faults, choice_faults}
use Rattle.gltf_validation_rules.specs.Rules.{object_faults}
use Rattle.gltf_validation_rules.specs.Reports.{animation_below}

-- the steps to a place, the kind and the tree there, and the animation that it is below, or none
pub record Place : Type 0 where
  pub steps : List Step
  pub kind : Kind
  pub tree : Tree
  pub animation : Tree

-- one place, or none where there is nothing
abbrev pub place_of : Kind → Tree → Tree → List Step → List Place
place_of kind absent animation base = []
place_of kind t animation base = record { steps = base; kind = kind; tree = t; animation = animation } ∷ []

-- an object's own place, behind those of its members
abbrev pub object_place : Kind → Tree → Tree → List Step → List Place
object_place kind (object ts others) animation base = record { steps = base; kind = kind; tree = object ts others; animation = animation } ∷ []
object_place kind _ animation base = []

-- a key as a choice: its text, or none that is known
abbrev pub key_kind : Kind
key_kind = Choice form.Name []

abbrev pub key_tree : Key → Tree
key_tree unknown = invalid
key_tree k = chosen (by_name (key_text k))

-- each attribute has a place for its key and one for its index
abbrev pub entry_places : ListName → List (Key × ℕ) → Tree → List Step → List Place
entry_places named [] animation base = []
entry_places named (e ∷ es) animation base =
    place_of key_kind (key_tree e.0) animation (base ++ key (key_text e.0) ∷ [])
    ++ place_of (IndexInto named) (index e.1) animation (base ++ key (key_text e.0) ∷ [])
    ++ entry_places named es animation base

abbrev pub item_places : (Tree → List Step → List Place) → ℕ → Trees → List Step → List Place
item_places f i end base = []
item_places f i (with_tree t ts) base = f t (base ++ item i ∷ []) ++ item_places f (suc i) ts base

abbrev mutual
  -- the places in a tree of a kind, below an animation or none, from a base
  pub places : Kind → Tree → Tree → List Step → List Place
  places (Attributes named) t animation base = entry_places named (entries_in t) animation base
  places (ListOf kind) t animation base = item_places (λ x. places kind x animation) 0 (items_in t) base
  places (Object rule rows keeps) t animation base =
      member_places (members_in t) rows (animation_below rule t animation) base ++ object_place (Object rule rows keeps) t animation base
  places kind t animation base = place_of kind t animation base

  pub member_places : Trees → Rows → Tree → List Step → List Place
  member_places end rows animation base = []
  member_places (with_tree t ts) no_rows animation base = []
  member_places (with_tree t ts) (row n mark kind rows) animation base =
      places kind t animation (base ++ field n ∷ []) ++ member_places ts rows animation base

-- what is wrong at a place, against a document, by rules
abbrev pub kind_faults : Kind → Tree → Context → Tree → List Step → List Report
kind_faults (IndexInto named) t context animation base = index_faults (count_in named context.root) t base
kind_faults SourceImage t context animation base = source_faults context.rules.empty_texture (count_in ListName.images context.root) t base
kind_faults ChannelSampler t context animation base = index_faults (sampler_count animation) t base
kind_faults Stride t context animation base = stride_faults t base
kind_faults (Choice form spellings) t context animation base = choice_faults t base
kind_faults (Object rule rows keeps) t context animation base = object_faults t rule context base
kind_faults _ t context animation base = []

abbrev pub faults : Context → Place → List Report
faults context p = kind_faults p.kind p.tree context p.animation p.steps

-- the faults of all places, in order
abbrev pub reports_by_places : Rules → Kind → Tree → Tree → List Step → List Report
reports_by_places rules kind t root base = flat_map (faults (under rules root)) (places kind t absent base)
