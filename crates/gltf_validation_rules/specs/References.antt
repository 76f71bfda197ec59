-- What a tree refers to. Sections are those of glTF 2.0.
use Rattle.std.specs.Prelude.{ℕ, List, [], ◌∷◌, ◌++◌, cond, nat_eq}
use Rattle.std.specs.List.{flat_map}
use Rattle.gltf_base.specs.Keys.{Key}
use Rattle.gltf_base.specs.Lists.{ListName}
use Rattle.gltf_schema.specs.Tree.{Tree, index, invalid, Trees, end, with_tree, items_in, members_in, entries_in}
use Rattle.gltf_schema.specs.Kind.{Kind, IndexInto, SourceImage, ChannelSampler, Choice, Attributes, ListOf, Object, Rows, row, Rule, holds_samplers}
use Rattle.gltf_schema.specs.Invalid.{is_unknown}
use Rattle.gltf_parts.specs.Texture.{no_image}

-- one reference in a tree
pub data Reference : Type 0 where
  -- an index: the number of an item in a list of the document (3.3)
  item_of : ListName → ℕ → Reference
  -- a channel's index: the number of a sampler in an animation (5.6.1)
  sampler_of : Tree → ℕ → Reference
  -- a texture's image, if it has none (5.29.2)
  missing_image : Reference
  -- an item of a choice that is none of those listed (section 5), or a key that means nothing
  -- (3.7.2.1)
  unlisted : Reference

-- the image of a texture: the number 2^32 - 1 means none, and is no index
abbrev pub image_of : ℕ → Reference
image_of n = cond (nat_eq n no_image) missing_image (item_of ListName.images n)

-- a tree that is an index refers to what the index names
abbrev pub in_index : (ℕ → Reference) → Tree → List Reference
in_index f (index n) = f n ∷ []
in_index f _ = []

-- a choice is listed, unless it is invalid
abbrev pub in_choice : Tree → List Reference
in_choice invalid = unlisted ∷ []
in_choice _ = []

-- an attribute: its key, if that means nothing, and its index (5.24.1)
abbrev pub in_entry : ListName → Key × ℕ → List Reference
in_entry named e = cond (is_unknown e.0) (unlisted ∷ []) [] ++ item_of named e.1 ∷ []

abbrev pub in_items : (Tree → List Reference) → Trees → List Reference
in_items f end = []
in_items f (with_tree t ts) = f t ++ in_items f ts

-- the animation that an object's members are in: the object, if it is an animation, else the one
-- around it
abbrev pub animation_of : Rule → Tree → Tree → Tree
animation_of holds_samplers t around = t
animation_of rule t around = around

abbrev mutual
  -- each reference in a tree of a kind, in order, where the last tree is the animation around it,
  -- or absent
  pub references : Kind → Tree → Tree → List Reference
  references (IndexInto named) t animation = in_index (λ n. item_of named n) t
  references SourceImage t animation = in_index image_of t
  references ChannelSampler t animation = in_index (λ n. sampler_of animation n) t
  references (Choice form spellings) t animation = in_choice t
  references (Attributes named) t animation = flat_map (in_entry named) (entries_in t)
  references (ListOf kind) t animation = in_items (λ x. references kind x animation) (items_in t)
  references (Object rule rows keeps) t animation = in_members (members_in t) rows (animation_of rule t animation)
  references _ t animation = []

  -- each member is of its row's kind
  pub in_members : Trees → Rows → Tree → List Reference
  in_members (with_tree t ts) (row n mark kind rows) animation = references kind t animation ++ in_members ts rows animation
  in_members _ _ animation = []
