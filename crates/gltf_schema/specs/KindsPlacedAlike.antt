-- A row of one kind is read as one of another: the laws of ReadRows, where the place of what is
-- refused is kept.
use Rattle.std.proofs.Common.{◌≡◌, ℕ, List, [], ◌∷◌, Option, Some, None, option_map, Ok, Err, refl, ap, ◌∙◌}
use Rattle.serde_json.specs.Data.{Data, Members}
use Rattle.serde_json.specs.Find.{get_member}
use Rattle.gltf_base.specs.Lists.{images}
use Rattle.gltf_base.specs.Steps.{Step, field, item, key, value}
use Rattle.gltf_schema.specs.Tree.{whole, index}
use Rattle.gltf_schema.specs.Kind.{Mark, required, IndexInto, ChannelSampler, SourceImage, U32}
use Rattle.gltf_schema.specs.Read.{read, read_member, small_number}
use Rattle.gltf_schema.specs.KindsReadAlike.{with_index, sampler_member}
use Rattle.gltf_schema.specs.RowReading.{TakesSource, TakesSampler, FromStart}
use Rattle.gltf_schema.specs.Refused.{IsMissingOr, IsRefusedAt}
use Rattle.gltf_schema.specs.Taken.{take_member}
use Rattle.gltf_schema.specs.RowPlacing.{IsPlaceOfRow, PlacesMember}

image_at : (steps : List Step) (d : Data) → IsRefusedAt steps (IndexInto images) d → IsRefusedAt steps SourceImage d
image_at [] d h = h
image_at (field n ∷ steps) d h = h
image_at (item i ∷ steps) d h = h
image_at (key t ∷ steps) d h = h
image_at (value t ∷ steps) d h = h

image_in : (steps : List Step) (m : Option Data) → IsMissingOr steps (λ x. IsRefusedAt steps (IndexInto images) x) m → IsMissingOr steps (λ x. IsRefusedAt steps SourceImage x) m
image_in steps None h = h
image_in steps (Some d) h = image_at steps d h

image_row : (place : Option (List Step)) (n : List ℕ) (mark : Mark) (ms : Members) → IsPlaceOfRow place n mark (IndexInto images) ms → IsPlaceOfRow place n mark SourceImage ms
image_row None n mark ms h = tt
image_row (Some []) n mark ms h = h
image_row (Some (step ∷ steps)) n mark ms h = (h.0, h.1, image_in steps (get_member n ms) h.2)

pub source_placed : TakesSource (FromStart PlacesMember)
unfolding take_member
source_placed (Ok ms) (Ok left) n mark t t' h = λ start. h start
source_placed (Ok ms) (Err place) n mark t t' h = λ start. image_row place n mark ms (h start)
source_placed (Err place) new n mark t t' h = λ start. h start

none_indexed : (r : Option ℕ) → option_map whole r ≡ None → option_map index r ≡ None
none_indexed None h = refl
none_indexed (Some n) h = absurd cc

number_at : (steps : List Step) (d : Data) → IsRefusedAt steps U32 d → IsRefusedAt steps ChannelSampler d
number_at [] d h = none_indexed (small_number d) h
number_at (field n ∷ steps) d h = h
number_at (item i ∷ steps) d h = h
number_at (key t ∷ steps) d h = h
number_at (value t ∷ steps) d h = h

number_in : (steps : List Step) (m : Option Data) → IsMissingOr steps (λ x. IsRefusedAt steps U32 x) m → IsMissingOr steps (λ x. IsRefusedAt steps ChannelSampler x) m
number_in steps None h = h
number_in steps (Some d) h = number_at steps d h

number_none : (m : Option Data) → read_member required (read U32) m ≡ None → read_member required (read ChannelSampler) m ≡ None
number_none None h = refl
number_none (Some d) h = none_indexed (small_number d) h

number_row : (place : Option (List Step)) (n : List ℕ) (ms : Members) → IsPlaceOfRow place n required U32 ms → IsPlaceOfRow place n required ChannelSampler ms
number_row None n ms h = tt
number_row (Some []) n ms h = h
number_row (Some (step ∷ steps)) n ms h = (h.0, number_none (get_member n ms) h.1, number_in steps (get_member n ms) h.2)

pub sampler_placed : TakesSampler (FromStart PlacesMember)
sampler_placed (Ok ms) (Ok left) n i j h = λ start. sampler_member n ms ∙ ap (option_map with_index) (h start)
sampler_placed (Ok ms) (Err place) n i j h = λ start. number_row place n ms (h start)
sampler_placed (Err place) new n i j h = λ start. h start
