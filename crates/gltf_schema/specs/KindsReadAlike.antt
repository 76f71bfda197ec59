-- A row of one kind is read as one of another: the laws of ReadRows, of members in a map.
use Rattle.std.proofs.Common.{◌≡◌, ℕ, List, Option, Some, None, option_map, Ok, Err, refl, ap, ◌∙◌}
use Rattle.serde_json.specs.Data.{Data, Members}
use Rattle.serde_json.specs.Find.{get_member}
use Rattle.gltf_base.specs.declared.error.Error.{Error}
use Rattle.gltf_base.specs.declared.error.Error.TheVariants as errors
use Rattle.gltf_schema.specs.Outcome.{Refuses}
use Rattle.gltf_schema.specs.Tree.{Tree, whole, index}
use Rattle.gltf_schema.specs.Kind.{required, ChannelSampler, U32}
use Rattle.gltf_schema.specs.Read.{read, read_member, small_number}
use Rattle.gltf_schema.specs.Taken.{without, take_member}
use Rattle.gltf_schema.specs.RowReading.{TakesSource, TakesSampler, FromStart, TakesMember}

pub source_taken : TakesSource (FromStart TakesMember)
unfolding take_member
source_taken (Ok ms) new n mark t t' h = λ start. h start
source_taken (Err e) new n mark t t' h = λ start. h start

-- a row's number as an index
abbrev pub with_index : Tree × Members → Tree × Members
with_index (whole n, left) = (index n, left)
with_index r = r

index_taken : (r : Option ℕ) (left : Members) → option_map (λ t. (t, left)) (option_map index r) ≡ option_map with_index (option_map (λ t. (t, left)) (option_map whole r))
index_taken None left = refl
index_taken (Some n) left = refl

sampler_in : (m : Option Data) (left : Members)
    → option_map (λ t. (t, left)) (read_member required (read ChannelSampler) m) ≡ option_map with_index (option_map (λ t. (t, left)) (read_member required (read U32) m))
sampler_in None left = refl
sampler_in (Some d) left = index_taken (small_number d) left

pub sampler_member : (n : List ℕ) (ms : Members) → take_member n required ChannelSampler ms ≡ option_map with_index (take_member n required U32 ms)
unfolding take_member
sampler_member n ms = sampler_in (get_member n ms) (without n ms)

sampler_refused : (e : Error) (n : List ℕ) (ms : Members) → Refuses e (take_member n required U32 ms) → Refuses e (take_member n required ChannelSampler ms)
sampler_refused (errors.Memory e) n ms h = h
sampler_refused errors.Schema n ms h = sampler_member n ms ∙ ap (option_map with_index) h
sampler_refused _ n ms h = absurd h

pub sampler_taken : TakesSampler (FromStart TakesMember)
sampler_taken (Ok ms) (Ok left) n i j h = λ start. sampler_member n ms ∙ ap (option_map with_index) (h start)
sampler_taken (Ok ms) (Err e) n i j h = λ start. sampler_refused e n ms (h start)
sampler_taken (Err e) new n i j h = λ start. h start
