-- A row of one kind is read as one of another: the laws of ReadRows, of members as they come.
use Rattle.std.proofs.Common.{◌≡◌, ◌⊎◌, inl, inr, ℕ, List, Option, Some, None, option_map, refl, ap, ◌∙◌}
use Rattle.gltf_schema.specs.Tree.{Tree, whole, index}
use Rattle.gltf_schema.specs.Kind.{required, ChannelSampler, U32}
use Rattle.gltf_schema.specs.Read.{small_number}
use Rattle.gltf_schema.specs.RowReading.{TakesSource, TakesSampler}
use Rattle.gltf_schema.specs.Streamed.{Ahead, Passes, Takes, TakesNext}

pub source_next : TakesSource TakesNext
source_next old new n mark t t' h = h

-- the tree of a number as that of an index
abbrev as_index : Tree → Tree
as_index (whole n) = index n
as_index t = t

indexed : (r : Option ℕ) → option_map index r ≡ option_map as_index (option_map whole r)
indexed None = refl
indexed (Some n) = refl

sampler_at : (old new : Ahead) (n : List ℕ) (i j : ℕ) → Passes old n required (whole i) (whole j) new ⊎ Takes old n required U32 (whole j) new
    → Passes old n required (index i) (index j) new ⊎ Takes old n required ChannelSampler (index j) new
sampler_at old new n i j (inl s) = inl (s.0, ap as_index s.1, s.2, s.3, s.4, s.5, s.6)
sampler_at old new n i j (inr g) =
    let d = g.1.0 in
    inr (g.0, (d, g.1.1, indexed (small_number d) ∙ ap (option_map as_index) g.1.2), g.2, g.3, g.4, g.5)

pub sampler_next : TakesSampler TakesNext
sampler_next old new n i j h = λ well. let r = h well in (r.0, sampler_at old new n i j r.1)
