-- What each method of ReadRows gives where rows are stripped in their places.
use Rattle.std.proofs.Common.{◌≡◌, ℕ, List, true, ap}
use Rattle.serde_json.specs.Data.{Members}
use Rattle.gltf_schema.specs.Tree.{Tree, whole, index}
use Rattle.gltf_schema.specs.Kind.{Mark, Kind}
use Rattle.gltf_schema.specs.RowReading.{TakesSource, TakesSampler}
use Rattle.gltf_schema.specs.Stripped.{stripped, member_left, others_left}
use Rattle.gltf_schema.specs.declared.stripping.Strip.{Strip}

-- a row's member is left without what is stripped
abbrev pub StripsMember : Strip → List ℕ → Mark → Kind → Tree → Tree → Strip → Type 0
StripsMember what n mark kind t t' new = (new ≡ what) × (t' ≡ member_left what n mark (stripped what kind t))

-- the members that an object keeps are left without what is stripped
abbrev pub StripsOthers : Strip → Members → Members → Strip → Type 0
StripsOthers what ms ms' new = (new ≡ what) × (ms' ≡ others_left what true ms)

pub source_stripped : TakesSource StripsMember
source_stripped old new n mark t t' h = h

-- the tree of a number as that of an index
abbrev as_index : Tree → Tree
as_index (whole n) = index n
as_index t = t

pub sampler_stripped : TakesSampler StripsMember
sampler_stripped old new n i j h = (h.0, ap as_index h.1)
