-- What each method of ReadRows gives where the members of an object are gathered.
use Rattle.std.proofs.Common.{◌≡◌, ◌++◌, ℕ, List, [], ◌∷◌, Bool, true, false, Option, Some, None, Result, Ok, Err}
use Rattle.std.specs.Prelude.{⊤}
use Rattle.serde_json.specs.Data.{Members}
use Rattle.gltf_schema.specs.Tree.{Tree}
use Rattle.gltf_schema.specs.Kind.{Mark, Kind}
use Rattle.gltf_schema.specs.RowReading.{TakesSource, TakesSampler}
use Rattle.gltf_schema.specs.Outline.{IsShapeOf, presence_of}
use Rattle.gltf_schema.specs.declared.outline.Shape.{Shape}
use Rattle.gltf_schema.specs.declared.outline.Presence.{Presence}
use Rattle.gltf_schema.specs.declared.outline.Member.{Member}

-- what was gathered: nodes, the object's members, and whether it keeps unknown ones
pub record Drawn : Type 0 where
  pub nodes : List Shape
  pub members : List Member
  pub keeps : Bool

-- nothing is said of what was gathered once memory was refused
abbrev pub drawn : Bool → List Shape → List Member → Bool → Option Drawn
drawn true nodes members keeps = None
drawn false nodes members keeps = Some (record { nodes = nodes; members = members; keeps = keeps })

-- a member was added behind the nodes of its value
abbrev pub IsAdded : List Shape → List Member → List ℕ → Presence → Kind → List Shape → List Member → Type 0
IsAdded ns ms n presence kind ns' ms' = (more : List Shape) × (m : Member) × (ns' ≡ ns ++ more) × (ms' ≡ ms ++ m ∷ []) × (m.name.now ≡ n) × (m.presence ≡ presence) × IsShapeOf ns' m.value kind

abbrev pub AddsMember : {X E : Type 0} → Result X E → List Shape → List Member → List ℕ → Presence → Kind → List Shape → List Member → Type 0
AddsMember (Ok u) ns ms n presence kind ns' ms' = IsAdded ns ms n presence kind ns' ms'
AddsMember (Err e) ns ms n presence kind ns' ms' = ⊤

abbrev pub DrawsRow : Option Drawn → List ℕ → Presence → Kind → Option Drawn → Type 0
DrawsRow None n presence kind new = new ≡ None
DrawsRow (Some d) n presence kind None = ⊤
DrawsRow (Some d) n presence kind (Some d') = (d'.keeps ≡ d.keeps) × IsAdded d.nodes d.members n presence kind d'.nodes d'.members

abbrev pub DrawsMember : Option Drawn → List ℕ → Mark → Kind → Tree → Tree → Option Drawn → Type 0
DrawsMember old n mark kind t t' new = DrawsRow old n (presence_of mark) kind new

-- the object keeps unknown members
abbrev pub DrawsOthers : Option Drawn → Members → Members → Option Drawn → Type 0
DrawsOthers None ms ms' new = new ≡ None
DrawsOthers (Some d) ms ms' new = new ≡ Some (record { nodes = d.nodes; members = d.members; keeps = true })

pub source_drawn : TakesSource DrawsMember
source_drawn None new n mark t t' h = h
source_drawn (Some d) None n mark t t' h = h
source_drawn (Some d) (Some d') n mark t t' h = h

pub sampler_drawn : TakesSampler DrawsMember
sampler_drawn None new n i j h = h
sampler_drawn (Some d) None n i j h = h
sampler_drawn (Some d) (Some d') n i j h = h
