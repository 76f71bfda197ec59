-- What each method of ReadRows gives, and what an object's rows and other members are read as.
-- Each definition stays folded in a record, which keeps an object's chain of rows from being computed.
use Rattle.std.specs.Prelude.{◌≡◌, ◌+◌, ⊤, ℕ, List, Bool, true, false, cond, Option, Some, None, option_map, Result, Ok, Err}
use Rattle.serde_json.specs.Data.{Data, Members, no_members}
use Rattle.serde_json.specs.Find.{get_member}
use Rattle.gltf_base.specs.Lists.{images}
use Rattle.gltf_base.specs.declared.error.Error.{Error}
use Rattle.gltf_schema.specs.Outcome.{Reads}
use Rattle.gltf_schema.specs.Tree.{Tree, absent, whole, index, Trees, end, with_tree}
use Rattle.gltf_schema.specs.Kind.{Mark, required, optional, always, unless, sometimes, or_null, Kind, IndexInto, SourceImage, ChannelSampler, U32, Rows, no_rows, row}
use Rattle.gltf_schema.specs.Read.{read}
use Rattle.gltf_schema.specs.Taken.{without, take_member}

-- one row was read: its place held the first tree before, and holds the second one now
pub record ReadsRow {S : Type 0} (Takes : S → List ℕ → Mark → Kind → Tree → Tree → S → Type 0) (old : S) (n : List ℕ) (mark : Mark) (kind : Kind) (t t' : Tree) (new : S) : Type 0 where
  pub is : Takes old n mark kind t t' new

-- the members that no row took were read into a place
pub record ReadsOthers {S : Type 0} (Leaves : S → Members → Members → S → Type 0) (old : S) (ms ms' : Members) (new : S) : Type 0 where
  pub is : Leaves old ms ms' new

-- each row was read, in the rows' order
abbrev pub RowsFrom : {S : Type 0} → (S → List ℕ → Mark → Kind → Tree → Tree → S → Type 0) → S → Rows → Trees → Trees → S → Type 0
RowsFrom Takes old no_rows end end new = new ≡ old
RowsFrom {S} Takes old (row n mark kind rows) (with_tree t ts) (with_tree t' ts') new = (mid : S) × Takes old n mark kind t t' mid × RowsFrom Takes mid rows ts ts' new
RowsFrom Takes old _ _ _ new = ⊥

-- the members that no row took are kept, or not looked at
abbrev pub OthersFrom : {S : Type 0} → (S → Members → Members → S → Type 0) → Bool → S → Members → Members → S → Type 0
OthersFrom Leaves true old ms ms' new = Leaves old ms ms' new
OthersFrom Leaves false old ms ms' new = (ms' ≡ no_members) × (new ≡ old)

-- an object's members were read: each row's, and then those that no row took, if it keeps them
pub record ReadsMembers {S : Type 0} (Takes : S → List ℕ → Mark → Kind → Tree → Tree → S → Type 0) (Leaves : S → Members → Members → S → Type 0) (rows : Rows) (keeps : Bool) (ts ts' : Trees) (ms ms' : Members) (old new : S) : Type 0 where
  pub mid : S
  pub rows_from : RowsFrom Takes old rows ts ts' mid
  pub others_from : OthersFrom Leaves keeps mid ms ms' new

-- what the place of a row holds before its member is read
abbrev pub StartsRow : Mark → Tree → Type 0
StartsRow required t = ⊤
StartsRow optional t = t ≡ absent
StartsRow (always given) t = t ≡ given
StartsRow (unless given) t = t ≡ given
StartsRow sometimes t = t ≡ absent
StartsRow or_null t = t ≡ absent

-- each place of an object holds what its row is if its member is missing
abbrev pub Starts : Rows → Trees → Type 0
Starts no_rows end = ⊤
Starts (row n mark kind rows) (with_tree t ts) = StartsRow mark t × Starts rows ts
Starts _ _ = ⊥

abbrev pub is_needed : Mark → Bool
is_needed required = true
is_needed _ = false

-- how many members have to be there
abbrev pub required_in : Rows → ℕ
required_in no_rows = 0
required_in (row n mark kind rows) = required_in rows + cond (is_needed mark) 1 0

-- the image of a texture is read as an index into the images
abbrev pub TakesSource : {S : Type 0} → (S → List ℕ → Mark → Kind → Tree → Tree → S → Type 0) → Type 0
TakesSource {S} Takes = (old new : S) (n : List ℕ) (mark : Mark) (t t' : Tree) → Takes old n mark (IndexInto images) t t' new → Takes old n mark SourceImage t t' new

-- the sampler of a channel is read as the number that its index is
abbrev pub TakesSampler : {S : Type 0} → (S → List ℕ → Mark → Kind → Tree → Tree → S → Type 0) → Type 0
TakesSampler {S} Takes = (old new : S) (n : List ℕ) (i j : ℕ) → Takes old n required U32 (whole i) (whole j) new → Takes old n required ChannelSampler (index i) (index j) new

-- ---- rows whose places hold their defaults

-- the row is read as it is without a place
abbrev pub FromStart : {S : Type 0} → (S → List ℕ → Mark → Kind → Tree → S → Type 0) → S → List ℕ → Mark → Kind → Tree → Tree → S → Type 0
FromStart Takes old n mark kind t t' new = StartsRow mark t → Takes old n mark kind t' new

-- ---- the members of a map, as they are taken out

-- the members that are left, or why reading failed
abbrev pub members_or_error : {F : Type 0} → (F → Members) → Result F Error → Result Members Error
members_or_error view (Ok left) = Ok (view left)
members_or_error view (Err e) = Err e

-- a row's tree and the members left after it; what failed before stays
abbrev pub TakesMember : Result Members Error → List ℕ → Mark → Kind → Tree → Result Members Error → Type 0
TakesMember (Ok ms) n mark kind t new = Reads (λ left. (t, left)) new (take_member n mark kind ms)
TakesMember (Err e) n mark kind t new = new ≡ Err e

-- a member was taken out of what is left, if it is there; once a row was refused, none is
abbrev pub FoundIn : {X E : Type 0} → (X → Data) → Result Members E → List ℕ → Option X → Result Members E → Type 0
FoundIn view (Ok ms) n found new = (option_map view found ≡ get_member n ms) × (new ≡ Ok (without n ms))
FoundIn view (Err e) n found new = (found ≡ None) × (new ≡ Err e)

-- the member of a name was taken out, where it is there
pub record TakesOut {X E : Type 0} (view : X → Data) (old : Result Members E) (n : List ℕ) (found : Option X) (new : Result Members E) : Type 0 where
  pub is : FoundIn view old n found new

-- what is left once a value was read or refused
abbrev pub noted : Result (Unit {0}) Error → Result Members Error → Result Members Error
noted (Ok u) left = left
noted (Err e) left = Err e

-- a member's value was read into its place, or refused
pub record ReadsValue (t : Tree) (kind : Kind) (d : Data) (old new : Result Members Error) : Type 0 where
  pub outcome : Result (Unit {0}) Error
  pub reads : Reads (λ _. t) outcome (read kind d)
  pub is : new ≡ noted outcome old

-- what is left once a row is refused; the first error stays
abbrev pub refused_by : Error → Result Members Error → Result Members Error
refused_by e (Ok left) = Err e
refused_by e (Err first) = Err first

-- the members that are left were taken out
abbrev pub TakesOthers : Result Members Error → Members → Result Members Error → Type 0
TakesOthers (Ok ms) others new = Reads {Y = Members × Members} (λ left. (others, left)) new (Some (ms, no_members))
TakesOthers (Err e) others new = new ≡ Err e

-- the members that are left were taken out into a place
abbrev pub TakesLeft : Result Members Error → Members → Members → Result Members Error → Type 0
TakesLeft old ms ms' new = TakesOthers old ms' new

-- whether each row was read, or the error that reading met
abbrev pub ended : Result Members Error → Result (Unit {0}) Error
ended (Ok left) = Ok tt
ended (Err e) = Err e
