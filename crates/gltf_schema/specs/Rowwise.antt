-- What each method of WriteRows gives: what is written so far, or the error that was met. Each
-- definition stays folded in a record, which keeps an object's chain of rows from being computed.
use Rattle.std.specs.Prelude.{◌≡◌, ℕ, List, false, Option, Some, None, Result, Ok, Err, ◌⊎◌}
use Rattle.serde_json.specs.Data.{Data, Members, no_members, put}
use Rattle.gltf_base.specs.declared.error.Error.{Error}
use Rattle.gltf_schema.specs.ByName.{row_data}
use Rattle.gltf_schema.specs.Invalid.{holds_invalid}
use Rattle.gltf_schema.specs.Kind.{Mark, Kind, Rows, no_rows, row}
use Rattle.gltf_schema.specs.Outcome.{Withholds}
use Rattle.gltf_schema.specs.Tree.{Tree, Trees, end, with_tree}

-- what a row wrote was added, if it wrote something
abbrev pub RowAdded : {S : Type 0} → (S → List ℕ → Data → S → Type 0) → S → List ℕ → Option (Option Data) → S → Type 0
RowAdded Adds old n None new = ⊥
RowAdded Adds old n (Some None) new = new ≡ old
RowAdded Adds old n (Some (Some d)) new = Adds old n d new

-- a row was written, or something in it is invalid; what failed before stays
abbrev pub RowOnto : {S : Type 0} → (S → List ℕ → Data → S → Type 0) → Result S Error → List ℕ → Mark → Kind → Tree → Result S Error → Type 0
RowOnto Adds (Ok old) n mark kind t (Ok new) = RowAdded Adds old n (row_data mark kind t) new
RowOnto Adds (Ok old) n mark kind t (Err e) = Withholds e (row_data mark kind t) (holds_invalid t)
RowOnto Adds (Err e) n mark kind t new = new ≡ Err e

-- one row was written
pub record WritesRow {S : Type 0} (Adds : S → List ℕ → Data → S → Type 0) (old : Result S Error) (n : List ℕ) (mark : Mark) (kind : Kind) (t : Tree) (new : Result S Error) : Type 0 where
  pub is : RowOnto Adds old n mark kind t new

-- the members that no row names were taken over; to copy them may take memory
abbrev pub OthersOnto : {S : Type 0} → (Members → S → S → Type 0) → Members → Result S Error → Result S Error → Type 0
OthersOnto Begins others (Ok old) (Ok new) = Begins others old new
OthersOnto Begins others (Ok old) (Err e) = Withholds e (Some others) false
OthersOnto Begins others (Err e) new = new ≡ Err e

-- an object's members begin with those that no row names
pub record BeginsWith {S : Type 0} (Begins : Members → S → S → Type 0) (others : Members) (old new : Result S Error) : Type 0 where
  pub is : OthersOnto Begins others old new

-- each row was written, in the rows' order
abbrev pub RowsOnto : {S : Type 0} → (S → List ℕ → Data → S → Type 0) → Result S Error → Rows → Trees → Result S Error → Type 0
RowsOnto Adds old no_rows end new = new ≡ old
RowsOnto {S} Adds old (row n mark kind rows) (with_tree t ts) new = (mid : Result S Error) × RowOnto Adds old n mark kind t mid × RowsOnto Adds mid rows ts new
RowsOnto Adds old _ _ new = ⊥

-- an object's members were written: each row's onto those that no row names
pub record WritesMembers {S : Type 0} (Begins : Members → S → S → Type 0) (Adds : S → List ℕ → Data → S → Type 0) (others : Members) (rows : Rows) (ts : Trees) (old new : Result S Error) : Type 0 where
  pub begun : Result S Error
  pub begins : ((others ≡ no_members) × (begun ≡ old)) ⊎ OthersOnto Begins others old begun
  pub rows_onto : RowsOnto Adds begun rows ts new

-- members in a map: a row's takes the place of one of its name
abbrev pub PutsIn : Members → List ℕ → Data → Members → Type 0
PutsIn old n d new = new ≡ put n d old

-- members that are taken over as they are
abbrev pub TakesOver : Members → Members → Members → Type 0
TakesOver others old new = new ≡ others
