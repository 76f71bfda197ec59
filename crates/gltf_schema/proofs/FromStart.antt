-- Rows whose places held their defaults are read as they are without places.
use Rattle.std.proofs.Common.{◌≡◌, ℕ, List, Bool, true, false}
use Rattle.serde_json.specs.Data.{Members, no_members}
use Rattle.gltf_schema.specs.Tree.{Tree, Trees, end, with_tree}
use Rattle.gltf_schema.specs.Kind.{Mark, Kind, Rows, no_rows, row}
use Rattle.gltf_schema.specs.RowReading.{RowsFrom, OthersFrom, Starts, FromStart}

-- each row was read, in the rows' order
abbrev pub RowsTakenFrom : {S : Type 0} → (S → List ℕ → Mark → Kind → Tree → S → Type 0) → S → Rows → Trees → S → Type 0
RowsTakenFrom Takes old no_rows end new = new ≡ old
RowsTakenFrom {S} Takes old (row n mark kind rows) (with_tree t ts) new = (mid : S) × Takes old n mark kind t mid × RowsTakenFrom Takes mid rows ts new
RowsTakenFrom Takes old _ _ new = ⊥

-- the members that no row took are kept, or not looked at
abbrev pub OthersTakenFrom : {S : Type 0} → (S → Members → S → Type 0) → Bool → S → Members → S → Type 0
OthersTakenFrom Leaves true old unknown new = Leaves old unknown new
OthersTakenFrom Leaves false old unknown new = (unknown ≡ no_members) × (new ≡ old)

pub from_start : {S : Type 0} (Takes : S → List ℕ → Mark → Kind → Tree → S → Type 0) (old new : S) (rows : Rows) (ts ts' : Trees)
    → Starts rows ts → RowsFrom (FromStart Takes) old rows ts ts' new → RowsTakenFrom Takes old rows ts' new
from_start {S} Takes old new no_rows end end start h = h
from_start {S} Takes old new no_rows end (with_tree t' ts') start h = absurd h
from_start {S} Takes old new no_rows (with_tree t ts) ts' start h = absurd h
from_start {S} Takes old new (row n mark kind rows) end ts' start h = absurd h
from_start {S} Takes old new (row n mark kind rows) (with_tree t ts) end start h = absurd h
from_start {S} Takes old new (row n mark kind rows) (with_tree t ts) (with_tree t' ts') start h =
    (h.0, h.1 start.0, from_start Takes h.0 new rows ts ts' start.1 h.2)

pub others_start : {S : Type 0} (Leaves : S → Members → S → Type 0) (keeps : Bool) (old new : S) (ms ms' : Members)
    → OthersFrom (λ s v v' s'. Leaves s v' s') keeps old ms ms' new → OthersTakenFrom Leaves keeps old ms' new
others_start {S} Leaves true old new ms ms' h = h
others_start {S} Leaves false old new ms ms' h = h
