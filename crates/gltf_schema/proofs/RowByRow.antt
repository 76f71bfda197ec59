-- Rows read one after another, whatever they are read from; and members taken out of a map by a
-- state that goes on or stays failed.
use Rattle.std.proofs.Common.{◌≡◌, ℕ, List, Option, Some, None, Bool, true, false, Result, Ok, Err, refl, sym, ap, subst}
use Rattle.serde_json.specs.Data.{Members, no_members}
use Rattle.gltf_base.specs.declared.error.Error.{Error}
use Rattle.gltf_base.specs.declared.error.Error.TheVariants as errors
use Rattle.gltf_schema.specs.Outcome.{Reads, Refuses}
use Rattle.gltf_schema.specs.Maybe.{◌>>=◌}
use Rattle.gltf_schema.specs.Tree.{Tree, whole, index, Trees, end, with_tree}
use Rattle.gltf_base.specs.Lists.{images}
use Rattle.gltf_schema.specs.Kind.{Mark, required, Kind, IndexInto, SourceImage, ChannelSampler, U32, Rows, no_rows, row}
use Rattle.gltf_schema.specs.Read.{left}
use Rattle.gltf_schema.specs.Taken.{take_member, take_rows, take_all}
use Rattle.gltf_schema.specs.RowReading.{ReadsRow, ReadsOthers, RowsFrom, ReadsMembers, Starts, TakesSource, TakesSampler, FromStart, TakesMember, TakesOthers, TakesLeft, ended}
use Rattle.gltf_schema.proofs.FromStart.{RowsTakenFrom, OthersTakenFrom, from_start, others_start}
use Rattle.gltf_schema.proofs.TakingOut.{refused_through, refused}

-- ---- rows, whatever they are read from

-- each row was read, in the rows' order
pub record ReadsRows {S : Type 0} (Takes : S → List ℕ → Mark → Kind → Tree → Tree → S → Type 0) (old : S) (rows : Rows) (ts ts' : Trees) (new : S) : Type 0 where
  pub is : RowsFrom Takes old rows ts ts' new

-- no row is left to read
pub read_none : {S : Type 0} {Takes : S → List ℕ → Mark → Kind → Tree → Tree → S → Type 0} {s : S} → ReadsRows Takes s no_rows end end s
read_none {S} {Takes} {s} = record { is = refl }

-- one row, and those after it
pub read_row : {S : Type 0} {Takes : S → List ℕ → Mark → Kind → Tree → Tree → S → Type 0} {old mid new : S} {n : List ℕ} {mark : Mark} {kind : Kind} {rows : Rows} {t t' : Tree} {ts ts' : Trees}
    → ReadsRow Takes old n mark kind t t' mid → ReadsRows Takes mid rows ts ts' new → ReadsRows Takes old (row n mark kind rows) (with_tree t ts) (with_tree t' ts') new
read_row {S} {Takes} {old} {mid} {new} {n} {mark} {kind} {rows} {t} {t'} {ts} {ts'} h k = record { is = (mid, h.is, k.is) }

-- each row of an object that keeps no unknown members
pub all_read : {S : Type 0} {Takes : S → List ℕ → Mark → Kind → Tree → Tree → S → Type 0} {Leaves : S → Members → Members → S → Type 0} {rows : Rows} {ts ts' : Trees} {ms : Members} {old new : S}
    → ReadsRows Takes old rows ts ts' new → ReadsMembers Takes Leaves rows false ts ts' ms no_members old new
all_read {S} {Takes} {Leaves} {rows} {ts} {ts'} {ms} {old} {new} h = record { mid = new; rows_from = h.is; others_from = (refl, refl) }

-- each row of one that keeps them
pub all_kept : {S : Type 0} {Takes : S → List ℕ → Mark → Kind → Tree → Tree → S → Type 0} {Leaves : S → Members → Members → S → Type 0} {rows : Rows} {ts ts' : Trees} {ms ms' : Members} {old mid new : S}
    → ReadsRows Takes old rows ts ts' mid → ReadsOthers Leaves mid ms ms' new → ReadsMembers Takes Leaves rows true ts ts' ms ms' old new
all_kept {S} {Takes} {Leaves} {rows} {ts} {ts'} {ms} {ms'} {old} {mid} {new} h k = record { mid = mid; rows_from = h.is; others_from = k.is }

-- the image of a texture is read as an index into the images
pub source_read : {S : Type 0} {Takes : S → List ℕ → Mark → Kind → Tree → Tree → S → Type 0} {old new : S} {n : List ℕ} {mark : Mark} {t t' : Tree}
    → TakesSource Takes → ReadsRow Takes old n mark (IndexInto images) t t' new → ReadsRow Takes old n mark SourceImage t t' new
source_read {S} {Takes} {old} {new} {n} {mark} {t} {t'} law h = record { is = law old new n mark t t' h.is }

-- the sampler of a channel is read as the number that its index is
pub sampler_read : {S : Type 0} {Takes : S → List ℕ → Mark → Kind → Tree → Tree → S → Type 0} {old new : S} {n : List ℕ} {i j number number' : ℕ}
    → TakesSampler Takes → i ≡ number → j ≡ number' → ReadsRow Takes old n required U32 (whole number) (whole number') new → ReadsRow Takes old n required ChannelSampler (index i) (index j) new
sampler_read {S} {Takes} {old} {new} {n} {i} {j} {number} {number'} law e e' h = rw (e, e') (record { is = law old new n number number' h.is })

-- ---- members taken out of a map

-- a step that is refused refuses what comes after it
pub refused_then : {A B : Type 0} (e : Error) (f : A → Option B) (read : Option A) → Refuses e read → Refuses e (read >>= f)
refused_then e f read h = refused_through e read (read >>= f) (ap (λ o. o >>= f)) h

none_taken : (ms : Members) → take_rows no_rows ms ≡ Some (end, ms)
unfolding take_rows
none_taken ms = refl

pub row_taken : (n : List ℕ) (mark : Mark) (kind : Kind) (rows : Rows) (ms ms' rest : Members) (t : Tree) (ts : Trees)
    → take_member n mark kind ms ≡ Some (t, ms') → take_rows rows ms' ≡ Some (ts, rest) → take_rows (row n mark kind rows) ms ≡ Some (with_tree t ts, rest)
unfolding take_rows
row_taken n mark kind rows ms ms' rest t ts e h = rw (e, h) refl

later_refused : (e : Error) (n : List ℕ) (mark : Mark) (kind : Kind) (rows : Rows) (ms ms' : Members) (t : Tree)
    → take_member n mark kind ms ≡ Some (t, ms') → Refuses e (take_rows rows ms') → Refuses e (take_rows (row n mark kind rows) ms)
unfolding take_rows
later_refused e n mark kind rows ms ms' t is h = rw is (refused e _ (take_rows rows ms') h)

row_refused : (e : Error) (n : List ℕ) (mark : Mark) (kind : Kind) (rows : Rows) (ms : Members)
    → Refuses e (take_member n mark kind ms) → Refuses e (take_rows (row n mark kind rows) ms)
unfolding take_rows
row_refused e n mark kind rows ms h = refused_then e _ (take_member n mark kind ms) h

-- rows taken out of members that are under way, or of a state that failed
abbrev RowsTaken : Result Members Error → Rows → Trees → Result Members Error → Type 0
RowsTaken (Ok ms) rows ts new = Reads (λ left. (ts, left)) new (take_rows rows ms)
RowsTaken (Err e) rows ts new = new ≡ Err e

none_from : (s new : Result Members Error) → new ≡ s → RowsTaken s no_rows end new
none_from (Ok ms) new h = rw h (none_taken ms)
none_from (Err e) new h = h

later : (new : Result Members Error) (n : List ℕ) (mark : Mark) (kind : Kind) (rows : Rows) (t : Tree) (ts : Trees) (ms ms' : Members)
    → take_member n mark kind ms ≡ Some (t, ms') → Reads (λ left. (ts, left)) new (take_rows rows ms') → Reads (λ left. (with_tree t ts, left)) new (take_rows (row n mark kind rows) ms)
later (Ok rest) n mark kind rows t ts ms ms' e h = row_taken n mark kind rows ms ms' rest t ts e h
later (Err x) n mark kind rows t ts ms ms' e h = later_refused x n mark kind rows ms ms' t e h

both_from : (old mid new : Result Members Error) (n : List ℕ) (mark : Mark) (kind : Kind) (rows : Rows) (t : Tree) (ts : Trees)
    → TakesMember old n mark kind t mid → RowsTaken mid rows ts new → RowsTaken old (row n mark kind rows) (with_tree t ts) new
both_from (Ok ms) (Ok ms') new n mark kind rows t ts h k = later new n mark kind rows t ts ms ms' h k
both_from (Ok ms) (Err e) new n mark kind rows t ts h k =
    subst (λ r. Reads (λ left. (with_tree t ts, left)) r (take_rows (row n mark kind rows) ms)) (sym k) (row_refused e n mark kind rows ms h)
both_from (Err e) mid new n mark kind rows t ts h k = subst (λ (r : Result Members Error). RowsTaken r rows ts new) h k

rows_taken : (old : Result Members Error) (rows : Rows) (ts : Trees) (new : Result Members Error) → RowsTakenFrom TakesMember old rows ts new → RowsTaken old rows ts new
rows_taken old no_rows end new h = none_from old new h
rows_taken old no_rows (with_tree t ts) new h = absurd h
rows_taken old (row n mark kind rows) end new h = absurd h
rows_taken old (row n mark kind rows) (with_tree t ts) new h = both_from old h.0 new n mark kind rows t ts h.1 (rows_taken h.0 rows ts new h.2)

pub all_taken : (rows : Rows) (keeps : Bool) (ms rest : Members) (ts : Trees) → take_rows rows ms ≡ Some (ts, rest) → take_all rows keeps ms ≡ Some (ts, left keeps rest)
unfolding take_all
all_taken rows keeps ms rest ts h = rw h refl

all_refused : (e : Error) (rows : Rows) (keeps : Bool) (ms : Members) → Refuses e (take_rows rows ms) → Refuses e (take_all rows keeps ms)
unfolding take_all
all_refused e rows keeps ms h = refused e _ (take_rows rows ms) h

abbrev first_of : Option (Members × Members) → Members
first_of None = no_members
first_of (Some p) = p.0

-- what there is is refused for memory alone
memory_only : {A B : Type 0} (e : Error) (a : A) (read : Option B) → Refuses e (Some a) → Refuses e read
memory_only (errors.Memory e) a read h = h
memory_only errors.Schema a read h = absurd cc
memory_only errors.Json a read h = absurd h
memory_only errors.InvalidItem a read h = absurd h
memory_only errors.Read a read h = absurd h
memory_only errors.Write a read h = absurd h
memory_only errors.TooLong a read h = absurd h

-- the rows' trees and the other members, unless reading failed
abbrev AllTaken : Result Members Error → Rows → Bool → Trees → Members → Members → Type 0
AllTaken new rows keeps ts unknown ms = Reads {X = Members} (λ _. (ts, unknown)) new (take_all rows keeps ms)

closed : (s : Result Members Error) (rows : Rows) (ts : Trees) (ms : Members) → Reads (λ left. (ts, left)) s (take_rows rows ms) → AllTaken s rows false ts no_members ms
closed (Ok rest) rows ts ms h = all_taken rows false ms rest ts h
closed (Err e) rows ts ms h = all_refused e rows false ms h

kept : (s new : Result Members Error) (rows : Rows) (ts : Trees) (unknown ms : Members)
    → Reads (λ left. (ts, left)) s (take_rows rows ms) → TakesOthers s unknown new → AllTaken new rows true ts unknown ms
kept (Ok rest) (Ok after) rows ts unknown ms h taken =
    let same : unknown ≡ rest = sym (ap first_of taken) in
    rw same (all_taken rows true ms rest ts h)
kept (Ok rest) (Err e) rows ts unknown ms h taken = memory_only e _ _ taken
kept (Err e) new rows ts unknown ms h taken = subst (λ (s : Result Members Error). AllTaken s rows true ts unknown ms) (sym taken) (all_refused e rows true ms h)

others_taken : (keeps : Bool) (s new : Result Members Error) (rows : Rows) (ts : Trees) (unknown ms : Members)
    → Reads (λ left. (ts, left)) s (take_rows rows ms) → OthersTakenFrom TakesOthers keeps s unknown new → AllTaken new rows keeps ts unknown ms
others_taken true s new rows ts unknown ms h taken = kept s new rows ts unknown ms h taken
others_taken false s new rows ts unknown ms h taken = rw (taken.0, taken.1) (closed s rows ts ms h)

members_taken : (keeps : Bool) (s mid new : Result Members Error) (rows : Rows) (ts : Trees) (unknown ms : Members)
    → s ≡ Ok ms → RowsTakenFrom TakesMember s rows ts mid → OthersTakenFrom TakesOthers keeps mid unknown new → AllTaken new rows keeps ts unknown ms
members_taken keeps s mid new rows ts unknown ms is h taken =
    others_taken keeps mid new rows ts unknown ms (rows_taken (Ok ms) rows ts mid (subst (λ (r : Result Members Error). RowsTakenFrom TakesMember r rows ts mid) is h)) taken

read_well : (s : Result Members Error) (rows : Rows) (keeps : Bool) (ts : Trees) (unknown ms : Members)
    → Ok tt ≡ ended s → AllTaken s rows keeps ts unknown ms → take_all rows keeps ms ≡ Some (ts, unknown)
read_well (Ok rest) rows keeps ts unknown ms well h = h
read_well (Err e) rows keeps ts unknown ms well h = absurd cc

read_ill : (s : Result Members Error) (rows : Rows) (keeps : Bool) (ts : Trees) (unknown ms : Members) (e : Error)
    → Err e ≡ ended s → AllTaken s rows keeps ts unknown ms → Refuses e (take_all rows keeps ms)
read_ill (Ok rest) rows keeps ts unknown ms e ill h = absurd cc
read_ill (Err e') rows keeps ts unknown ms e ill h = let same : e' ≡ e = cc in subst (λ x. Refuses x (take_all rows keeps ms)) same h

-- ---- an object of what was read

-- each row was read
pub object_read : {s new : Result Members Error} {rows : Rows} {keeps : Bool} {ts ts' : Trees} {others unknown ms : Members}
    → s ≡ Ok ms → Starts rows ts → ReadsMembers (FromStart TakesMember) TakesLeft rows keeps ts ts' others unknown s new → Ok tt ≡ ended new → take_all rows keeps ms ≡ Some (ts', unknown)
object_read {s} {new} {rows} {keeps} {ts} {ts'} {others} {unknown} {ms} is start h well =
    read_well new rows keeps ts' unknown ms well
    (members_taken keeps s h.mid new rows ts' unknown ms is (from_start TakesMember s h.mid rows ts ts' start h.rows_from) (others_start TakesOthers keeps h.mid new others unknown h.others_from))

-- a row was refused
pub object_refused : {s new : Result Members Error} {rows : Rows} {keeps : Bool} {ts ts' : Trees} {others unknown ms : Members} {e : Error}
    → s ≡ Ok ms → Starts rows ts → ReadsMembers (FromStart TakesMember) TakesLeft rows keeps ts ts' others unknown s new → Err e ≡ ended new → Refuses e (take_all rows keeps ms)
object_refused {s} {new} {rows} {keeps} {ts} {ts'} {others} {unknown} {ms} {e} is start h ill =
    read_ill new rows keeps ts' unknown ms e ill
    (members_taken keeps s h.mid new rows ts' unknown ms is (from_start TakesMember s h.mid rows ts ts' start h.rows_from) (others_start TakesOthers keeps h.mid new others unknown h.others_from))
