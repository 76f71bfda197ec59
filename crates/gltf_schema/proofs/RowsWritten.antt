-- Rows written one after another, by a state that goes on or stays failed.
use Rattle.std.proofs.Common.{◌≡◌, inl, inr, ℕ, List, String, Option, Some, option_map, Result, Ok, Err, refl, sym, ap, ◌∙◌, subst}
use Rattle.std.specs.BTreeMap.{BTreeMap}
use Rattle.std.specs.declared.alloc.Global.{Global}
use Rattle.serde_json.specs.Data.{Data, object as json_object, Members, no_members}
use Rattle.serde_json.specs.View.{view, members_view}
use Rattle.serde_json.specs.declared.value.Value.{Value}
use Rattle.serde_json.specs.declared.value.Value.TheVariants as values
use Rattle.serde_json.proofs.Views.{view-Object}
use Rattle.gltf_base.specs.declared.error.Error.{Error}
use Rattle.gltf_base.specs.Lists.{images}
use Rattle.gltf_schema.specs.Tree.{Tree, whole, index, Trees, end, with_tree}
use Rattle.gltf_schema.specs.Kind.{Mark, required, unless, Kind, IndexInto, SourceImage, ChannelSampler, U32, Rows, no_rows, row}
use Rattle.gltf_schema.specs.Rowwise.{RowOnto, WritesRow, RowsOnto, BeginsWith, WritesMembers}

-- each row was written, in the rows' order
pub record WritesRows {S : Type 0} (Adds : S → List ℕ → Data → S → Type 0) (old : Result S Error) (rows : Rows) (ts : Trees) (new : Result S Error) : Type 0 where
  pub is : RowsOnto Adds old rows ts new

-- no row is left to write
pub write_none : {S : Type 0} {Adds : S → List ℕ → Data → S → Type 0} {s : Result S Error} → WritesRows Adds s no_rows end s
write_none {S} {Adds} {s} = record { is = refl }

-- one row, and those after it
pub write_row : {S : Type 0} {Adds : S → List ℕ → Data → S → Type 0} {old mid new : Result S Error} {n : List ℕ} {mark : Mark} {kind : Kind} {rows : Rows} {t : Tree} {ts : Trees}
    → WritesRow Adds old n mark kind t mid → WritesRows Adds mid rows ts new → WritesRows Adds old (row n mark kind rows) (with_tree t ts) new
write_row {S} {Adds} {old} {mid} {new} {n} {mark} {kind} {rows} {t} {ts} h k = record { is = (mid, h.is, k.is) }

-- each row of an object that keeps no unknown members
pub all_written : {S : Type 0} {Begins : Members → S → S → Type 0} {Adds : S → List ℕ → Data → S → Type 0} {old new : Result S Error} {rows : Rows} {ts : Trees}
    → WritesRows Adds old rows ts new → WritesMembers Begins Adds no_members rows ts old new
all_written {S} {Begins} {Adds} {old} {new} {rows} {ts} h = record { begun = old; begins = inl (refl, refl); rows_onto = h.is }

-- each row of one that keeps them
pub written_with_others : {S : Type 0} {Begins : Members → S → S → Type 0} {Adds : S → List ℕ → Data → S → Type 0} {others : Members} {old mid new : Result S Error} {rows : Rows} {ts : Trees}
    → BeginsWith Begins others old mid → WritesRows Adds mid rows ts new → WritesMembers Begins Adds others rows ts old new
written_with_others {S} {Begins} {Adds} {others} {old} {mid} {new} {rows} {ts} b h = record { begun = mid; begins = inr b.is; rows_onto = h.is }

-- members are an object's value
pub object_written : (members : BTreeMap (String Global) Value) (written : Option Members)
    → written ≡ Some (members_view members.entries) → option_map json_object written ≡ Some (view (values.Object members))
object_written members written h = ap (option_map json_object) h ∙ ap Some (sym (view-Object members))

-- a row's default said in another way
pub default_as : {S : Type 0} {Adds : S → List ℕ → Data → S → Type 0} {old new : Result S Error} {n : List ℕ} {kind : Kind} {t x x' : Tree}
    → x ≡ x' → WritesRow Adds old n (unless x) kind t new → WritesRow Adds old n (unless x') kind t new
default_as {S} {Adds} {old} {new} {n} {kind} {t} is h = subst (λ x. WritesRow Adds old n (unless x) kind t new) is h

source_onto : {S : Type 0} (Adds : S → List ℕ → Data → S → Type 0) (old new : Result S Error) (n : List ℕ) (x : Tree) (i : ℕ)
    → RowOnto Adds old n (unless x) (IndexInto images) (index i) new → RowOnto Adds old n (unless x) SourceImage (index i) new
source_onto {S} Adds (Ok s) (Ok s') n x i h = h
source_onto {S} Adds (Ok s) (Err e) n x i h = h
source_onto {S} Adds (Err e) new n x i h = h

-- the image of a texture is written as an index into the images
pub source_written : {S : Type 0} {Adds : S → List ℕ → Data → S → Type 0} {old new : Result S Error} {n : List ℕ} {x : Tree} {i : ℕ}
    → WritesRow Adds old n (unless x) (IndexInto images) (index i) new → WritesRow Adds old n (unless x) SourceImage (index i) new
source_written {S} {Adds} {old} {new} {n} {x} {i} h = record { is = source_onto Adds old new n x i h.is }

sampler_onto : {S : Type 0} (Adds : S → List ℕ → Data → S → Type 0) (old new : Result S Error) (n : List ℕ) (i : ℕ)
    → RowOnto Adds old n required U32 (whole i) new → RowOnto Adds old n required ChannelSampler (index i) new
sampler_onto {S} Adds (Ok s) (Ok s') n i h = h
sampler_onto {S} Adds (Ok s) (Err e) n i h = h
sampler_onto {S} Adds (Err e) new n i h = h

-- the sampler of a channel is written as the number that its index is
pub sampler_written : {S : Type 0} {Adds : S → List ℕ → Data → S → Type 0} {old new : Result S Error} {n : List ℕ} {i number : ℕ} → i ≡ number
    → WritesRow Adds old n required U32 (whole number) new → WritesRow Adds old n required ChannelSampler (index i) new
sampler_written {S} {Adds} {old} {new} {n} {i} {number} e h = rw e (record { is = sampler_onto Adds old new n number h.is })
