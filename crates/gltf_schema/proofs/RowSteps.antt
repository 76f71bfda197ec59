-- A row written as a row of another mark is: steps of rows, whatever is added and to what state.
use Rattle.std.proofs.Common.{◌≡◌, ℕ, nat_eq, true, false, List, [], ◌∷◌, length, map, Result, Ok, Err, refl, subst, true≢false}
use Rattle.serde_json.specs.Data.{Data, null}
use Rattle.gltf_base.specs.declared.error.Error.{Error}
use Rattle.gltf_schema.specs.ByName.{row_data}
use Rattle.gltf_schema.specs.Invalid.{holds_invalid}
use Rattle.gltf_schema.specs.Kind.{Mark, required, optional, always, unless, sometimes, or_null, Kind, Any}
use Rattle.gltf_schema.specs.Outcome.{Withholds}
use Rattle.gltf_schema.specs.Rowwise.{RowAdded, RowOnto, WritesRow}
use Rattle.gltf_schema.specs.Tree.{Tree, absent, any, list, end, trees, is_absent}
use Rattle.gltf_schema.specs.Write.{leaves_out, is_default}

left_onto : {S : Type 0} (Adds : S → List ℕ → Data → S → Type 0) (s : Result S Error) (n : List ℕ) (mark : Mark) (kind : Kind) (t : Tree)
    → leaves_out mark t ≡ true → RowOnto Adds s n mark kind t s
left_onto {S} Adds (Ok s) n mark kind t h = rw h refl
left_onto {S} Adds (Err e) n mark kind t h = refl

-- a row that is left out writes nothing
pub left_out : {S : Type 0} {Adds : S → List ℕ → Data → S → Type 0} {s : Result S Error} {n : List ℕ} {mark : Mark} {kind : Kind} {t : Tree}
    → leaves_out mark t ≡ true → WritesRow Adds s n mark kind t s
left_out {S} {Adds} {s} {n} {mark} {kind} {t} h = record { is = left_onto Adds s n mark kind t h }

data_onto : {S : Type 0} (Adds : S → List ℕ → Data → S → Type 0) (s s' : Result S Error) (n : List ℕ) (mark mark' : Mark) (kind : Kind) (t : Tree)
    → row_data mark kind t ≡ row_data mark' kind t → RowOnto Adds s n mark kind t s' → RowOnto Adds s n mark' kind t s'
data_onto {S} Adds (Ok s) (Ok s') n mark mark' kind t same h = subst (λ x. RowAdded Adds s n x s') same h
data_onto {S} Adds (Ok s) (Err e) n mark mark' kind t same h = subst (λ x. Withholds e x (holds_invalid t)) same h
data_onto {S} Adds (Err e) s' n mark mark' kind t same h = h

-- rows of two marks that write the same
same_row : {S : Type 0} {Adds : S → List ℕ → Data → S → Type 0} {s s' : Result S Error} {n : List ℕ} {kind : Kind} {t : Tree} (mark mark' : Mark)
    → row_data mark kind t ≡ row_data mark' kind t → WritesRow Adds s n mark kind t s' → WritesRow Adds s n mark' kind t s'
same_row {S} {Adds} {s} {s'} {n} {kind} {t} mark mark' same h = record { is = data_onto Adds s s' n mark mark' kind t same h.is }

optional_data : (kind : Kind) (t : Tree) → is_absent t ≡ false → row_data required kind t ≡ row_data optional kind t
optional_data kind t h = rw h refl

sometimes_data : (kind : Kind) (t : Tree) → is_absent t ≡ false → row_data required kind t ≡ row_data sometimes kind t
sometimes_data kind t h = rw h refl

unless_data : (x : Tree) (kind : Kind) (t : Tree) → is_default x t ≡ false → row_data required kind t ≡ row_data (unless x) kind t
unless_data x kind t h = rw h refl

or_null_data : (kind : Kind) (t : Tree) → is_absent t ≡ false → row_data required kind t ≡ row_data or_null kind t
or_null_data kind absent h = absurd (true≢false h)
or_null_data kind _ h = refl

-- a member that is there is written
pub optional_there : {S : Type 0} {Adds : S → List ℕ → Data → S → Type 0} {s s' : Result S Error} {n : List ℕ} {kind : Kind} {t : Tree}
    → is_absent t ≡ false → WritesRow Adds s n required kind t s' → WritesRow Adds s n optional kind t s'
optional_there {S} {Adds} {s} {s'} {n} {kind} {t} there h = same_row required optional (optional_data kind t there) h

pub sometimes_there : {S : Type 0} {Adds : S → List ℕ → Data → S → Type 0} {s s' : Result S Error} {n : List ℕ} {kind : Kind} {t : Tree}
    → is_absent t ≡ false → WritesRow Adds s n required kind t s' → WritesRow Adds s n sometimes kind t s'
sometimes_there {S} {Adds} {s} {s'} {n} {kind} {t} there h = same_row required sometimes (sometimes_data kind t there) h

pub or_null_there : {S : Type 0} {Adds : S → List ℕ → Data → S → Type 0} {s s' : Result S Error} {n : List ℕ} {kind : Kind} {t : Tree}
    → is_absent t ≡ false → WritesRow Adds s n required kind t s' → WritesRow Adds s n or_null kind t s'
or_null_there {S} {Adds} {s} {s'} {n} {kind} {t} there h = same_row required or_null (or_null_data kind t there) h

null_onto : {S : Type 0} (Adds : S → List ℕ → Data → S → Type 0) (s s' : Result S Error) (n : List ℕ) (kind : Kind)
    → RowOnto Adds s n required Any (any null) s' → RowOnto Adds s n or_null kind absent s'
null_onto {S} Adds (Ok s) (Ok s') n kind h = h
null_onto {S} Adds (Ok s) (Err e) n kind h = h
null_onto {S} Adds (Err e) s' n kind h = h

-- an absent one is written as null
pub null_there : {S : Type 0} {Adds : S → List ℕ → Data → S → Type 0} {s s' : Result S Error} {n : List ℕ} {kind : Kind}
    → WritesRow Adds s n required Any (any null) s' → WritesRow Adds s n or_null kind absent s'
null_there {S} {Adds} {s} {s'} {n} {kind} h = record { is = null_onto Adds s s' n kind h.is }

-- one that is not its default is written
pub unless_there : {S : Type 0} {Adds : S → List ℕ → Data → S → Type 0} {s s' : Result S Error} {n : List ℕ} {x : Tree} {kind : Kind} {t : Tree}
    → is_default x t ≡ false → WritesRow Adds s n required kind t s' → WritesRow Adds s n (unless x) kind t s'
unless_there {S} {Adds} {s} {s'} {n} {x} {kind} {t} other h = same_row required (unless x) (unless_data x kind t other) h

-- the default too, where the mark is always
pub always_there : {S : Type 0} {Adds : S → List ℕ → Data → S → Type 0} {s s' : Result S Error} {n : List ℕ} {x : Tree} {kind : Kind} {t : Tree}
    → WritesRow Adds s n required kind t s' → WritesRow Adds s n (always x) kind t s'
always_there {S} {Adds} {s} {s'} {n} {x} {kind} {t} h = same_row required (always x) refl h

-- a list with items is not the empty one
pub not_the_empty : {X : Type 0} (f : X → Tree) (xs : List X) → nat_eq (length xs) 0 ≡ false → is_default (list end) (list (trees (map f xs))) ≡ false
not_the_empty f [] some = absurd cc
not_the_empty f (x ∷ xs) some = refl
