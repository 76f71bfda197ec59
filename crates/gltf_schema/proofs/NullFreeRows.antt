-- A row below which nothing is written as null for an absent member is written strictly as it is.
use Rattle.std.proofs.Common.{◌≡◌, ℕ, List, Result, sym, subst}
use Rattle.serde_json.specs.Data.{Data}
use Rattle.gltf_base.specs.declared.error.Error.{Error}
use Rattle.gltf_schema.specs.Kind.{Mark, Kind, ListOf}
use Rattle.gltf_schema.specs.Nulls.{without_nulls}
use Rattle.gltf_schema.specs.Rowwise.{WritesRow}
use Rattle.gltf_schema.specs.Tree.{Tree}

pub null_free : {S : Type 0} {Adds : S → List ℕ → Data → S → Type 0} {old new : Result S Error} {n : List ℕ} {mark : Mark} {t : Tree} (kind : Kind)
    → without_nulls kind ≡ kind → WritesRow Adds old n mark kind t new → WritesRow Adds old n mark (without_nulls kind) t new
null_free {S} {Adds} {old} {new} {n} {mark} {t} kind same h = subst (λ k. WritesRow Adds old n mark k t new) (sym same) h

-- and a list of such values
pub null_free_list : {S : Type 0} {Adds : S → List ℕ → Data → S → Type 0} {old new : Result S Error} {n : List ℕ} {mark : Mark} {t : Tree} (kind : Kind)
    → without_nulls kind ≡ kind → WritesRow Adds old n mark (ListOf kind) t new → WritesRow Adds old n mark (ListOf (without_nulls kind)) t new
null_free_list {S} {Adds} {old} {new} {n} {mark} {t} kind same h = subst (λ k. WritesRow Adds old n mark (ListOf k) t new) (sym same) h
