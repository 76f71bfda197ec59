-- The accessor of an attribute: looked up among the entries of a map, or among what they mean.
use Rattle.std.proofs.Common.{◌≡◌, ℕ, List, [], ◌∷◌, Option, Some, Bool, true, false, refl, sym, subst, ap, ◌∙◌, option_map, map}
use Rattle.std.specs.Prelude.{cond}
use Rattle.std.specs.Map.{lookup}
use Rattle.gltf_base.specs.Keys.{Key}
use Rattle.gltf_base.specs.Semantics.{checked_key}
use Rattle.gltf_base.specs.Indexes.{index_number}
use Rattle.gltf_base.specs.declared.index.IndexTo.{IndexTo}
use Rattle.gltf_base.specs.declared.mesh.Semantic.{Semantic}
use Rattle.gltf_base.specs.declared.validation.Checked.{Checked}
use Rattle.gltf_schema.specs.Fields.{entry_of}

-- how a found index, and what is found behind it, are chosen
pub chosen_as : {P : Type 0} (found : Bool) (x : IndexTo P) (o : Option (IndexTo P)) (m : Option ℕ) → option_map index_number o ≡ m → option_map index_number (cond found (Some x) o) ≡ cond found (Some (index_number x)) m
chosen_as true x o m same = refl
chosen_as false x o m same = same

pub found_as : {P : Type 0} (f : Key → Bool) (g : Checked Semantic → Bool) → ((k : Checked Semantic) → g k ≡ f (checked_key k)) → (es : List (Checked Semantic × IndexTo P)) → option_map index_number (lookup g es) ≡ lookup f (map entry_of es)
found_as f g same [] = refl
found_as f g same (e ∷ es) = subst (λ b. option_map index_number (cond b (Some e.1) (lookup g es)) ≡ lookup f (map entry_of (e ∷ es))) (sym (same e.0)) (chosen_as (f (checked_key e.0)) e.1 (lookup g es) (lookup f (map entry_of es)) (found_as f g same es))

pub is_found : {P : Type 0} (f : Key → Bool) (g : Checked Semantic → Bool) (es : List (Checked Semantic × IndexTo P)) (found : Option (IndexTo P)) (out : Option ℕ) → out ≡ option_map index_number found → found ≡ lookup g es → ((k : Checked Semantic) → g k ≡ f (checked_key k)) → out ≡ lookup f (map entry_of es)
is_found f g es found out is same each = is ∙ ap (option_map index_number) same ∙ found_as f g each es
