-- Attributes that are spelled as their keys, in a JSON value.
use Rattle.std.proofs.Common.{◌≡◌, ℕ, List, [], ◌∷◌, ◌++◌, Some, refl, ◌∙◌, ap, subst}
use Rattle.std.proofs.lemmas.Option.{same_Some}
use Rattle.serde_json.specs.Data.{Data}
use Rattle.serde_json.specs.Find.{get}
use Rattle.gltf_base.specs.Keys.{key_text}
use Rattle.gltf_base.specs.Names.{key_named}
use Rattle.gltf_base.specs.Steps.{Step, key}
use Rattle.gltf_schema.proofs.ReadPlain.{bound}
use Rattle.gltf_validation_rules.specs.Found.{Lead, step_to, found, before_key, first_key}

found_behind : (steps more : List Step) (d e : Data) → found steps d ≡ Some e → found (steps ++ more) d ≡ found more e
found_behind [] more d e h = ap (found more) (same_Some d e h)
found_behind (s ∷ steps) more d e h = let next = bound (step_to s d) (found steps) e h in rw next.1 (found_behind steps more next.0 e next.2)

pub key_found : (steps : List Step) (d : Data) (text : List ℕ) (lead : Lead steps d) → first_key steps ≡ Some text
    → ((name : List ℕ) (value : Data) → get name lead.place ≡ Some value → key_text (key_named name) ≡ text → name ≡ text)
    → (e : Data) × (found (before_key steps ++ key text ∷ []) d ≡ Some e)
key_found steps d text lead is spelled =
    let has = lead.at_key text is in
    let there : get text lead.place ≡ Some has.value = subst (λ n. get n lead.place ≡ Some has.value) (spelled has.name has.value has.there has.means) has.there in
    (has.value, found_behind (before_key steps) (key text ∷ []) d lead.place lead.there ∙ rw there refl)
