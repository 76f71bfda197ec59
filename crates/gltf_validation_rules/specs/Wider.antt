-- Rules that allow what others allow, and maybe more.
use Rattle.std.specs.Prelude.{◌≡◌, ℕ, List, [], ◌∷◌, Bool, true}
use Rattle.std.specs.List.{list_any}
use Rattle.std.specs.Str.{bytes_eq}
use Rattle.gltf_validation_rules.specs.Context.{Rules}

-- whether a document may require the extension of a name
abbrev pub enables : Rules → List ℕ → Bool
enables rules name = list_any (λ e. bytes_eq e name) rules.enabled

-- each extension that some rules enable is enabled by the others too, and these allow textures
-- without an image if the first do
pub record AllowsMore (narrow wide : Rules) : Type 0 where
  pub textures : narrow.empty_texture ≡ true → wide.empty_texture ≡ true
  pub names : (name : List ℕ) → enables narrow name ≡ true → enables wide name ≡ true

-- the first list is the second one without some of its items, or the same; the order stays
pub data IsSublist {A : Type 0} : List A → List A → Type 0 where
  neither : IsSublist [] []
  both : (x : A) {xs ys : List A} → IsSublist xs ys → IsSublist (x ∷ xs) (x ∷ ys)
  second : (y : A) {xs ys : List A} → IsSublist xs ys → IsSublist xs (y ∷ ys)
