-- A step down and a step up, and the notices of what is left.
use Rattle.std.proofs.Common.{◌≡◌, ◌++◌, ◌<◌, map, length, List, [], ◌∷◌, true, false, Option, Some, None, refl, ap, sym, ◌∙◌, arith, append_assoc}
use Rattle.std.specs.Prelude.{IsSome, option_to_list}
use Rattle.gltf_base.specs.Steps.{Step}
use Rattle.gltf_findings_members.specs.Noted.{Noted}
use Rattle.gltf_findings_members.specs.Steps.{without_last}

pub without_last-append : (xs : List Step) (s : Step) → without_last (xs ++ s ∷ []) ≡ xs
without_last-append [] s = refl
without_last-append (x ∷ []) s = refl
without_last-append (x ∷ y ∷ xs) s = ap (λ ys. x ∷ ys) (without_last-append (y ∷ xs) s)

map_last : {X : Type 0} (f : X → Step) (xs : List X) (x : X) → map f (xs ++ x ∷ []) ≡ map f xs ++ f x ∷ []
map_last f [] x = refl
map_last f (y ∷ ys) x = ap (λ zs. f y ∷ zs) (map_last f ys x)

-- what is left without the last step, if there is one
pub left : {X : Type 0} (f : X → Step) (old new : List X) (r : Option X) → old ≡ new ++ option_to_list r → (0 < length old → IsSome r) → map f new ≡ without_last (map f old)
left f old new (Some x) e h = sym (ap (λ xs. without_last (map f xs)) e ∙ ap without_last (map_last f new x) ∙ without_last-append (map f new) (f x))
left f [] [] None e h = refl
left f [] (x ∷ xs) None e h = absurd (cc)
left f (o ∷ os) new None e h =
    let none : false ≡ true = h (omega arith) in
    absurd (cc)

-- what was noticed a step further down, seen from above
pub back : (f : List Step → List Noted) (step : Step) (at below there above : List Step) (old entered more new : List Noted)
    → below ≡ at ++ step ∷ [] → entered ≡ old → there ≡ below → more ≡ entered ++ f below → above ≡ without_last there → new ≡ more
    → (above ≡ at) × (new ≡ old ++ f (at ++ step ∷ []))
back f step at below there above old entered more new down same stays adds up kept = (
  up ∙ ap without_last (stays ∙ down) ∙ without_last-append at step,
  kept ∙ adds ∙ ap (λ xs. xs ++ f below) same ∙ ap (λ xs. old ++ f xs) down,
)

-- what is left behind one part of the notices
pub on : (old new more rest next all : List Noted) → new ≡ old ++ more → rest ≡ more ++ next → old ++ rest ≡ all → new ++ next ≡ all
on old new more rest next all e r h = ap (λ xs. xs ++ next) e ∙ append_assoc old more next ∙ ap (λ xs. old ++ xs) (sym r) ∙ h
