-- A kind refuses a value at one place.
use Rattle.std.proofs.Common.{◌≡◌, List, [], ◌∷◌, Option, Some, None, refl, sym, ap, ◌∙◌, subst}
use Rattle.serde_json.specs.Data.{Data}
use Rattle.serde_json.specs.Find.{get_member, as_array, as_object}
use Rattle.gltf_base.specs.Steps.{Step, field, item, key, value}
use Rattle.gltf_schema.specs.Maybe.{◌>>=◌}
use Rattle.gltf_schema.specs.Kind.{Kind, IndexInto, Number, Numbers, Attributes, ListOf, Object}
use Rattle.gltf_schema.specs.Refused.{refused_row, refused_item, refused_entry, IsMissingOr, IsRefusedAt}

-- what is nothing has no part
none_inside : {A B : Type 0} (o : Option A) (f : A → Option B) (x : B) → o ≡ None → (o >>= f) ≡ Some x → ⊥
none_inside o f x none h = let found : None ≡ Some x = sym (ap (λ a. a >>= f) none) ∙ h in cc

first_of : {A B : Type 0} (a a' : A) (b b' : B) → ◌≡◌ {A = Option (A × B)} (Some (a, b)) (Some (a', b')) → a ≡ a'
first_of {A} {B} a a' b b' h = let pair : ◌≡◌ {A = A × B} (a, b) (a', b') = cc in ap (λ (q : A × B). q.0) pair

second_of : {A B : Type 0} (a a' : A) (b b' : B) → ◌≡◌ {A = Option (A × B)} (Some (a, b)) (Some (a', b')) → b ≡ b'
second_of {A} {B} a a' b b' h = let pair : ◌≡◌ {A = A × B} (a, b) (a', b') = cc in ap (λ (q : A × B). q.1) pair

same_rest : (a a' : Step) (s t : List Step) → a ≡ a' → s ≡ t → a ∷ s ≡ a' ∷ t
same_rest a a' s t first rest = rw (first, rest) refl

-- steps from a member, if the steps in its value are the same
from_member : (s t : List Step) (kind : Kind) (m : Option Data) → ((x : Data) → IsRefusedAt s kind x → IsRefusedAt t kind x → s ≡ t)
    → IsMissingOr s (λ x. IsRefusedAt s kind x) m → IsMissingOr t (λ x. IsRefusedAt t kind x) m → s ≡ t
from_member s t kind None same h k = h ∙ sym k
from_member s t kind (Some x) same h k = same x h k

pub one_place : (s t : List Step) (kind : Kind) (d : Data) → IsRefusedAt s kind d → IsRefusedAt t kind d → s ≡ t
one_place [] [] kind d h k = refl
one_place [] (item i ∷ t) (ListOf kind) d h k = absurd (none_inside (as_array d) (refused_item kind 0) (i, k.0) h k.1)
one_place [] (item i ∷ t) (Numbers n) d h k = let found : None ≡ Some (i, k.0) = sym h.0 ∙ k.1 in absurd cc
one_place [] (field n ∷ t) (Attributes named) d h k = absurd (none_inside (as_object d) (refused_entry (IndexInto named)) (n, k.0) h k.1)
one_place [] (field n ∷ t) (Object rule rows keeps) d h k = absurd (none_inside (as_object d) (refused_row rows) (n, k.0) h k.1)
one_place [] (item i ∷ t) kind d h k = absurd k
one_place [] (field n ∷ t) kind d h k = absurd k
one_place [] (key x ∷ t) kind d h k = absurd k
one_place [] (value x ∷ t) kind d h k = absurd k
one_place (item i ∷ s) [] (ListOf kind) d h k = absurd (none_inside (as_array d) (refused_item kind 0) (i, h.0) k h.1)
one_place (item i ∷ s) [] (Numbers n) d h k = let found : None ≡ Some (i, h.0) = sym k.0 ∙ h.1 in absurd cc
one_place (item i ∷ s) (item j ∷ t) (ListOf kind) d h k =
    let found = sym h.1 ∙ k.1 in
    let x = second_of i j h.0 k.0 found in
    same_rest (item i) (item j) s t (ap item (first_of i j h.0 k.0 found)) (one_place s t kind h.0 h.2 (subst (λ x. IsRefusedAt t kind x) (sym x) k.2))
one_place (item i ∷ s) (item j ∷ t) (Numbers n) d h k =
    let found = sym h.1 ∙ k.1 in
    let x = second_of i j h.0 k.0 found in
    same_rest (item i) (item j) s t (ap item (first_of i j h.0 k.0 found)) (one_place s t Number h.0 h.2 (subst (λ x. IsRefusedAt t Number x) (sym x) k.2))
one_place (item i ∷ s) (item j ∷ t) kind d h k = absurd h
one_place (item i ∷ s) (field n ∷ t) (ListOf kind) d h k = absurd k
one_place (item i ∷ s) (field n ∷ t) (Numbers m) d h k = absurd k
one_place (item i ∷ s) (key x ∷ t) kind d h k = absurd k
one_place (item i ∷ s) (value x ∷ t) kind d h k = absurd k
one_place (item i ∷ s) t kind d h k = absurd h
one_place (field n ∷ s) [] (Attributes named) d h k = absurd (none_inside (as_object d) (refused_entry (IndexInto named)) (n, h.0) k h.1)
one_place (field n ∷ s) [] (Object rule rows keeps) d h k = absurd (none_inside (as_object d) (refused_row rows) (n, h.0) k h.1)
one_place (field n ∷ s) (field m ∷ t) (Attributes named) d h k =
    let found = sym h.1 ∙ k.1 in
    let x = second_of n m h.0 k.0 found in
    same_rest (field n) (field m) s t (ap field (first_of n m h.0 k.0 found)) (one_place s t (IndexInto named) h.0 h.2 (subst (λ x. IsRefusedAt t (IndexInto named) x) (sym x) k.2))
one_place (field n ∷ s) (field m ∷ t) (Object rule rows keeps) d h k =
    let found = sym h.1 ∙ k.1 in
    let name = first_of n m h.0 k.0 found in
    let kind = second_of n m h.0 k.0 found in
    let inner = subst (λ q. IsMissingOr t (λ x. IsRefusedAt t q x) (as_object d >>= get_member n)) (sym kind) (subst (λ q. IsMissingOr t (λ x. IsRefusedAt t k.0 x) (as_object d >>= get_member q)) (sym name) k.2) in
    same_rest (field n) (field m) s t (ap field name) (from_member s t h.0 (as_object d >>= get_member n) (one_place s t h.0) h.2 inner)
one_place (field n ∷ s) (item i ∷ t) (Attributes named) d h k = absurd k
one_place (field n ∷ s) (item i ∷ t) (Object rule rows keeps) d h k = absurd k
one_place (field n ∷ s) (key x ∷ t) kind d h k = absurd k
one_place (field n ∷ s) (value x ∷ t) kind d h k = absurd k
one_place (field n ∷ s) t kind d h k = absurd h
one_place (key x ∷ s) t kind d h k = absurd h
one_place (value x ∷ s) t kind d h k = absurd h
