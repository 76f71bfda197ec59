-- Walks in loops: over the items of a list, or the entries of a map.
use Rattle.std.proofs.Common.{◌≡◌, ℕ, suc, ◌+◌, ◌<◌, ◌≤◌, List, [], ◌∷◌, ◌++◌, length, get_or, drop, Result, Ok, Err, refl, sym, ◌∙◌, ap, append_assoc, arith, drop-cons, add-one}
use Rattle.std.proofs.Math.ListN.{drop_of_length-le}
use Rattle.std.proofs.lemmas.List.{append-nil}
use Rattle.std.specs.Result.{IsErrAnd}
use Rattle.arrayvec.specs.ArrayVec.{ArrayVec}
use Rattle.gltf_base.specs.Steps.{Step, item}
use Rattle.gltf_base.specs.declared.path.Step.{Step as Borrowed}
use Rattle.gltf_base.specs.declared.validation.Error.{Error}
use Rattle.gltf_validation_rules.specs.Report.{From, each_at}
use Rattle.gltf_validation_rules.specs.declared.sink.Stop.{Stop}
use Rattle.gltf_validation_rules.specs.SinkOutcome.{Walked}
use Rattle.gltf_validation_rules.proofs.Walks.{walked_then, walked_stopped, walked_same, walked_wider}

-- a walk over all reports is under way: that over those before came through, and the rest is to come
pub record Underway {S R : Type 0} (next : S → List Step → Error → S) (refuses : S → List Step → Error → R → S → Type 0)
    (path : ArrayVec Borrowed) (old : S) (all rest : From) (now : ArrayVec Borrowed) (new : S) : Type 0 where
  pub before : From
  pub split : (base : List Step) → all base ≡ before base ++ rest base
  pub came : Walked next refuses path old before 0 (Ok tt) now new

module _ {S R : Type 0} {next : S → List Step → Error → S} {refuses : S → List Step → Error → R → S → Type 0} where
  -- nothing came yet
  pub underway-begin : (p : ArrayVec Borrowed) (s : S) (all : From) → Underway next refuses p s all all p s
  underway-begin p s all = record { before = λ _. []; split = λ _. refl; came = record { same = refl; handed = refl } }

  -- what is to come, in other words
  pub underway-same : {p q : ArrayVec Borrowed} {o s : S} {all rest rest' : From}
      → ((base : List Step) → rest base ≡ rest' base) → Underway next refuses p o all rest q s → Underway next refuses p o all rest' q s
  underway-same e h = record { before = h.before; split = λ base. h.split base ∙ ap (λ zs. h.before base ++ zs) (e base); came = h.came }

  -- one more walk came through
  pub underway-more : {p q q' : ArrayVec Borrowed} {o s t : S} {all : From} {n : ℕ} (f rest : From)
      → Underway next refuses p o all (λ base. f base ++ rest base) q s → Walked next refuses q s f n (Ok tt) q' t
      → Underway next refuses p o all rest q' t
  underway-more f rest h w =
      let both = walked_then h.came w in
      record {
        before = λ base. h.before base ++ f base;
        split = λ base. h.split base ∙ sym (append_assoc (h.before base) (f base) (rest base));
        came = record { same = both.same; handed = both.handed };
      }

  -- nothing is to come
  pub underway-end : {p q : ArrayVec Borrowed} {o s : S} {all : From} {n : ℕ}
      → Underway next refuses p o all (λ _. []) q s → Walked next refuses p o all n (Ok tt) q s
  underway-end h = walked_same (λ base. h.split base ∙ append-nil (h.before base)) (walked_wider (omega arith) h.came)

  -- one more walk stopped
  pub underway-exit : {p q q' : ArrayVec Borrowed} {o s t : S} {all : From} {n : ℕ} {stop : Stop R} {r : Result (Unit {0}) (Stop R)} (f rest : From)
      → IsErrAnd r (λ z. z ≡ stop) → Underway next refuses p o all (λ base. f base ++ rest base) q s → Walked next refuses q s f n (Err stop) q' t
      → Walked next refuses p o all n r q' t
  underway-exit f rest j h w = walked_same h.split (walked_then h.came (walked_stopped rest j (omega arith) w))

-- the items from a number on: the one there, and those behind it
pub each_at-next : {X : Type 0} (f : X → From) (i : ℕ) (xs : List X) (x : X) → i < length xs → x ≡ get_or xs i x
    → (base : List Step) → each_at f i (drop i xs) base ≡ f x (base ++ item i ∷ []) ++ each_at f (i + 1) (drop (i + 1) xs) base
each_at-next f i xs x l e base =
    ap (λ ys. each_at f i ys base) (drop-cons xs i x l) ∙ (rw (add-one i) (ap (λ y. f y (base ++ item i ∷ []) ++ each_at f (suc i) (drop (suc i) xs) base) (sym e)))

-- past the end of the list there is nothing
pub each_at-past : {X : Type 0} (f : X → From) (i : ℕ) (xs : List X) → length xs ≤ i → (base : List Step) → each_at f i (drop i xs) base ≡ []
each_at-past f i xs l base = ap (λ ys. each_at f i ys base) (drop_of_length-le xs l)
