-- Walks of validation, one after another.
use Rattle.std.proofs.Common.{◌≡◌, ℕ, ◌+◌, ◌<◌, ◌≤◌, List, [], ◌∷◌, ◌++◌, length, Some, Result, Ok, Err, refl, sym, ◌∙◌, ap, subst, append_assoc, arith}
use Rattle.std.proofs.lemmas.Result.{err_from_is_err_and}
use Rattle.std.specs.Result.{IsErrAnd}
use Rattle.arrayvec.specs.ArrayVec.{ArrayVec}
use Rattle.gltf_base.specs.Steps.{Step, steps_of}
use Rattle.gltf_base.specs.declared.path.Step.{Step as Borrowed}
use Rattle.gltf_base.specs.declared.validation.Error.{Error}
use Rattle.gltf_validation_rules.specs.Report.{Report, report, found_at, From}
use Rattle.gltf_validation_rules.specs.declared.sink.Stop.{Stop}
use Rattle.gltf_validation_rules.specs.declared.sink.Stop.TheVariants.{StepsFull, Sink}
use Rattle.gltf_validation_rules.specs.SinkOutcome.{run, HandedOver, Walked}

-- reports in two parts are taken one part after the other
pub run-append : {S : Type 0} (next : S → List Step → Error → S) (s : S) (xs ys : List Report) → run next s (xs ++ ys) ≡ run next (run next s xs) ys
run-append next s [] ys = refl
run-append next s (x ∷ xs) ys = run-append next (next s x.steps x.error) xs ys

module _ {S R : Type 0} (next : S → List Step → Error → S) (refuses : S → List Step → Error → R → S → Type 0) where
  -- reports that come after some that were taken
  handed-behind : (s t u : S) (xs ys : List Report) (n : ℕ) (r : Result (Unit {0}) (Stop R))
      → t ≡ run next s xs → HandedOver next refuses t ys n r u → HandedOver next refuses s (xs ++ ys) n r u
  handed-behind s t u xs ys n (Ok _) e h = h ∙ (ap (λ v. run next v ys) e ∙ sym (run-append next s xs ys))
  handed-behind s t u xs ys n (Err StepsFull) e h = (
    h.0,
    (
      xs ++ h.1.0,
      h.1.1,
      ap (λ zs. xs ++ zs) h.1.2 ∙ sym (append_assoc xs h.1.0 h.1.1),
      h.1.3 ∙ (ap (λ v. run next v h.1.0) e ∙ sym (run-append next s xs h.1.0)),
    ),
  )
  handed-behind s t u xs ys n (Err (Sink r)) e h = (
    xs ++ h.0,
    h.1,
    h.2,
    ap (λ zs. xs ++ zs) h.3 ∙ sym (append_assoc xs h.0 (h.1 ∷ h.2)),
    subst (λ v. refuses v h.1.steps h.1.error r u) (ap (λ v. run next v h.0) e ∙ sym (run-append next s xs h.0)) h.4,
  )

  -- reports before others to which a walk that stopped didn't come
  handed-before : (s t : S) (xs ys : List Report) (n : ℕ) (stop : Stop R)
      → HandedOver next refuses s xs n (Err stop) t → HandedOver next refuses s (xs ++ ys) n (Err stop) t
  handed-before s t xs ys n StepsFull h =
      (h.0, (h.1.0, h.1.1 ++ ys, ap (λ zs. zs ++ ys) h.1.2 ∙ append_assoc h.1.0 h.1.1 ys, h.1.3))
  handed-before s t xs ys n (Sink r) h =
      (h.0, h.1, h.2 ++ ys, ap (λ zs. zs ++ ys) h.3 ∙ append_assoc h.0 (h.1 ∷ h.2) ys, h.4)

  -- more steps may be allowed for
  pub handed-wider : (s t : S) (xs : List Report) (n m : ℕ) (r : Result (Unit {0}) (Stop R))
      → n ≤ m → HandedOver next refuses s xs n r t → HandedOver next refuses s xs m r t
  handed-wider s t xs n m (Ok _) l h = h
  handed-wider s t xs n m (Err StepsFull) l h = (let past : 16 < n = h.0 in omega arith, h.1)
  handed-wider s t xs n m (Err (Sink r)) l h = h

-- ---- walks

module _ {S R : Type 0} {next : S → List Step → Error → S} {refuses : S → List Step → Error → R → S → Type 0} where
  -- a report that was refused
  pub walked_refused : (p : ArrayVec Borrowed) (s t : S) (error : Error) (n : ℕ) (r : R)
      → refuses s (steps_of p) error r t → Walked next refuses p s (found_at (Some error)) n (Err (Sink r)) p t
  walked_refused p s t error n r h = record { same = refl; handed = ([], report (steps_of p) error, [], refl, h) }

  -- a walk that came through, and another behind it
  pub walked_then : {r : Result (Unit {0}) (Stop R)} {p p' p'' : ArrayVec Borrowed} {s t u : S} {f g : From} {n m : ℕ}
      → Walked next refuses p s f n (Ok tt) p' t → Walked next refuses p' t g m r p'' u → Walked next refuses p s (λ base. f base ++ g base) m r p'' u
  walked_then {r} {p} {p'} {p''} {s} {t} {u} {f} {g} {n} {m} h k =
      let k' : HandedOver next refuses t (g (steps_of p)) (length (steps_of p) + m) r u =
      subst (λ (v : ArrayVec Borrowed). HandedOver next refuses t (g (steps_of v)) (length (steps_of v) + m) r u) h.same k.handed in
      record { same = k.same ∙ h.same; handed = handed-behind next refuses s t u (f (steps_of p)) (g (steps_of p)) (length (steps_of p) + m) r h.handed k' }

  -- a walk that stopped, before another that was not begun
  pub walked_stopped : {stop : Stop R} {r : Result (Unit {0}) (Stop R)} {p q : ArrayVec Borrowed} {s t : S} {f : From} (g : From) {n m : ℕ}
      → IsErrAnd r (λ z. z ≡ stop) → n ≤ m → Walked next refuses p s f n (Err stop) q t → Walked next refuses p s (λ base. f base ++ g base) m r q t
  walked_stopped {stop} {r} {p} {q} {s} {t} {f} g {n} {m} j l h =
      let xs = f (steps_of p) in
      let ys = g (steps_of p) in
      let steps = length (steps_of p) + m in
      let found = err_from_is_err_and r j in
      let is : r ≡ Err stop = found.1 ∙ ap (λ (z : Stop R). Err z) found.2 in
      let wide : HandedOver next refuses s xs steps (Err stop) t = handed-wider next refuses s t xs (length (steps_of p) + n) steps (Err stop) (omega arith) h.handed in
      record {
        same = h.same;
        handed = subst (λ (v : Result (Unit {0}) (Stop R)). HandedOver next refuses s (xs ++ ys) steps v t) (sym is)
            (handed-before next refuses s t xs ys steps stop wide);
      }

  -- a walk over reports that are the same in other words
  pub walked_same : {r : Result (Unit {0}) (Stop R)} {p q : ArrayVec Borrowed} {s t : S} {f g : From} {n : ℕ}
      → ((base : List Step) → g base ≡ f base) → Walked next refuses p s f n r q t → Walked next refuses p s g n r q t
  walked_same {r} {p} {q} {s} {t} {f} {g} {n} e h =
      record { same = h.same; handed = subst (λ zs. HandedOver next refuses s zs (length (steps_of p) + n) r t) (sym (e (steps_of p))) h.handed }

  -- a greater depth may be claimed
  pub walked_wider : {r : Result (Unit {0}) (Stop R)} {p q : ArrayVec Borrowed} {s t : S} {f : From} {n m : ℕ}
      → n ≤ m → Walked next refuses p s f n r q t → Walked next refuses p s f m r q t
  walked_wider {r} {p} {q} {s} {t} {f} {n} {m} l h =
      record { same = h.same; handed = handed-wider next refuses s t (f (steps_of p)) (length (steps_of p) + n) (length (steps_of p) + m) r (omega arith) h.handed }
