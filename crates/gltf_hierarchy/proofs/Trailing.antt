-- A node that joins the trail.
use Rattle.std.proofs.Common.{◌≡◌, ℕ, ◌<◌, ◌≤◌, ◌+◌, List, [], ◌∷◌, ◌++◌, length, get_or, Option, Some, refl, sym, ◌∙◌, subst, arith, inl, inr, ◌⊎◌}
use Rattle.std.proofs.Math.ListN.{set, length-set}
use Rattle.std.proofs.lemmas.List.{get_or-set_same, get_or-set_other}
use Rattle.std.proofs.lemmas.Bool.{cases_eq, cases_lt}
use Rattle.gltf_hierarchy.specs.Sorting.{parent_of}
use Rattle.gltf_hierarchy.specs.Trailing.{IsTrail, IsClimb, IsNext}
use Rattle.gltf_hierarchy.proofs.Steps.{pushed_found, pushed_stepped, last_read, early_read, length_more}

pushed_trail : (parents : List (Option ℕ)) (steps nodes : List ℕ) (n : ℕ) → IsTrail parents steps nodes → n < length parents → get_or steps n 0 ≡ 0 → IsTrail parents (set steps n (length nodes + 1)) (nodes ++ n ∷ [])
pushed_trail parents steps nodes n t small unstepped =
    let within_steps : n < length steps = omega (arith, small, t.len) in
    record {
      len = length-set steps n (length nodes + 1) ∙ t.len;
      found = λ m some. pushed_found [] steps nodes n m within_steps (λ h e. t.found m h) some refl;
      stepped = λ j h. (pushed_stepped [] steps nodes n j within_steps refl unstepped (λ early. (t.stepped j early, refl)) h).0;
    }

pub pushed_climb : (parents : List (Option ℕ)) (base : ℕ) (old steps nodes : List ℕ) (n : ℕ) → IsClimb parents base old steps nodes → IsNext parents nodes base (Some n) → n < length parents → get_or steps n 0 ≡ 0 → IsClimb parents base old (set steps n (length nodes + 1)) (nodes ++ n ∷ [])
pushed_climb parents base old steps nodes n c next small unstepped =
    let x : ℕ = length nodes + 1 in
    let within_steps : n < length steps = omega (arith, small, c.trail.len) in
    let here : get_or (set steps n x) n 0 ≡ x = get_or-set_same steps n x 0 within_steps in
    let other : (m : ℕ) → (m ≡ n → ⊥) → get_or (set steps n x) m 0 ≡ get_or steps m 0 = λ m apart. get_or-set_other steps n m x 0 apart in
    let earlier : (m : ℕ) → get_or (set steps n x) m 0 ≤ base → m ≡ n → ⊥ = λ m le e. let now : get_or (set steps n x) m 0 ≡ x = rw e here in omega (arith, now, le, c.longer) in
    record {
      trail = pushed_trail parents steps nodes n c.trail small unstepped;
      longer = omega (arith, c.longer, length_more nodes n);
      closed = λ m p some le parent.
          let same : get_or (set steps n x) m 0 ≡ get_or steps m 0 = other m (earlier m le) in
          let up = c.closed m p (subst (λ y. 0 < y) same some) (subst (λ y. y ≤ base) same le) parent in
          let apart : p ≡ n → ⊥ = λ e. let zero_here : get_or steps p 0 ≡ 0 = rw e unstepped in omega (arith, zero_here, up.0) in
          rw (other p apart) up;
      kept = λ m some. elim (cases_eq m n) [
        | inl e ↦ rw (e, here) (omega arith)
        | inr apart ↦ rw (other m apart) (c.kept m some)
      ];
      before = λ m some le.
          let same : get_or (set steps n x) m 0 ≡ get_or steps m 0 = other m (earlier m le) in
          c.before m (subst (λ y. 0 < y) same some) (subst (λ y. y ≤ base) same le);
      linked = λ j from h. elim (cases_lt (j + 1) (length nodes)) [
        | inl early ↦ rw (early_read nodes n j (omega arith), early_read nodes n (j + 1) early) (c.linked j from early)
        | inr late ↦
            let e : j + 1 ≡ length nodes = omega (arith, late, h, length_more nodes n) in
            rw (early_read nodes n j (omega arith), last_read nodes n (j + 1) e) (next j from e)
      ];
    }

pub next_up : (parents : List (Option ℕ)) (base : ℕ) (nodes : List ℕ) (n : ℕ) → IsNext parents (nodes ++ n ∷ []) base (parent_of parents n)
next_up parents base nodes n j from last =
    let here : get_or (nodes ++ n ∷ []) j 0 ≡ n = last_read nodes n j (omega (arith, last, length_more nodes n)) in
    rw here refl

pub begun_more : (steps nodes : List ℕ) (base n start : ℕ) (next : Option ℕ) → n < length steps → next ≡ Some n → (((length nodes ≡ base) × (next ≡ Some start)) ⊎ (0 < get_or steps start 0)) → 0 < get_or (set steps n (length nodes + 1)) start 0
begun_more steps nodes base n start next small here begun = elim (cases_eq start n) [
  | inl e ↦ rw (e, get_or-set_same steps n (length nodes + 1) 0 small) (omega arith)
  | inr apart ↦ elim begun [ inl b ↦ absurd (apart (let both : Some start ≡ Some n = sym b.1 ∙ here in cc)) | inr b ↦ rw (get_or-set_other steps n start (length nodes + 1) 0 apart) b ]
]
