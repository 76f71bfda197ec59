-- Numbers that rise, and the halves in which one of them is looked for.
use Rattle.std.proofs.Common.{◌≡◌, ◌≢◌, ℕ, zero, suc, ◌<◌, ◌≤◌, ◌+◌, ◌-◌, inl, inr, subst, arith}
use Rattle.std.proofs.lemmas.Bool.{cases_lt}

-- each number is below the next one
abbrev pub Steps : (ℕ → ℕ) → ℕ → Type 0
Steps f n = (i j : ℕ) → j ≡ i + 1 → j < n → f i < f j

abbrev pub Rises : (ℕ → ℕ) → ℕ → Type 0
Rises f n = (i j : ℕ) → i < j → j < n → f i < f j

pub no_steps : (f : ℕ → ℕ) → Steps f 1
no_steps f = λ i j e h. absurd (omega (arith, e, h))

pub steps_more : (f : ℕ → ℕ) (place : ℕ) → 1 ≤ place → Steps f place → f (place - 1) < f place → Steps f (place + 1)
steps_more f place low steps here = λ i j e h.
    elim (cases_lt j place) [
      | inl early ↦ steps i j e early
      | inr late ↦
          let last : place ≡ j = omega (arith, h, late) in
          let before : place - 1 ≡ i = omega (arith, e, h, late) in
          subst (λ k. f i < f k) last (subst (λ k. f k < f place) before here)
    ]

pub steps_rise : (f : ℕ → ℕ) (n : ℕ) → Steps f n → Rises f n
steps_rise f n steps i zero h small = absurd (omega (arith, h))
steps_rise f n steps i (suc j) h small =
    let step : f j < f (suc j) = steps j (suc j) (omega arith) small in
    elim (cases_lt i j) [
      | inl early ↦
          let before : f i < f j = steps_rise f n steps i j early (omega (arith, small)) in
          omega (arith, before, step)
      | inr late ↦
          let same : j ≡ i = omega (arith, h, late) in
          subst (λ k. f k < f (suc j)) same step
    ]

-- a number is not in the half below a lesser one
pub below_middle : (f : ℕ → ℕ) (n middle x : ℕ) → Rises f n → middle < n → f middle < x → (j : ℕ) → j < middle + 1 → f j < x
below_middle f n middle x rises small here = λ j h.
    elim (cases_lt j middle) [
      | inl early ↦ omega (arith, rises j middle early small, here)
      | inr late ↦
          let same : middle ≡ j = omega (arith, h, late) in
          subst (λ k. f k < x) same here
    ]

-- nor in the half above a greater one
pub above_middle : (f : ℕ → ℕ) (n middle x : ℕ) → Rises f n → x < f middle → (j : ℕ) → middle ≤ j → j < n → x < f j
above_middle f n middle x rises here = λ j low small.
    elim (cases_lt middle j) [
      | inl late ↦ omega (arith, rises middle j late small, here)
      | inr early ↦
          let same : middle ≡ j = omega (arith, low, early) in
          subst (λ k. x < f k) same here
    ]

pub nowhere : (f : ℕ → ℕ) (n low high x : ℕ) → high ≤ low → ((j : ℕ) → j < low → f j < x) → ((j : ℕ) → high ≤ j → j < n → x < f j) → (j : ℕ) → j < n → f j ≢ x
nowhere f n low high x none below above = λ j small e.
    elim (cases_lt j low) [
      | inl early ↦ absurd (omega (arith, e, below j early))
      | inr late ↦ absurd (omega (arith, e, above j (omega (arith, none, late)) small))
    ]

-- a number is at one place alone
pub one_place : (f : ℕ → ℕ) (n j k x : ℕ) → Rises f n → j < n → k < n → f j ≡ x → f k ≡ x → j ≡ k
one_place f n j k x rises small_j small_k at_j at_k =
    elim (cases_lt j k) [
      | inl early ↦ absurd (omega (arith, rises j k early small_k, at_j, at_k))
      | inr late ↦
          elim (cases_lt k j) [
            | inl early ↦ absurd (omega (arith, rises k j early small_j, at_j, at_k))
            | inr same ↦ omega (arith, late, same)
          ]
    ]
