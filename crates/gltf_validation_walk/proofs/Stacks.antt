-- Moves of a checklist, and checklists one below the other at their ends.
use Rattle.std.proofs.Common.{◌≡◌, ℕ, zero, suc, ◌+◌, ◌-◌, ◌≤◌, ◌<◌, max, List, [], ◌∷◌, ◌++◌, length, take, refl, ap, sym, ◌∙◌, append_assoc, append-nil, arith, length-append, take_all}
use Rattle.std.proofs.lemmas.List.{take-append-le}
use Rattle.gltf_base.specs.Steps.{Step}
use Rattle.gltf_base.specs.declared.validation.Error.{Error}
use Rattle.gltf_validation_rules.specs.Report.{From, report}
use Rattle.gltf_validation_objects.specs.Checklist.{Checklist, place, Checklists, nothing, below, reports_of, reports_below, reports_here, Move, down, fault, over, rest_after, rest_after_below, first_move, height}
use Rattle.gltf_validation_walk.specs.Stacks.{to_come_from, to_come_of, reach}

-- ---- how many moves there are

abbrev mutual
  -- the moves that a walk through a checklist makes, and the one that finds it over
  pub weight : Checklist → ℕ
  weight (place ps es) = 1 + (length es + weights ps)

  pub weights : Checklists → ℕ
  weights nothing = 0
  weights (below s p ps) = (1 + weight p) + weights ps

-- the moves that are left
abbrev pub weight_of : List Checklist → ℕ
weight_of [] = 0
weight_of (p ∷ ps) = weight p + weight_of ps

-- ---- a move of a checklist

-- what is left after the first move
abbrev pub rest : Checklist → Checklist
rest (place (below s p ps) es) = place ps es
rest (place nothing (e ∷ es)) = place nothing es
rest (place nothing []) = place nothing []

left_next : (ps : Checklists) (es : List Error) (n : ℕ) → rest_after_below ps es (suc n) ≡ rest (rest_after_below ps es n)
left_next nothing [] zero = refl
left_next nothing [] (suc n) = left_next nothing [] n
left_next nothing (e ∷ es) zero = refl
left_next nothing (e ∷ es) (suc n) = left_next nothing es n
left_next (below s p ps) es zero = refl
left_next (below s p ps) es (suc n) = left_next ps es n

pub left_further : (p : Checklist) (n : ℕ) → rest_after p (suc n) ≡ rest (rest_after p n)
left_further (place ps es) n = left_next ps es n

-- what a move reports, weighs and steps down
abbrev pub reported_by : Move → From
reported_by (down s p) base = reports_of p (base ++ s ∷ [])
reported_by (fault e) base = report base e ∷ []
reported_by over base = []

abbrev pub weight_by : Move → ℕ
weight_by (down s p) = 1 + weight p
weight_by (fault e) = 1
weight_by over = 0

abbrev pub height_by : Move → ℕ
height_by (down s p) = 1 + height p
height_by (fault e) = 0
height_by over = 0

reports_move : (p : Checklist) (base : List Step) → reports_of p base ≡ reported_by (first_move p) base ++ reports_of (rest p) base
reports_move (place (below s p ps) es) base = append_assoc (reports_of p (base ++ s ∷ [])) (reports_below ps base) (reports_here es base)
reports_move (place nothing (e ∷ es)) base = refl
reports_move (place nothing []) base = refl

pub weight_move : (p : Checklist) → weight p ≡ weight_by (first_move p) + weight (rest p)
weight_move (place (below s p ps) es) = omega arith
weight_move (place nothing (e ∷ es)) = omega arith
weight_move (place nothing []) = omega arith

pub weight_least : (p : Checklist) → 1 ≤ weight p
weight_least (place ps es) = omega arith

pub height_move : (p : Checklist) → height p ≡ max (height_by (first_move p)) (height (rest p))
height_move (place (below s p ps) es) = refl
height_move (place nothing (e ∷ es)) = refl
height_move (place nothing []) = refl

-- ---- checklists one below the other, at their ends

pub reach_last : (n : ℕ) (ps : List Checklist) (p : Checklist) → reach n (ps ++ p ∷ []) ≡ max (reach n ps) (n + length ps + height p)
reach_last n [] p = omega arith
reach_last n (q ∷ ps) p = omega (arith, reach_last (suc n) ps p)

pub weight_last : (ps : List Checklist) (p : Checklist) → weight_of (ps ++ p ∷ []) ≡ weight_of ps + weight p
weight_last [] p = omega arith
weight_last (q ∷ ps) p = omega (arith, weight_last ps p)

-- the last comes first
from_last : (n : ℕ) (steps : List Step) (ps : List Checklist) (p : Checklist) → to_come_from n steps (ps ++ p ∷ []) ≡ reports_of p (take (length ps + n) steps) ++ to_come_from n steps ps
from_last n steps [] p =
    let here : 0 + n ≡ n = omega arith in
    rw here (sym (append-nil _))
from_last n steps (q ∷ ps) p =
    ap (λ rs. rs ++ reports_of q (take n steps)) (from_last (suc n) steps ps p ∙ ap (λ k. reports_of p (take k steps) ++ to_come_from (suc n) steps ps) (omega arith))
    ∙ append_assoc (reports_of p (take (length (q ∷ ps) + n) steps)) (to_come_from (suc n) steps ps) (reports_of q (take n steps))

-- only so many steps are read as there are checklists
from_same : (n : ℕ) (ss us : List Step) (ps : List Checklist) → ((k : ℕ) → k < length ps + n → take k ss ≡ take k us) → to_come_from n ss ps ≡ to_come_from n us ps
from_same n ss us [] h = refl
from_same n ss us (p ∷ ps) h =
    ap (λ rs. rs ++ reports_of p (take n ss)) (from_same (suc n) ss us ps (λ k l. h k (omega arith)))
    ∙ ap (λ at. to_come_from (suc n) us ps ++ reports_of p at) (h n (omega arith))

-- the last is at all the steps
pub of_last : (steps : List Step) (ps : List Checklist) (p : Checklist) → length ps ≤ length steps
    → to_come_of steps (ps ++ p ∷ []) ≡ reports_of p steps ++ to_come_from (length steps - length ps) steps ps
of_last steps ps p l =
    let here : length steps - (length (ps ++ p ∷ []) - 1) ≡ length steps - length ps = omega (arith, length-append ps (p ∷ [])) in
    let all : take (length ps + (length steps - length ps)) steps ≡ steps = take_all _ steps (omega arith) in
    ap (λ n. to_come_from n steps (ps ++ p ∷ [])) here
    ∙ (from_last (length steps - length ps) steps ps p ∙ ap (λ at. reports_of p at ++ to_come_from (length steps - length ps) steps ps) all)

-- a move is made: what it reports comes first
pub moved : (steps : List Step) (ps : List Checklist) (p : Checklist) → length ps ≤ length steps
    → to_come_of steps (ps ++ p ∷ []) ≡ reported_by (first_move p) steps ++ to_come_of steps (ps ++ rest p ∷ [])
moved steps ps p l =
    let far = to_come_from (length steps - length ps) steps ps in
    of_last steps ps p l
    ∙ (ap (λ rs. rs ++ far) (reports_move p steps)
    ∙ (append_assoc (reported_by (first_move p) steps) (reports_of (rest p) steps) far ∙ ap (λ rs. reported_by (first_move p) steps ++ rs) (sym (of_last steps ps (rest p) l))))

-- a checklist is gone into, a step further
pub entered : (steps : List Step) (s : Step) (ps : List Checklist) (p : Checklist) → 1 ≤ length ps → length ps ≤ suc (length steps)
    → to_come_of (steps ++ s ∷ []) (ps ++ p ∷ []) ≡ reports_of p (steps ++ s ∷ []) ++ to_come_of steps ps
entered steps s ps p some l =
    let long : length (steps ++ s ∷ []) ≡ suc (length steps) = omega (arith, length-append steps (s ∷ [])) in
    let here : length (steps ++ s ∷ []) - length ps ≡ length steps - (length ps - 1) = omega arith in
    of_last (steps ++ s ∷ []) ps p (omega arith)
    ∙ ap (λ rs. reports_of p (steps ++ s ∷ []) ++ rs)
    (ap (λ n. to_come_from n (steps ++ s ∷ []) ps) here
    ∙ from_same (length steps - (length ps - 1)) (steps ++ s ∷ []) steps ps (λ k m. take-append-le k steps (s ∷ []) (omega arith)))

-- a checklist that is over is left, and its step with it
pub left_behind : (steps here tail : List Step) (ps : List Checklist) (p : Checklist) → length ps ≤ length steps → reports_of p steps ≡ []
    → steps ≡ here ++ tail → length here ≡ length steps - 1 → to_come_of steps (ps ++ p ∷ []) ≡ to_come_of here ps
left_behind steps here tail [] p l e d m = of_last steps [] p l ∙ (append-nil _ ∙ e)
left_behind steps here tail (q ∷ ps) p l e d m =
    let n = length steps - length (q ∷ ps) in
    let same : n ≡ length here - (length (q ∷ ps) - 1) = omega arith in
    of_last steps (q ∷ ps) p l
    ∙ (ap (λ rs. rs ++ to_come_from n steps (q ∷ ps)) e
    ∙ (from_same n steps here (q ∷ ps) (λ k b. ap (take k) d ∙ take-append-le k here tail (omega arith)) ∙ ap (λ i. to_come_from i here (q ∷ ps)) same))
