-- Which nodes of a trail are on a cycle.
use Rattle.std.proofs.Common.{◌≡◌, ℕ, zero, suc, ◌<◌, ◌≤◌, ◌+◌, ◌-◌, List, length, get_or, Option, Some, None, refl, sym, ◌∙◌, ap, subst, arith, inl, inr}
use Rattle.std.proofs.lemmas.Option.{slice_get-get_or, slice_get_within, get_or_from_slice_get}
use Rattle.std.proofs.lemmas.Bool.{cases_lt}
use Rattle.gltf_hierarchy.specs.Order.{IsParent, IsAbove}
use Rattle.gltf_hierarchy.specs.Sorting.{parent_of}
use Rattle.gltf_hierarchy.specs.Cycles.{IsOnCycle, IsLowest}
use Rattle.gltf_hierarchy.specs.Trailing.{IsTrail, IsClosed, IsClimb, IsNext, IsTop, IsLeast}
use Rattle.gltf_hierarchy.proofs.Above.{above_more, parent_read}
use Rattle.gltf_hierarchy.proofs.Steps.{within}

-- ---- cycles

abbrev pub IsUp : List (Option ℕ) → ℕ → ℕ → Type 0
IsUp parents n a = (d : ℕ) × IsAbove parents d n a

pub join : (parents : List (Option ℕ)) (j n a b : ℕ) → IsAbove parents j n a → IsUp parents a b → IsUp parents n b
join parents zero n a b e (d, up) = (d, subst (λ x. IsAbove parents d x b) (sym e) up)
join parents (suc j) n a b (p, parent, rest) up = let more = join parents j p a b rest up in (suc more.0, (p, parent, more.1))

join_cycle : (parents : List (Option ℕ)) (j n a : ℕ) → IsAbove parents (suc j) n a → IsUp parents a n → IsOnCycle parents n
join_cycle parents j n a (p, parent, rest) up = let more = join parents j p a n rest up in (more.0, (p, parent, more.1))

-- from a node above a node of a cycle the way leads back
pub back : (parents : List (Option ℕ)) (j n a : ℕ) → IsOnCycle parents n → IsAbove parents j n a → IsUp parents a n
back parents zero n a cycle e = (0, sym e)
back parents (suc j) n a (k, (q, first, round)) (p, parent, rest) =
    let both : Some (Some q) ≡ Some (Some p) = sym first ∙ parent in
    let is : q ≡ p = cc in
    let down : IsAbove parents k p n = subst (λ x. IsAbove parents k x n) is round in
    let up = back parents j p a (k, above_more parents k p n p down parent) rest in
    join parents up.0 a p n up.1 (k, down)

parent_now : (parents : List (Option ℕ)) (n p : ℕ) → IsParent parents n p → parent_of parents n ≡ Some p
parent_now parents n p h = get_or_from_slice_get parents n (Some p) None h

has_parent : (parents : List (Option ℕ)) (d a n : ℕ) → IsOnCycle parents n → IsAbove parents d a n → (p : ℕ) × (parent_of parents a ≡ Some p)
has_parent parents zero a n (k, (q, first, round)) e = (q, subst (λ x. parent_of parents x ≡ Some q) (sym e) (parent_now parents n q first))
has_parent parents (suc d) a n cycle (p, parent, rest) = (p, parent_now parents a p parent)

no_root : (parents : List (Option ℕ)) (j n a : ℕ) → IsOnCycle parents n → IsAbove parents j n a → parent_of parents a ≡ None → ⊥
no_root parents j n a cycle up none =
    let again = back parents j n a cycle up in
    let p = has_parent parents again.0 a n cycle again.1 in
    let both : Some p.0 ≡ None = sym p.1 ∙ none in cc

closed_up : (parents : List (Option ℕ)) (P : ℕ → Type 0) → ((n p : ℕ) → P n → parent_of parents n ≡ Some p → P p) → (k n a : ℕ) → IsAbove parents k n a → P n → P a
closed_up parents P closed zero n a e h = subst P e h
closed_up parents P closed (suc k) n a (p, parent, rest) h = closed_up parents P closed k p a rest (closed n p h (parent_now parents n p parent))

not_round : (parents : List (Option ℕ)) (P : ℕ → Type 0) → ((n p : ℕ) → P n → parent_of parents n ≡ Some p → P p) → (j n a : ℕ) → (P n → ⊥) → IsOnCycle parents n → IsAbove parents j n a → P a → ⊥
not_round parents P closed j n a out cycle up h =
    let again = back parents j n a cycle up in
    out (closed_up parents P closed again.0 a n again.1 h)

-- ---- along a climb

along : (parents : List (Option ℕ)) (nodes : List ℕ) (base : ℕ) → ((j : ℕ) → base ≤ j → j + 1 < length nodes → parent_of parents (get_or nodes j 0) ≡ Some (get_or nodes (j + 1) 0)) → (k j : ℕ) → base ≤ j → j + k < length nodes → IsAbove parents k (get_or nodes j 0) (get_or nodes (j + k) 0)
along parents nodes base linked zero j from h = ap (λ i. get_or nodes i 0) (omega arith)
along parents nodes base linked (suc k) j from h =
    let first = parent_read parents _ _ (linked j from (omega arith)) in
    let rest = along parents nodes base linked k (j + 1) (omega arith) (omega arith) in
    (get_or nodes (j + 1) 0, first, subst (λ i. IsAbove parents k (get_or nodes (j + 1) 0) (get_or nodes i 0)) (omega arith) rest)

between : (parents : List (Option ℕ)) (base : ℕ) (old steps nodes : List ℕ) (i j : ℕ) → IsClimb parents base old steps nodes → base ≤ i → i ≤ j → j < length nodes → IsUp parents (get_or nodes i 0) (get_or nodes j 0)
between parents base old steps nodes i j c from le small =
    let k : ℕ = j - i in
    let e : i + k ≡ j = omega (arith, le) in
    (k, subst (λ x. IsAbove parents k (get_or nodes i 0) (get_or nodes x 0)) e (along parents nodes base c.linked k i from (omega (arith, e, small))))

-- from a node that a climb met to the parent of the last one
to_next : (parents : List (Option ℕ)) (base : ℕ) (old steps nodes : List ℕ) (i f : ℕ) → IsClimb parents base old steps nodes → base ≤ i → i < length nodes → IsNext parents nodes base (Some f) → (k : ℕ) × IsAbove parents (suc k) (get_or nodes i 0) f
to_next parents base old steps nodes i f c from small next =
    let last : ℕ = length nodes - 1 in
    let up = between parents base old steps nodes i last c from (omega (arith, small)) (omega (arith, small)) in
    (up.0, above_more parents up.0 (get_or nodes i 0) (get_or nodes last 0) f up.1 (parent_read parents (get_or nodes last 0) f (next last (omega (arith, from, small)) (omega (arith, small)))))

-- the place of a node that a climb met
pub record IsMet (base : ℕ) (steps nodes : List ℕ) (n i : ℕ) : Type 0 where
  pub from : base ≤ i
  pub small : i < length nodes
  pub at : get_or nodes i 0 ≡ n
  pub step : get_or steps n 0 ≡ i + 1

met : (parents : List (Option ℕ)) (base : ℕ) (steps nodes : List ℕ) (n : ℕ) → IsTrail parents steps nodes → base < get_or steps n 0 → IsMet base steps nodes n (get_or steps n 0 - 1)
met parents base steps nodes n t h =
    let f = t.found n (omega (arith, h)) in
    record { from = omega (arith, h); small = omega (arith, h, f.0); at = f.1; step = omega (arith, h) }

-- what the parent of a node is that a climb met
up_one : (parents : List (Option ℕ)) (base : ℕ) (old steps nodes : List ℕ) (n p i : ℕ) → IsClimb parents base old steps nodes → IsMet base steps nodes n i → parent_of parents n ≡ Some p → i + 1 < length nodes → get_or steps p 0 ≡ i + 2
up_one parents base old steps nodes n p i c m parent h =
    let link = c.linked i m.from h in
    let both : Some (get_or nodes (i + 1) 0) ≡ Some p = sym link ∙ ap (λ x. parent_of parents x) m.at ∙ parent in
    let is : get_or nodes (i + 1) 0 ≡ p = cc in
    let step = c.trail.stepped (i + 1) h in
    ap (λ x. get_or steps x 0) (sym is) ∙ step ∙ omega arith

last_parent : (parents : List (Option ℕ)) (base : ℕ) (steps nodes : List ℕ) (n p i : ℕ) (next : Option ℕ) → IsMet base steps nodes n i → parent_of parents n ≡ Some p → i + 1 ≡ length nodes → IsNext parents nodes base next → next ≡ Some p
last_parent parents base steps nodes n p i next m parent e ahead = sym (ahead i m.from e) ∙ ap (λ x. parent_of parents x) m.at ∙ parent

-- the nodes from the first one of the cycle on are closed
round_closed : (parents : List (Option ℕ)) (base : ℕ) (old steps nodes : List ℕ) (q : ℕ) → IsClimb parents base old steps nodes → IsTop parents base steps nodes (Some q) → (n p : ℕ) → q < get_or steps n 0 → parent_of parents n ≡ Some p → q < get_or steps p 0
round_closed parents base old steps nodes q c top n p h parent =
    let m = met parents base steps nodes n c.trail (omega (arith, h, top.0)) in
    let i : ℕ = get_or steps n 0 - 1 in
    elim (cases_lt (i + 1) (length nodes)) [
      | inl early ↦ omega (arith, h, up_one parents base old steps nodes n p i c m parent early)
      | inr late ↦
          let both : Some (get_or nodes q 0) ≡ Some p = last_parent parents base steps nodes n p i (Some (get_or nodes q 0)) m parent (omega (arith, late, m.small)) top.2 in
          let is : get_or nodes q 0 ≡ p = cc in
          let step : get_or steps p 0 ≡ q + 1 = ap (λ x. get_or steps x 0) (sym is) ∙ c.trail.stepped q top.1 in
          omega (arith, step)
    ]

top_parent : (parents : List (Option ℕ)) (base : ℕ) (old steps nodes : List ℕ) (n p i : ℕ) (end : Option ℕ) → IsClimb parents base old steps nodes → IsTop parents base steps nodes end → IsMet base steps nodes n i → parent_of parents n ≡ Some p → i + 1 ≡ length nodes → (0 < get_or steps p 0) × (get_or steps p 0 ≤ length nodes)
top_parent parents base old steps nodes n p i (Some q) c (from, small, ahead) m parent e =
    let both : Some (get_or nodes q 0) ≡ Some p = last_parent parents base steps nodes n p i (Some (get_or nodes q 0)) m parent e ahead in
    let is : get_or nodes q 0 ≡ p = cc in
    let step : get_or steps p 0 ≡ q + 1 = ap (λ x. get_or steps x 0) (sym is) ∙ c.trail.stepped q small in
    (omega (arith, step), omega (arith, step, small))
top_parent parents base old steps nodes n p i None c (next, ahead, earlier) m parent e =
    let there = earlier p (last_parent parents base steps nodes n p i next m parent e ahead) in
    (there.0, omega (arith, there.1, c.longer))

pub all_closed : (parents : List (Option ℕ)) (base : ℕ) (old steps nodes : List ℕ) (end : Option ℕ) → IsClimb parents base old steps nodes → IsTop parents base steps nodes end → IsClosed parents steps (length nodes)
all_closed parents base old steps nodes end c top n p some le parent = elim (cases_lt base (get_or steps n 0)) [
  | inl now ↦
      let m = met parents base steps nodes n c.trail now in
      let i : ℕ = get_or steps n 0 - 1 in
      elim (cases_lt (i + 1) (length nodes)) [
        | inl early ↦ let step = up_one parents base old steps nodes n p i c m parent early in (omega (arith, step), omega (arith, step, early))
        | inr late ↦ top_parent parents base old steps nodes n p i end c top m parent (omega (arith, late, m.small))
      ]
  | inr before ↦ let up = c.closed n p some before parent in (up.0, omega (arith, up.1, c.longer))
]

-- ---- where a climb ends

-- what ends at a root or an earlier node meets no new cycle
none_next : (parents : List (Option ℕ)) (base : ℕ) (old steps nodes : List ℕ) (n : ℕ) (next : Option ℕ) → IsClimb parents base old steps nodes → IsNext parents nodes base next → ((f : ℕ) → next ≡ Some f → (0 < get_or steps f 0) × (get_or steps f 0 ≤ base)) → base < get_or steps n 0 → IsOnCycle parents n → ⊥
none_next parents base old steps nodes n None c ahead earlier h cycle =
    let i : ℕ = get_or steps n 0 - 1 in
    let m = met parents base steps nodes n c.trail h in
    let last : ℕ = length nodes - 1 in
    let up = between parents base old steps nodes i last c m.from (omega (arith, m.small)) (omega (arith, m.small)) in
    no_root parents up.0 n (get_or nodes last 0) cycle (subst (λ x. IsAbove parents up.0 x (get_or nodes last 0)) m.at up.1) (ahead last (omega (arith, m.from, m.small)) (omega (arith, m.small)))
none_next parents base old steps nodes n (Some f) c ahead earlier h cycle =
    let i : ℕ = get_or steps n 0 - 1 in
    let m = met parents base steps nodes n c.trail h in
    let up = to_next parents base old steps nodes i f c m.from m.small ahead in
    not_round parents (λ x. (0 < get_or steps x 0) × (get_or steps x 0 ≤ base)) (λ x p s parent. c.closed x p s.0 s.1 parent) (suc up.0) n f (λ s. omega (arith, s.1, h)) cycle (subst (λ x. IsAbove parents (suc up.0) x f) m.at up.1) (earlier f refl)

pub none_new : (parents : List (Option ℕ)) (base : ℕ) (old steps nodes : List ℕ) (n : ℕ) → IsClimb parents base old steps nodes → IsTop parents base steps nodes None → base < get_or steps n 0 → IsOnCycle parents n → ⊥
none_new parents base old steps nodes n c top h cycle = none_next parents base old steps nodes n top.0 c top.1 top.2 h cycle

-- a new node on a cycle is on this one
in_round : (parents : List (Option ℕ)) (base : ℕ) (old steps nodes : List ℕ) (n q : ℕ) → IsClimb parents base old steps nodes → IsTop parents base steps nodes (Some q) → base < get_or steps n 0 → IsOnCycle parents n → q < get_or steps n 0
in_round parents base old steps nodes n q c top h cycle = elim (cases_lt q (get_or steps n 0)) [
  | inl inside ↦ inside
  | inr outside ↦ absurd (
      let i : ℕ = get_or steps n 0 - 1 in
      let m = met parents base steps nodes n c.trail h in
      let up = between parents base old steps nodes i q c m.from (omega (arith, outside)) top.1 in
      let step = c.trail.stepped q top.1 in
      not_round parents (λ x. q < get_or steps x 0) (round_closed parents base old steps nodes q c top) up.0 n (get_or nodes q 0) (λ s. omega (arith, s, outside)) cycle (subst (λ x. IsAbove parents up.0 x (get_or nodes q 0)) m.at up.1) (omega (arith, step)))
]

-- from a node of the cycle to the least one
to_least : (parents : List (Option ℕ)) (base : ℕ) (old steps nodes : List ℕ) (n q least : ℕ) → IsClimb parents base old steps nodes → IsTop parents base steps nodes (Some q) → IsLeast nodes q least → q < get_or steps n 0 → (k : ℕ) × IsAbove parents (suc k) n (get_or nodes q 0) × IsUp parents (get_or nodes q 0) least
to_least parents base old steps nodes n q least c top l h =
    let i : ℕ = get_or steps n 0 - 1 in
    let m = met parents base steps nodes n c.trail (omega (arith, h, top.0)) in
    let up = to_next parents base old steps nodes i (get_or nodes q 0) c m.from m.small top.2 in
    let there = l.at in
    let small : there.0 < length nodes = slice_get_within nodes there.0 least there.2 in
    let rest = between parents base old steps nodes q there.0 c top.0 there.1 small in
    (up.0, subst (λ x. IsAbove parents (suc up.0) x (get_or nodes q 0)) m.at up.1, subst (λ x. IsUp parents (get_or nodes q 0) x) (get_or_from_slice_get nodes there.0 least 0 there.2) rest)

pub new_marked : (parents : List (Option ℕ)) (base : ℕ) (old steps nodes : List ℕ) (n q least : ℕ) → IsClimb parents base old steps nodes → IsTop parents base steps nodes (Some q) → IsLeast nodes q least → base < get_or steps n 0 → IsOnCycle parents n → IsUp parents n least
new_marked parents base old steps nodes n q least c top l h cycle =
    let up = to_least parents base old steps nodes n q least c top l (in_round parents base old steps nodes n q c top h cycle) in
    join parents (suc up.0) n (get_or nodes q 0) least up.1 up.2

least_step : (parents : List (Option ℕ)) (steps nodes : List ℕ) (q least : ℕ) → IsTrail parents steps nodes → IsLeast nodes q least → (q < get_or steps least 0) × (least < length parents)
least_step parents steps nodes q least t l =
    let there = l.at in
    let small : there.0 < length nodes = slice_get_within nodes there.0 least there.2 in
    let is : get_or nodes there.0 0 ≡ least = get_or_from_slice_get nodes there.0 least 0 there.2 in
    let step : get_or steps least 0 ≡ there.0 + 1 = ap (λ x. get_or steps x 0) (sym is) ∙ t.stepped there.0 small in
    (omega (arith, step, there.1), omega (arith, within steps least (omega (arith, step)), t.len))

pub least_within : (parents : List (Option ℕ)) (steps nodes : List ℕ) (q least : ℕ) → IsTrail parents steps nodes → IsLeast nodes q least → least < length parents
least_within parents steps nodes q least t l = (least_step parents steps nodes q least t l).1

pub least_lowest : (parents : List (Option ℕ)) (base : ℕ) (old steps nodes : List ℕ) (q least : ℕ) → IsClimb parents base old steps nodes → IsTop parents base steps nodes (Some q) → IsLeast nodes q least → IsLowest parents least
least_lowest parents base old steps nodes q least c top l =
    let inside = (least_step parents steps nodes q least c.trail l).0 in
    let up = to_least parents base old steps nodes least q least c top l inside in
    record {
      on_cycle = join_cycle parents up.0 least (get_or nodes q 0) up.1 up.2;
      lowest = λ k a above.
          let there : q < get_or steps a 0 = closed_up parents (λ x. q < get_or steps x 0) (round_closed parents base old steps nodes q c top) k least a above inside in
          let m = met parents q steps nodes a c.trail there in
          l.no_less (get_or steps a 0 - 1) a m.from (slice_get-get_or nodes (get_or steps a 0 - 1) 0 m.small ∙ ap Some m.at);
    }
