use Rattle.std.proofs.Common.{◌≡◌, ℕ, ◌<◌, ◌≤◌, ◌+◌, List, length, get_or, Option, Some, None, Bool, true, false, sym, ◌∙◌, subst, arith, inl, inr}
use Rattle.std.proofs.Math.ListN.{set, length-set}
use Rattle.std.proofs.lemmas.List.{get_or-set_same, get_or-set_other}
use Rattle.std.proofs.lemmas.Bool.{cases_eq, cases_lt}
use Rattle.std.proofs.lemmas.Option.{slice_get_within}
use Rattle.gltf_hierarchy.specs.Cycles.{AreLowest, IsLowest}
use Rattle.gltf_hierarchy.specs.Trailing.{IsMarking, IsEnd, IsLeast}
use Rattle.gltf_hierarchy.specs.declared.cycles.Trail.{Trail}
use Rattle.gltf_hierarchy.proofs.Rounds.{none_new, new_marked, least_within, least_lowest, all_closed}
use Rattle.gltf_hierarchy.proofs.cycles.lowest_of_cycles.Goals as goal
use Rattle.gltf_hierarchy.proofs.cycles.lowest_of_cycles.Goals.{in-Some, in_default}

-- the marks of a climb that found no cycle
none_found : (parents : List (Option ℕ)) (start : ℕ) (old new : Trail) (marks : List Bool) → IsMarking parents start old marks → IsEnd parents start old new None → IsMarking parents (start + 1) new marks
none_found parents start old new marks m e = record {
  resting = record { trail = e.climb.trail; closed = all_closed parents (length old.nodes.items) old.steps.items new.steps.items new.nodes.items None e.climb e.top };
  done = λ n h. elim (cases_eq n start) [
    | inl same ↦ subst (λ x. 0 < get_or new.steps.items x 0) (sym same) e.reached
    | inr apart ↦ e.climb.kept n (m.done n (omega (arith, h, apart)))
  ];
  len = m.len;
  marked = m.marked;
  each = λ n some cycle. elim (cases_lt (length old.nodes.items) (get_or new.steps.items n 0)) [
    | inl now ↦ absurd (none_new parents (length old.nodes.items) old.steps.items new.steps.items new.nodes.items n e.climb e.top now cycle)
    | inr before ↦ m.each n (e.climb.before n some before) cycle
  ];
}

one_found : (parents : List (Option ℕ)) (start : ℕ) (old new : Trail) (marks : List Bool) (q least : ℕ) → IsMarking parents start old marks → IsEnd parents start old new (Some q) → IsLeast new.nodes.items q least → IsMarking parents (start + 1) new (set marks least true)
one_found parents start old new marks q least m e l =
    let small : least < length marks = omega (arith, least_within parents new.steps.items new.nodes.items q least e.climb.trail l, m.len) in
    let here : get_or (set marks least true) least false ≡ true = get_or-set_same marks least true false small in
    record {
      resting = record { trail = e.climb.trail; closed = all_closed parents (length old.nodes.items) old.steps.items new.steps.items new.nodes.items (Some q) e.climb e.top };
      done = λ n h. elim (cases_eq n start) [
        | inl same ↦ subst (λ x. 0 < get_or new.steps.items x 0) (sym same) e.reached
        | inr apart ↦ e.climb.kept n (m.done n (omega (arith, h, apart)))
      ];
      len = length-set marks least true ∙ m.len;
      marked = λ n h. elim (cases_eq n least) [
        | inl same ↦ subst (λ x. IsLowest parents x) (sym same) (least_lowest parents (length old.nodes.items) old.steps.items new.steps.items new.nodes.items q least e.climb e.top l)
        | inr apart ↦ m.marked n (sym (get_or-set_other marks least n true false apart) ∙ h)
      ];
      each = λ n some cycle. elim (cases_lt (length old.nodes.items) (get_or new.steps.items n 0)) [
        | inl now ↦
            let up = new_marked parents (length old.nodes.items) old.steps.items new.steps.items new.nodes.items n q least e.climb e.top l now cycle in
            (least, up.0, here, up.1)
        | inr before ↦
            let there = m.each n (e.climb.before n some before) cycle in (
              there.0,
              there.1,
              elim (cases_eq there.0 least) [
                | inl same ↦ rw same here
                | inr apart ↦ get_or-set_other marks least there.0 true false apart ∙ there.2
              ],
              there.3,
            )
      ];
    }

pub index_mut-requires : goal.index_mut-requires
index_mut-requires c =
    let e : IsEnd c.args.parents.now c.loop-start.start c.loop-start.trail c.climb.new.self c.in_ok-first.field-0 = c.in_ok-first.ensures in
    let l : IsLeast c.climb.new.self.nodes.items c.in-Some.first c.least_from-lowest.result = subst (λ xs. IsLeast xs c.in-Some.first c.least_from-lowest.result) c.deref.ensures.value c.least_from-lowest.ensures in
    omega (arith, least_within c.args.parents.now c.climb.new.self.steps.items c.climb.new.self.nodes.items c.in-Some.first c.least_from-lowest.result e.climb.trail l, c.loop-start.invariant.len, c.loop-start.marks.ok.0)

pub loop-start-preserved : goal.loop-start-preserved
loop-start-preserved c =
    let e : IsEnd c.args.parents.now c.loop-start.start c.loop-start.trail c.climb.new.self c.in_ok-first.field-0 = c.in_ok-first.ensures in
    elim c.match-branch-4.branch [
      | in-Some w ↦
          let end = subst (λ x. IsEnd c.args.parents.now c.loop-start.start c.loop-start.trail c.climb.new.self x) w.in-Some.is e in
          let l : IsLeast c.climb.new.self.nodes.items w.in-Some.first w.least_from-lowest.result = subst (λ xs. IsLeast xs w.in-Some.first w.least_from-lowest.result) w.deref.ensures.value w.least_from-lowest.ensures in
          rw w.marks-is (one_found c.args.parents.now c.loop-start.start c.loop-start.trail c.climb.new.self c.loop-start.marks.items w.in-Some.first w.least_from-lowest.result c.loop-start.invariant end l)
      | in_default w ↦
          let end = subst (λ x. IsEnd c.args.parents.now c.loop-start.start c.loop-start.trail c.climb.new.self x) w.in_default.is e in
          rw w.marks-is (none_found c.args.parents.now c.loop-start.start c.loop-start.trail c.climb.new.self c.loop-start.marks.items c.loop-start.invariant end)
    ]

all_marked : (parents : List (Option ℕ)) (start : ℕ) (t : Trail) (marks : List Bool) → IsMarking parents start t marks → length parents ≤ start → AreLowest parents marks
all_marked parents start t marks m all = record {
  len = m.len;
  marked = m.marked;
  each = λ n cycle.
      let first = cycle.1.1 in
      let small : n < length parents = slice_get_within parents n (Some cycle.1.0) first in
      m.each n (m.done n (omega (arith, small, all))) cycle;
}

pub returns : goal.returns
returns c = all_marked c.args.parents.now c.loop-start.start c.loop-start.trail c.loop-start.marks.items c.loop-start.invariant (omega arith)
