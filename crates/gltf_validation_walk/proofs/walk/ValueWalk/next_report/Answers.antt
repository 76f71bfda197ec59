-- Each move leaves what is still to come, less what it reports.
use Rattle.std.proofs.Common.{◌≡◌, List, arith, rules, ap, sym, ◌∙◌, ◌++◌, ◌∷◌, [], ◌-◌, length, length-append, map, take, true, Option, None, Some}
use Rattle.std.proofs.Math.Seq.{take-append_seam}
use Rattle.std.proofs.lemmas.List.{length-take, map-append, nil_from_length}
use Rattle.gltf_base.specs.Steps.{Step, step_of}
use Rattle.gltf_base.specs.declared.validation.Error.{Error}
use Rattle.gltf_validation_rules.specs.Report.{report}
use Rattle.gltf_validation_rules.specs.Context.{Context}
use Rattle.gltf_validation_objects.specs.ValueRefs.{checklist_of}
use Rattle.gltf_validation_objects.specs.declared.value_ref.ValueRef.{ValueRef}
use Rattle.gltf_validation_objects.specs.declared.value_ref.ValueRef.TheVariants as value_ref
use Rattle.gltf_validation_walk.specs.Rest.{checklist_left, checklists_left}
use Rattle.gltf_validation_objects.specs.Checklist.{height, leaf, reports_of}
use Rattle.gltf_validation_objects.proofs.QuietChecklists.{looked_at}
use Rattle.gltf_validation_walk.specs.Stacks.{to_come_of}
use Rattle.gltf_validation_walk.specs.ToCome.{context_in}
use Rattle.gltf_validation_walk.proofs.Stacks.{weight, reported_by, weight_by, weight_move, weight_least}
use Rattle.gltf_validation_walk.proofs.Moves.{left_one, begun_left, down_height, popped_fits, pushed_fits, moved_fits, frames_weight, frames_length, over_goes, move_made, begun_behind, part_entered}
use Rattle.gltf_validation_walk.proofs.walk.ValueWalk.next_report.Goals as goal

-- the frames below the last one
front_left : {X : Type 0} (gs hs front : List X) (g : X) → gs ≡ front ++ g ∷ [] → hs ≡ take (length gs - 1) gs → hs ≡ front
front_left gs hs front g d r =
    let long : length (front ++ g ∷ []) - 1 ≡ length front = omega (arith, length-append front (g ∷ [])) in
    r ∙ (ap (λ fs. take (length fs - 1) fs) d ∙ (ap (λ n. take n (front ++ g ∷ [])) long ∙ take-append_seam front (g ∷ [])))

-- what a place with nothing below reports
leaf_reports : (context : Context) (q : ValueRef) (e found : Option Error) (path : List Step) → q ≡ value_ref.Leaf e → e ≡ found
    → reports_of (checklist_of context q) path ≡ reports_of (leaf found) path
leaf_reports context q e found path is there = ap (λ v. reports_of (checklist_of context v) path) (is ∙ ap value_ref.Leaf there)

-- ---- a value that is over

pub invariant_of-self : goal.invariant_of-self
invariant_of-self c =
    let context = context_in c.loop-self.self in
    let m = c.in-End.ensures in
    let e = m.3 ∙ ap (λ fs. fs ++ m.1 ∷ []) (sym (front_left _ _ m.0 m.2 m.4 c.pop.ensures.rest)) in
    let gone = ap length c.pop-in-End.ensures.rest ∙ length-take (length c.loop-self.self.steps.items - 1) c.loop-self.self.steps.items in
    let low = popped_fits context _ _ m.1 e in
    record { reach_is_bounded = omega (arith, low.0, c.loop-self.self.reach_is_bounded); frames_have_steps = omega (arith, c.loop-self.self.frames_have_steps, frames_length _ _ _ e, gone) }

pub loop-self-smaller-in-End : goal.loop-self-smaller-in-End
loop-self-smaller-in-End c =
    let context = context_in c.loop-self.self in
    let m = c.in-End.ensures in
    let e = m.3 ∙ ap (λ fs. fs ++ m.1 ∷ []) (sym (front_left _ _ m.0 m.2 m.4 c.pop.ensures.rest)) in
    omega (arith, frames_weight context _ _ m.1 e, weight_least (checklist_left context m.1))

pub loop-self-preserved-in-End : goal.loop-self-preserved-in-End
loop-self-preserved-in-End c =
    let context = context_in c.loop-self.self in
    let m = c.in-End.ensures in
    let e = m.3 ∙ ap (λ fs. fs ++ m.1 ∷ []) (sym (front_left _ _ m.0 m.2 m.4 c.pop.ensures.rest)) in
    let gone = ap length c.pop-in-End.ensures.rest ∙ length-take (length c.loop-self.self.steps.items - 1) c.loop-self.self.steps.items in
    record {
      same = c.loop-self.invariant.same ∙ over_goes context _ _ m.1 _ _ _ e c.loop-self.self.frames_have_steps m.5 c.pop-in-End.ensures.items (omega (arith, gone));
      base = omega (arith, c.loop-self.invariant.base, frames_length _ _ _ e, gone, c.loop-self.self.frames_have_steps);
      depth = omega (arith, c.loop-self.invariant.depth, (popped_fits context _ _ m.1 e).0);
    }

-- ---- what is wrong with the value itself

pub invariant_of-self-in-Fault-1 : goal.invariant_of-self-in-Fault-1
invariant_of-self-in-Fault-1 c =
    let context = context_in c.loop-self.self in
    let m = c.in-Fault.ensures in
    let next = m.6 tt ∙ left_one (checklist_left context m.1) in
    record {
      reach_is_bounded = omega (arith, moved_fits context _ _ _ m.1 m.2 m.3 m.4 next, c.loop-self.self.reach_is_bounded);
      frames_have_steps = omega (arith, c.loop-self.self.frames_have_steps, frames_length _ _ _ m.3, frames_length _ _ _ m.4);
    }

pub returns-in-Fault-clause-next : goal.returns-in-Fault-clause-next
returns-in-Fault-clause-next c =
    let context = context_in c.loop-self.self in
    let m = c.in-Fault.ensures in
    let next = m.6 tt ∙ left_one (checklist_left context m.1) in
    let steps = map step_of c.loop-self.self.steps.items in (
      c.loop-self.invariant.same ∙ (move_made context _ _ _ m.1 m.2 c.loop-self.self.steps.items m.3 m.4 next c.loop-self.self.frames_have_steps ∙ ap (λ move. reported_by move steps ++ to_come_of steps (checklists_left context c.next_of_last.new.frames.items)) (sym m.5)),
      omega (arith, c.loop-self.invariant.base, frames_length _ _ _ m.3, frames_length _ _ _ m.4),
    )

pub returns-in-Fault-clause-depth : goal.returns-in-Fault-clause-depth
returns-in-Fault-clause-depth c =
    let context = context_in c.loop-self.self in
    let m = c.in-Fault.ensures in
    let next = m.6 tt ∙ left_one (checklist_left context m.1) in
    omega (arith, c.loop-self.invariant.depth, moved_fits context _ _ _ m.1 m.2 m.3 m.4 next)

-- ---- a place with nothing below

pub invariant_of-self-in-Enter-default-Leaf-None : goal.invariant_of-self-in-Enter-default-Leaf-None
invariant_of-self-in-Enter-default-Leaf-None c =
    let context = context_in c.loop-self.self in
    let m = c.in-Enter-default-Leaf-None.ensures in
    let next = m.6 tt ∙ left_one (checklist_left context m.1) in
    record {
      reach_is_bounded = omega (arith, moved_fits context _ _ _ m.1 m.2 m.3 m.4 next, c.loop-self.self.reach_is_bounded);
      frames_have_steps = omega (arith, c.loop-self.self.frames_have_steps, frames_length _ _ _ m.3, frames_length _ _ _ m.4);
    }

pub loop-self-smaller-in-Enter-default-Leaf-None : goal.loop-self-smaller-in-Enter-default-Leaf-None
loop-self-smaller-in-Enter-default-Leaf-None c =
    let context = context_in c.loop-self.self in
    let m = c.in-Enter-default-Leaf-None.ensures in
    let next = m.6 tt ∙ left_one (checklist_left context m.1) in
    omega (
      arith,
      frames_weight context _ _ m.1 m.3,
      frames_weight context _ _ m.2 m.4,
      ap weight next,
      weight_move (checklist_left context m.1),
      ap weight_by m.5,
    )

pub loop-self-preserved-in-Enter-default-Leaf-None : goal.loop-self-preserved-in-Enter-default-Leaf-None
loop-self-preserved-in-Enter-default-Leaf-None c =
    let context = context_in c.loop-self.self in
    let m = c.in-Enter-default-Leaf-None.ensures in
    let next = m.6 tt ∙ left_one (checklist_left context m.1) in
    let steps = map step_of c.loop-self.self.steps.items in
    let silent = leaf_reports context _ _ None (steps ++ step_of c.in-Enter-default-Leaf-None.field-0 ∷ []) c.in-Enter-default-Leaf-None.field-1-is c.in-Enter-default-Leaf-None.field-1-0-is in
    let below = to_come_of steps (checklists_left context c.next_of_last.new.frames.items) in
    record {
      same = c.loop-self.invariant.same ∙ (move_made context _ _ _ m.1 m.2 c.loop-self.self.steps.items m.3 m.4 next c.loop-self.self.frames_have_steps ∙ (ap (λ move. reported_by move steps ++ below) (sym m.5) ∙ ap (λ rs. rs ++ below) silent));
      base = omega (arith, c.loop-self.invariant.base, frames_length _ _ _ m.3, frames_length _ _ _ m.4);
      depth = omega (arith, c.loop-self.invariant.depth, moved_fits context _ _ _ m.1 m.2 m.3 m.4 next);
    }

pub invariant_of-self-then-is_full : goal.invariant_of-self-then-is_full
invariant_of-self-then-is_full c =
    let context = context_in c.loop-self.self in
    let m = c.in-Enter-default-Leaf-Some.ensures in
    let next = m.6 tt ∙ left_one (checklist_left context m.1) in
    record {
      reach_is_bounded = omega (arith, moved_fits context _ _ _ m.1 m.2 m.3 m.4 next, c.loop-self.self.reach_is_bounded);
      frames_have_steps = omega (arith, c.loop-self.self.frames_have_steps, frames_length _ _ _ m.3, frames_length _ _ _ m.4);
    }

pub returns-then-is_full-clause-full : goal.returns-then-is_full-clause-full
returns-then-is_full-clause-full c =
    let context = context_in c.loop-self.self in
    let m = c.in-Enter-default-Leaf-Some.ensures in
    let deep = down_height (checklist_left context m.1) (checklist_of context c.in-Enter-default-Leaf-Some.field-1) (step_of c.in-Enter-default-Leaf-Some.step) m.5 in
    let full : length c.loop-self.self.steps.items ≡ 16 = search rules in
    omega (arith, c.loop-self.invariant.base, c.loop-self.invariant.depth, full, frames_length _ _ _ m.3, (popped_fits context _ _ m.1 m.3).1, deep)

pub returns-then-is_full-clause-depth : goal.returns-then-is_full-clause-depth
returns-then-is_full-clause-depth c =
    let context = context_in c.loop-self.self in
    let m = c.in-Enter-default-Leaf-Some.ensures in
    let next = m.6 tt ∙ left_one (checklist_left context m.1) in
    omega (arith, c.loop-self.invariant.depth, moved_fits context _ _ _ m.1 m.2 m.3 m.4 next)

pub push-requires : goal.push-requires
push-requires c =
    let context = context_in c.loop-self.self in
    let m = c.in-Enter-default-Leaf-Some.ensures in
    omega (arith, (popped_fits context _ _ m.1 m.3).1, frames_length _ _ _ m.3, frames_length _ _ _ m.4, c.loop-self.self.reach_is_bounded)

pub invariant_of-self-in-Enter-default-Leaf-Some : goal.invariant_of-self-in-Enter-default-Leaf-Some
invariant_of-self-in-Enter-default-Leaf-Some c =
    let context = context_in c.loop-self.self in
    let m = c.in-Enter-default-Leaf-Some.ensures in
    let next = m.6 tt ∙ left_one (checklist_left context m.1) in
    let pushed = begun_behind _ _ _ (value_ref.Leaf None) c.push.ensures.items c.at_start.ensures in
    let deep = down_height (checklist_left context m.1) (checklist_of context c.in-Enter-default-Leaf-Some.field-1) (step_of c.in-Enter-default-Leaf-Some.step) m.5 in
    let low = popped_fits context _ _ m.1 m.3 in
    let within = pushed_fits context _ _ _ _ pushed (moved_fits context _ _ _ m.1 m.2 m.3 m.4 next) (omega (arith, low.1, deep, frames_length _ _ _ m.4, ap height (begun_left context (value_ref.Leaf None)))) in
    record {
      reach_is_bounded = omega (arith, within, c.loop-self.self.reach_is_bounded);
      frames_have_steps = omega (arith, c.loop-self.self.frames_have_steps, frames_length _ _ _ m.3, frames_length _ _ _ m.4, frames_length _ _ _ pushed, c.push-in-Enter-default-Leaf-Some.ensures.len);
    }

pub returns-in-Enter-default-Leaf-Some-clause-next : goal.returns-in-Enter-default-Leaf-Some-clause-next
returns-in-Enter-default-Leaf-Some-clause-next c =
    let context = context_in c.loop-self.self in
    let m = c.in-Enter-default-Leaf-Some.ensures in
    let next = m.6 tt ∙ left_one (checklist_left context m.1) in
    let pushed = begun_behind _ _ _ (value_ref.Leaf None) c.push.ensures.items c.at_start.ensures in
    let error = c.in-Enter-default-Leaf-Some.error in
    let bs = c.loop-self.self.steps.items in
    let steps = map step_of bs in
    let path = map step_of c.push-in-Enter-default-Leaf-Some.new.self.items in
    let at : steps ++ step_of c.in-Enter-default-Leaf-Some.step ∷ [] ≡ path = sym (ap (map step_of) c.push-in-Enter-default-Leaf-Some.ensures.items ∙ map-append step_of bs _) in
    let found = leaf_reports context _ _ (Some error) (steps ++ step_of c.in-Enter-default-Leaf-Some.step ∷ []) c.in-Enter-default-Leaf-Some.field-1-is c.in-Enter-default-Leaf-Some.field-1-0-is in
    let below = to_come_of steps (checklists_left context c.next_of_last.new.frames.items) in
    let entered = part_entered context _ _ (value_ref.Leaf None) bs _ c.in-Enter-default-Leaf-Some.step pushed c.push-in-Enter-default-Leaf-Some.ensures.items
    (omega (arith, frames_length _ _ _ m.4)) (omega (arith, c.loop-self.self.frames_have_steps, frames_length _ _ _ m.3, frames_length _ _ _ m.4)) in (
      c.loop-self.invariant.same
          ∙ (move_made context _ _ _ m.1 m.2 bs m.3 m.4 next c.loop-self.self.frames_have_steps
          ∙ (ap (λ move. reported_by move steps ++ below) (sym m.5)
          ∙ (ap (λ rs. rs ++ below) found
          ∙ (ap (λ p. report p error ∷ below) at
          ∙ (ap (λ rs. report path error ∷ rs) (sym entered)
          ∙ ap (λ e. report path e ∷ to_come_of path (checklists_left context c.push.new.self.items)) (sym c.in-Enter-default-Leaf-Some.error-is)))))),
      omega (arith, c.loop-self.invariant.base, frames_length _ _ _ m.3, frames_length _ _ _ m.4, frames_length _ _ _ pushed, c.push-in-Enter-default-Leaf-Some.ensures.len),
    )

pub returns-in-Enter-default-Leaf-Some-clause-depth : goal.returns-in-Enter-default-Leaf-Some-clause-depth
returns-in-Enter-default-Leaf-Some-clause-depth c =
    let context = context_in c.loop-self.self in
    let m = c.in-Enter-default-Leaf-Some.ensures in
    let next = m.6 tt ∙ left_one (checklist_left context m.1) in
    let pushed = begun_behind _ _ _ (value_ref.Leaf None) c.push.ensures.items c.at_start.ensures in
    let deep = down_height (checklist_left context m.1) (checklist_of context c.in-Enter-default-Leaf-Some.field-1) (step_of c.in-Enter-default-Leaf-Some.step) m.5 in
    let low = popped_fits context _ _ m.1 m.3 in
    let within = pushed_fits context _ _ _ _ pushed (moved_fits context _ _ _ m.1 m.2 m.3 m.4 next) (omega (arith, low.1, deep, frames_length _ _ _ m.4, ap height (begun_left context (value_ref.Leaf None)))) in
    omega (arith, c.loop-self.invariant.depth, within)

-- ---- a value at which nothing is wrong

pub invariant_of-self-else-not-is_quiet : goal.invariant_of-self-else-not-is_quiet
invariant_of-self-else-not-is_quiet c =
    let context = context_in c.loop-self.self in
    let m = c.in-Enter.ensures in
    let next = m.6 tt ∙ left_one (checklist_left context m.1) in
    record {
      reach_is_bounded = omega (arith, moved_fits context _ _ _ m.1 m.2 m.3 m.4 next, c.loop-self.self.reach_is_bounded);
      frames_have_steps = omega (arith, c.loop-self.self.frames_have_steps, frames_length _ _ _ m.3, frames_length _ _ _ m.4);
    }

pub loop-self-smaller : goal.loop-self-smaller
loop-self-smaller c =
    let context = context_in c.loop-self.self in
    let m = c.in-Enter.ensures in
    let next = m.6 tt ∙ left_one (checklist_left context m.1) in
    omega (
      arith,
      frames_weight context _ _ m.1 m.3,
      frames_weight context _ _ m.2 m.4,
      ap weight next,
      weight_move (checklist_left context m.1),
      ap weight_by m.5,
    )

pub loop-self-preserved : goal.loop-self-preserved
loop-self-preserved c =
    let context = context_in c.loop-self.self in
    let m = c.in-Enter.ensures in
    let next = m.6 tt ∙ left_one (checklist_left context m.1) in
    let steps = map step_of c.loop-self.self.steps.items in
    let yes : c.is_quiet.result ≡ true = search rules in
    let silent = looked_at _ (checklist_of context c.in-Enter.value) (sym c.is_quiet.ensures ∙ yes) in
    let below = to_come_of steps (checklists_left context c.next_of_last.new.frames.items) in
    record {
      same = c.loop-self.invariant.same
          ∙ (move_made context _ _ _ m.1 m.2 c.loop-self.self.steps.items m.3 m.4 next c.loop-self.self.frames_have_steps
          ∙ (ap (λ move. reported_by move steps ++ below) (sym m.5) ∙ ap (λ rs. rs ++ below) (silent (steps ++ step_of c.in-Enter.step ∷ []))));
      base = omega (arith, c.loop-self.invariant.base, frames_length _ _ _ m.3, frames_length _ _ _ m.4);
      depth = omega (arith, c.loop-self.invariant.depth, moved_fits context _ _ _ m.1 m.2 m.3 m.4 next);
    }

-- ---- a value that is gone into

pub invariant_of-self-then-is_full-2 : goal.invariant_of-self-then-is_full-2
invariant_of-self-then-is_full-2 c =
    let context = context_in c.loop-self.self in
    let m = c.in-Enter.ensures in
    let next = m.6 tt ∙ left_one (checklist_left context m.1) in
    record {
      reach_is_bounded = omega (arith, moved_fits context _ _ _ m.1 m.2 m.3 m.4 next, c.loop-self.self.reach_is_bounded);
      frames_have_steps = omega (arith, c.loop-self.self.frames_have_steps, frames_length _ _ _ m.3, frames_length _ _ _ m.4);
    }

pub returns-then-is_full-2-clause-full : goal.returns-then-is_full-2-clause-full
returns-then-is_full-2-clause-full c =
    let context = context_in c.loop-self.self in
    let m = c.in-Enter.ensures in
    let deep = down_height (checklist_left context m.1) (checklist_of context c.in-Enter.value) (step_of c.in-Enter.step) m.5 in
    let full : length c.loop-self.self.steps.items ≡ 16 = search rules in
    omega (arith, c.loop-self.invariant.base, c.loop-self.invariant.depth, full, frames_length _ _ _ m.3, (popped_fits context _ _ m.1 m.3).1, deep)

pub returns-then-is_full-2-clause-depth : goal.returns-then-is_full-2-clause-depth
returns-then-is_full-2-clause-depth c =
    let context = context_in c.loop-self.self in
    let m = c.in-Enter.ensures in
    let next = m.6 tt ∙ left_one (checklist_left context m.1) in
    omega (arith, c.loop-self.invariant.depth, moved_fits context _ _ _ m.1 m.2 m.3 m.4 next)

pub push-requires-then-not-is_quiet : goal.push-requires-then-not-is_quiet
push-requires-then-not-is_quiet c =
    let context = context_in c.loop-self.self in
    let m = c.in-Enter.ensures in
    omega (arith, (popped_fits context _ _ m.1 m.3).1, frames_length _ _ _ m.3, frames_length _ _ _ m.4, c.loop-self.self.reach_is_bounded)

pub invariant_of-self-then-not-is_quiet : goal.invariant_of-self-then-not-is_quiet
invariant_of-self-then-not-is_quiet c =
    let context = context_in c.loop-self.self in
    let m = c.in-Enter.ensures in
    let next = m.6 tt ∙ left_one (checklist_left context m.1) in
    let pushed = begun_behind _ _ _ c.in-Enter.value c.push-then-not-is_quiet.ensures.items c.at_start-then-not-is_quiet.ensures in
    let deep = down_height (checklist_left context m.1) (checklist_of context c.in-Enter.value) (step_of c.in-Enter.step) m.5 in
    let low = popped_fits context _ _ m.1 m.3 in
    let within = pushed_fits context _ _ _ _ pushed (moved_fits context _ _ _ m.1 m.2 m.3 m.4 next) (omega (arith, low.1, deep, frames_length _ _ _ m.4, ap height (begun_left context c.in-Enter.value))) in
    record {
      reach_is_bounded = omega (arith, within, c.loop-self.self.reach_is_bounded);
      frames_have_steps = omega (arith, c.loop-self.self.frames_have_steps, frames_length _ _ _ m.3, frames_length _ _ _ m.4, frames_length _ _ _ pushed, c.push-then-not-is_quiet-2.ensures.len);
    }

pub loop-self-smaller-then-not-is_quiet : goal.loop-self-smaller-then-not-is_quiet
loop-self-smaller-then-not-is_quiet c =
    let context = context_in c.loop-self.self in
    let m = c.in-Enter.ensures in
    let next = m.6 tt ∙ left_one (checklist_left context m.1) in
    let pushed = begun_behind _ _ _ c.in-Enter.value c.push-then-not-is_quiet.ensures.items c.at_start-then-not-is_quiet.ensures in
    omega (
      arith,
      frames_weight context _ _ m.1 m.3,
      frames_weight context _ _ m.2 m.4,
      frames_weight context _ _ _ pushed,
      ap weight next,
      ap weight (begun_left context c.in-Enter.value),
      weight_move (checklist_left context m.1),
      ap weight_by m.5,
    )

pub loop-self-preserved-then-not-is_quiet : goal.loop-self-preserved-then-not-is_quiet
loop-self-preserved-then-not-is_quiet c =
    let context = context_in c.loop-self.self in
    let m = c.in-Enter.ensures in
    let next = m.6 tt ∙ left_one (checklist_left context m.1) in
    let pushed = begun_behind _ _ _ c.in-Enter.value c.push-then-not-is_quiet.ensures.items c.at_start-then-not-is_quiet.ensures in
    let deep = down_height (checklist_left context m.1) (checklist_of context c.in-Enter.value) (step_of c.in-Enter.step) m.5 in
    let low = popped_fits context _ _ m.1 m.3 in
    let within = pushed_fits context _ _ _ _ pushed (moved_fits context _ _ _ m.1 m.2 m.3 m.4 next) (omega (arith, low.1, deep, frames_length _ _ _ m.4, ap height (begun_left context c.in-Enter.value))) in
    let steps = map step_of c.loop-self.self.steps.items in
    record {
      same = c.loop-self.invariant.same
          ∙ (move_made context _ _ _ m.1 m.2 c.loop-self.self.steps.items m.3 m.4 next c.loop-self.self.frames_have_steps
          ∙ (ap (λ move. reported_by move steps ++ to_come_of steps (checklists_left context c.next_of_last.new.frames.items)) (sym m.5)
          ∙ sym (part_entered context _ _ c.in-Enter.value c.loop-self.self.steps.items _ c.in-Enter.step pushed c.push-then-not-is_quiet-2.ensures.items
          (omega (arith, frames_length _ _ _ m.4)) (omega (arith, c.loop-self.self.frames_have_steps, frames_length _ _ _ m.3, frames_length _ _ _ m.4)))));
      base = omega (arith, c.loop-self.invariant.base, frames_length _ _ _ m.3, frames_length _ _ _ m.4, frames_length _ _ _ pushed, c.push-then-not-is_quiet-2.ensures.len);
      depth = omega (arith, c.loop-self.invariant.depth, within);
    }

-- ---- nothing more

pub returns-clause-next : goal.returns-clause-next
returns-clause-next c =
    let context = context_in c.loop-self.self in
    let none : c.loop-self.self.frames.items ≡ [] = nil_from_length _ (search rules) in
    let steps = map step_of c.loop-self.self.steps.items in
    let over = ap (λ fs. to_come_of steps (checklists_left context fs)) none in
    (c.loop-self.invariant.same ∙ over, over, omega (arith, c.loop-self.invariant.base, ap length none))
