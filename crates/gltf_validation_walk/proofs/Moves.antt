-- What a move does to the frames of a walk.
use Rattle.std.proofs.Common.{◌≡◌, ℕ, suc, ◌+◌, ◌-◌, ◌≤◌, List, [], ◌∷◌, ◌++◌, length, map, Option, None, Bor, refl, sym, ◌∙◌, ap, arith, length-append}
use Rattle.std.proofs.lemmas.List.{map-append, length-map}
use Rattle.std.specs.Option.{option_to_list}
use Rattle.gltf_base.specs.Steps.{Step, step_of}
use Rattle.gltf_base.specs.declared.path.Step.{Step as Borrowed}
use Rattle.gltf_validation_rules.specs.Context.{Context}
use Rattle.gltf_validation_objects.specs.ValueRefs.{checklist_of, IsNumbered}
use Rattle.gltf_validation_walk.specs.Rest.{first_frame, value_left, checklist_left, checklists_left}
use Rattle.gltf_validation_objects.specs.Checklist.{Checklist, place, nothing, below, reports_of, down, over, move_at, rest_after, first_move, height}
use Rattle.gltf_validation_walk.specs.Stacks.{reach, to_come_of}
use Rattle.gltf_validation_walk.specs.declared.frame.Frame.{Frame}
use Rattle.gltf_validation_objects.specs.declared.value_ref.ValueRef.{ValueRef}
use Rattle.gltf_validation_objects.specs.declared.value_ref.ValueRef.TheVariants as value_ref
use Rattle.gltf_base.specs.declared.mesh.Semantic.{Semantic}
use Rattle.gltf_base.specs.declared.validation.Checked.{Checked}
use Rattle.gltf_validation_walk.proofs.Stacks.{weight, weight_of, rest, left_further, reported_by, height_by, height_move, reach_last, weight_last, moved, entered, left_behind}

-- ---- one checklist

left_none : (p : Checklist) → rest_after p 0 ≡ p
left_none (place ps es) = refl

pub left_one : (p : Checklist) → rest_after p 1 ≡ rest p
left_one p = left_further p 0 ∙ ap rest (left_none p)

left_more : (p : Checklist) (n : ℕ) → rest_after p (n + 1) ≡ rest_after (rest_after p n) 1
left_more p n =
    let h : n + 1 ≡ suc n = omega arith in
    ap (rest_after p) h ∙ (left_further p n ∙ sym (left_one (rest_after p n)))

-- ---- one value

-- a value that is gone through by numbers
numbered_left : (context : Context) (q : ValueRef) (n : ℕ) (behind : Option (Bor (Checked Semantic))) → IsNumbered q → value_left context q n behind ≡ rest_after (checklist_of context q) n
numbered_left context (value_ref.Attributes m) n behind h = absurd h
numbered_left context q n behind h = refl

pub numbered_first : (context : Context) (q : ValueRef) (n : ℕ) (behind : Option (Bor (Checked Semantic))) → IsNumbered q → move_at (checklist_of context q) n ≡ first_move (value_left context q n behind)
numbered_first context q n behind h = ap first_move (sym (numbered_left context q n behind h))

pub numbered_more : (context : Context) (q : ValueRef) (n : ℕ) (behind : Option (Bor (Checked Semantic))) → IsNumbered q
    → value_left context q (n + 1) behind ≡ rest_after (value_left context q n behind) 1
numbered_more context q n behind h =
    numbered_left context q (n + 1) behind h ∙ (left_more (checklist_of context q) n ∙ ap (λ p. rest_after p 1) (sym (numbered_left context q n behind h)))

-- a value of which nothing was gone through
pub begun_left : (context : Context) (q : ValueRef) → value_left context q 0 None ≡ checklist_of context q
begun_left context (value_ref.Attributes m) = refl
begun_left context q = left_none (checklist_of context q)

pub rest_height : (p : Checklist) → height (rest p) ≤ height p
rest_height p = omega (arith, height_move p)

pub down_height : (p q : Checklist) (s : Step) → down s q ≡ first_move p → 1 + height q ≤ height p
down_height p q s e = omega (arith, height_move p, ap height_by e)

over_reports_nothing : (p : Checklist) (base : List Step) → over ≡ first_move p → reports_of p base ≡ []
over_reports_nothing (place (below s p ps) es) base e = absurd cc
over_reports_nothing (place nothing (error ∷ es)) base e = absurd cc
over_reports_nothing (place nothing []) base e = refl

-- ---- frames

checklists_last : (context : Context) (fs gs : List Frame) (f : Frame) → fs ≡ gs ++ f ∷ [] → checklists_left context fs ≡ checklists_left context gs ++ checklist_left context f ∷ []
checklists_last context fs gs f e = ap (checklists_left context) e ∙ map-append (checklist_left context) gs (f ∷ [])

pub popped_fits : (context : Context) (fs gs : List Frame) (f : Frame) → fs ≡ gs ++ f ∷ []
    → (reach 0 (checklists_left context gs) ≤ reach 0 (checklists_left context fs)) × (length gs + height (checklist_left context f) ≤ reach 0 (checklists_left context fs))
popped_fits context fs gs f e =
    let whole = ap (reach 0) (checklists_last context fs gs f e) in
    let here = reach_last 0 (checklists_left context gs) (checklist_left context f) in
    (omega (arith, whole, here), omega (arith, whole, here, length-map gs (checklist_left context)))

pub pushed_fits : (context : Context) (fs gs : List Frame) (f : Frame) (n : ℕ) → fs ≡ gs ++ f ∷ [] → reach 0 (checklists_left context gs) ≤ n → length gs + height (checklist_left context f) ≤ n
    → reach 0 (checklists_left context fs) ≤ n
pushed_fits context fs gs f n e h l =
    let whole = ap (reach 0) (checklists_last context fs gs f e) in
    let here = reach_last 0 (checklists_left context gs) (checklist_left context f) in
    omega (arith, h, l, whole, here, length-map gs (checklist_left context))

-- a value stays where it was, with less of it left
pub moved_fits : (context : Context) (fs gs hs : List Frame) (f g : Frame) → fs ≡ gs ++ f ∷ [] → hs ≡ gs ++ g ∷ [] → checklist_left context g ≡ rest (checklist_left context f)
    → reach 0 (checklists_left context hs) ≤ reach 0 (checklists_left context fs)
moved_fits context fs gs hs f g e d n =
    let low = popped_fits context fs gs f e in
    pushed_fits context hs gs g (reach 0 (checklists_left context fs)) d low.0 (omega (arith, low.1, ap height n, rest_height (checklist_left context f)))

pub frames_weight : (context : Context) (fs gs : List Frame) (f : Frame) → fs ≡ gs ++ f ∷ [] → weight_of (checklists_left context fs) ≡ weight_of (checklists_left context gs) + weight (checklist_left context f)
frames_weight context fs gs f e = ap weight_of (checklists_last context fs gs f e) ∙ weight_last (checklists_left context gs) (checklist_left context f)

pub frames_length : (fs gs : List Frame) (f : Frame) → fs ≡ gs ++ f ∷ [] → length fs ≡ length gs + 1
frames_length fs gs f e = ap length e ∙ length-append gs (f ∷ [])

-- ---- what is still to come

-- a value that is over goes, and its step with it
pub over_goes : (context : Context) (fs gs : List Frame) (f : Frame) (bs cs : List Borrowed) (o : Option Borrowed) → fs ≡ gs ++ f ∷ [] → length fs ≤ suc (length bs)
    → over ≡ first_move (checklist_left context f) → bs ≡ cs ++ option_to_list o → length cs ≡ length bs - 1
    → to_come_of (map step_of bs) (checklists_left context fs) ≡ to_come_of (map step_of cs) (checklists_left context gs)
over_goes context fs gs f bs cs o e l v d m =
    let steps = map step_of bs in
    let shorter : length (map step_of cs) ≡ length steps - 1 = omega (arith, m, length-map bs step_of, length-map cs step_of) in
    let beside : length (checklists_left context gs) ≤ length steps = omega (arith, l, frames_length fs gs f e, length-map gs (checklist_left context), length-map bs step_of) in
    ap (to_come_of steps) (checklists_last context fs gs f e)
    ∙ left_behind steps (map step_of cs) (map step_of (option_to_list o)) (checklists_left context gs) (checklist_left context f) beside (over_reports_nothing (checklist_left context f) steps v)
    (ap (map step_of) d ∙ map-append step_of cs (option_to_list o)) shorter

-- what a move reports comes before what is left
pub move_made : (context : Context) (fs gs hs : List Frame) (f g : Frame) (bs : List Borrowed) → fs ≡ gs ++ f ∷ [] → hs ≡ gs ++ g ∷ [] → checklist_left context g ≡ rest (checklist_left context f)
    → length fs ≤ suc (length bs)
    → to_come_of (map step_of bs) (checklists_left context fs) ≡ reported_by (first_move (checklist_left context f)) (map step_of bs) ++ to_come_of (map step_of bs) (checklists_left context hs)
move_made context fs gs hs f g bs e d n l =
    let steps = map step_of bs in
    let beside : length (checklists_left context gs) ≤ length steps = omega (arith, l, frames_length fs gs f e, length-map gs (checklist_left context), length-map bs step_of) in
    let after : checklists_left context gs ++ rest (checklist_left context f) ∷ [] ≡ checklists_left context hs = ap (λ p. checklists_left context gs ++ p ∷ []) (sym n) ∙ sym (checklists_last context hs gs g d) in
    ap (to_come_of steps) (checklists_last context fs gs f e)
    ∙ (moved steps (checklists_left context gs) (checklist_left context f) beside ∙ ap (λ ps. reported_by (first_move (checklist_left context f)) steps ++ to_come_of steps ps) after)

-- the frame that is pushed is at the start of the value
pub begun_behind : (hs is : List Frame) (f : Frame) (q : ValueRef) → is ≡ hs ++ f ∷ [] → f ≡ first_frame q → is ≡ hs ++ first_frame q ∷ []
begun_behind hs is f q e d = e ∙ ap (λ g. hs ++ g ∷ []) d

-- the value at the step is gone into
pub part_entered : (context : Context) (hs is : List Frame) (q : ValueRef) (bs cs : List Borrowed) (s : Borrowed) → is ≡ hs ++ first_frame q ∷ []
    → cs ≡ bs ++ s ∷ [] → 1 ≤ length hs → length hs ≤ suc (length bs)
    → to_come_of (map step_of cs) (checklists_left context is) ≡ reports_of (checklist_of context q) (map step_of bs ++ step_of s ∷ []) ++ to_come_of (map step_of bs) (checklists_left context hs)
part_entered context hs is q bs cs s e d some l =
    let steps = map step_of bs in
    let here : map step_of cs ≡ steps ++ step_of s ∷ [] = ap (map step_of) d ∙ map-append step_of bs (s ∷ []) in
    let checklists : checklists_left context is ≡ checklists_left context hs ++ checklist_of context q ∷ [] = checklists_last context is hs _ e ∙ ap (λ p. checklists_left context hs ++ p ∷ []) (begun_left context q) in
    ap (λ us. to_come_of us (checklists_left context is)) here
    ∙ (ap (to_come_of (steps ++ step_of s ∷ [])) checklists
    ∙ entered steps (step_of s) (checklists_left context hs) (checklist_of context q) (omega (arith, some, length-map hs (checklist_left context))) (omega (arith, l, length-map hs (checklist_left context), length-map bs step_of)))
