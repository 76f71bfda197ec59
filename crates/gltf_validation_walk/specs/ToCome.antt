-- The reports that a walk will still give.
use Rattle.std.specs.Prelude.{◌≡◌, ℕ, ◌-◌, ◌≤◌, List, [], ◌∷◌, length, Option, Some, None}
use Rattle.gltf_base.specs.Steps.{Step, steps_of}
use Rattle.gltf_base.specs.declared.validation.Error.{Error}
use Rattle.gltf_root.specs.Root.{root_tree}
use Rattle.gltf_validation_rules.specs.Report.{Report, report}
use Rattle.gltf_validation_rules.specs.Context.{Context, rules_of, under}
use Rattle.gltf_validation_walk.specs.Rest.{checklists_left}
use Rattle.gltf_validation_walk.specs.Stacks.{reach, to_come_of}
use Rattle.gltf_validation_walk.specs.declared.walk.ValueWalk.{ValueWalk}
use Rattle.gltf_validation_walk.specs.declared.walk.Walk.{Walk}

-- ---- what contracts say of a walk

-- its rules and its document
abbrev pub context_in : ValueWalk → Context
context_in d = under (rules_of d.rules) (root_tree d.root.now)

-- the number of steps of its base
abbrev pub base_count : ValueWalk → ℕ
base_count d = length d.steps.items - (length d.frames.items - 1)

-- the number of steps from the base to the deepest place that is still to come
abbrev pub depth_in : ValueWalk → ℕ
depth_in d = reach 0 (checklists_left (context_in d) d.frames.items)

abbrev pub path_in : ValueWalk → List Step
path_in d = steps_of d.steps

abbrev pub to_come_in : ValueWalk → List Report
to_come_in d = to_come_of (steps_of d.steps) (checklists_left (context_in d) d.frames.items)

-- the result of `next_report`: the first of the reports to come, with its path, or `None` if there were none, with a path no
-- longer than the base
abbrev pub IsNextOf : ValueWalk → Option Error → ValueWalk → Type 0
IsNextOf old None new = (to_come_in old ≡ []) × (to_come_in new ≡ []) × (length new.steps.items ≤ base_count old)
IsNextOf old (Some error) new = (to_come_in old ≡ report (path_in new) error ∷ to_come_in new) × (base_count new ≤ base_count old)

-- ---- what contracts say of a walk

-- the reports that are still to come
abbrev pub to_come : Walk → List Report
to_come w = to_come_in w.inner

-- the path of the last report
abbrev pub path_of : Walk → List Step
path_of w = path_in w.inner

-- the result of `next_report`: the first of the reports to come, with its path, or `None` if there were none, with an empty
-- path
abbrev pub IsNext : List Report → Option Error → List Step → List Report → Type 0
IsNext before None path after = (before ≡ []) × (after ≡ []) × (path ≡ [])
IsNext before (Some error) path after = before ≡ report path error ∷ after
