-- What holds while nodes are put in order.
use Rattle.std.specs.Prelude.{◌≡◌, ℕ, [], replicate, ◌<◌, ◌≤◌, ◌+◌, ◌-◌, List, length, Option, Some, None, ◌⊎◌, ◌==◌, if◌then◌else◌}
use Rattle.std.proofs.Common.{get_or}
use Rattle.gltf_hierarchy.specs.declared.sorter.Sorter.{Sorter}

abbrev pub parent_of : List (Option ℕ) → ℕ → Option ℕ
parent_of parents n = get_or parents n None

pub record AreSorted (parents : List (Option ℕ)) (places steps order chain : List ℕ) : Type 0 where
  pub places_len : length places ≡ length parents
  pub steps_len : length steps ≡ length parents
  pub placed : (n : ℕ) → 0 < get_or places n 0 → (get_or places n 0 ≤ length order) × (get_or order (get_or places n 0 - 1) 0 ≡ n)
  pub ordered : (i : ℕ) → i < length order → get_or places (get_or order i 0) 0 ≡ i + 1
  pub parents_placed : (n p : ℕ) → 0 < get_or places n 0 → parent_of parents n ≡ Some p → (0 < get_or places p 0) × (get_or places p 0 < get_or places n 0)
  pub found : (n : ℕ) → 0 < get_or steps n 0 → get_or places n 0 ≡ 0 → (get_or steps n 0 ≤ length chain) × (get_or chain (get_or steps n 0 - 1) 0 ≡ n)
  pub stepped : (j : ℕ) → j < length chain → (get_or steps (get_or chain j 0) 0 ≡ j + 1) × (get_or places (get_or chain j 0) 0 ≡ 0)
  pub linked : (j : ℕ) → j + 1 < length chain → parent_of parents (get_or chain j 0) ≡ Some (get_or chain (j + 1) 0)

-- the parent of the last node of the chain
abbrev pub IsAt : List (Option ℕ) → List ℕ → Option ℕ → Type 0
IsAt parents chain at = (j : ℕ) → j + 1 ≡ length chain → parent_of parents (get_or chain j 0) ≡ at

-- the parent of the last node of the chain has its place
abbrev pub IsTopped : List (Option ℕ) → List ℕ → List ℕ → Type 0
IsTopped parents places chain = (j p : ℕ) → j + 1 ≡ length chain → parent_of parents (get_or chain j 0) ≡ Some p → 0 < get_or places p 0

abbrev pub Holds : List (Option ℕ) → Sorter → Type 0
Holds parents s = AreSorted parents s.places.items s.steps.items s.order.items s.chain.items

pub record IsClimbed (parents : List (Option ℕ)) (s : Sorter) : Type 0 where
  pub holds : Holds parents s
  pub topped : IsTopped parents s.places.items s.chain.items

pub record IsRested (parents : List (Option ℕ)) (s : Sorter) : Type 0 where
  pub holds : Holds parents s
  pub empty : length s.chain.items ≡ 0

-- the node has its place, or is in the chain
abbrev pub IsReached : Sorter → ℕ → Type 0
IsReached s n = (0 < get_or s.places.items n 0) ⊎ (0 < get_or s.steps.items n 0)

-- nothing has its place
pub record IsNew (count : ℕ) (s : Sorter) : Type 0 where
  pub places : s.places.items ≡ replicate count 0
  pub steps : s.steps.items ≡ replicate count 0
  pub order : s.order.items ≡ []
  pub chain : s.chain.items ≡ []

-- 1 for a node that was never in a chain
abbrev pub unseen : ℕ → ℕ
unseen step = if step == 0 then 1 else 0
