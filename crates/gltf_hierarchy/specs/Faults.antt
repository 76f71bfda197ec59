-- Everything that keeps nodes from being disjoint strict trees (section 3.5.2).
use Rattle.std.specs.Prelude.{◌≡◌, ℕ, ◌+◌, ◌<◌, List, [], ◌∷◌, ◌++◌, length, map, slice_get, Option, Some, None, nat_lt, ◌==◌, if◌then◌else◌}
use Rattle.gltf_hierarchy.specs.declared.fault.HierarchyFault.{HierarchyFault}
use Rattle.gltf_hierarchy.specs.declared.fault.HierarchyFault.TheVariants.{TooManyNodes, NoSuchChild, TwoParents, Cycle, Memory}
use Rattle.gltf_hierarchy.specs.Cycles.{IsLowest}

-- a node at a place in the `children` of another
pub record Place : Type 0 where
  pub parent : ℕ
  pub child : ℕ

abbrev pub places_in : ℕ → List ℕ → List Place
places_in parent children = map (λ c. record { parent = parent; child = c }) children

-- the places of all nodes in order, from a number on
abbrev pub places_from : ℕ → List (List ℕ) → List Place
places_from n [] = []
places_from n (children ∷ rest) = places_in n children ++ places_from (n + 1) rest

-- the parent at the first place of a node
abbrev pub first_parent : List Place → ℕ → Option ℕ
first_parent [] n = None
first_parent (p ∷ rest) n = if p.child == n then Some p.parent else first_parent rest n

-- what is wrong with the child at a place, behind other places: it doesn't exist, or it has a parent
abbrev pub second_place : Place → Option ℕ → List HierarchyFault
second_place p None = []
second_place p (Some first) = TwoParents p.child first p.parent ∷ []

abbrev pub place_fault : ℕ → List Place → Place → List HierarchyFault
place_fault count before p = if nat_lt p.child count then second_place p (first_parent before p.child) else NoSuchChild p.parent p.child ∷ []

abbrev pub faults_behind : ℕ → List Place → List Place → List HierarchyFault
faults_behind count before [] = []
faults_behind count before (p ∷ rest) = place_fault count before p ++ faults_behind count (before ++ p ∷ []) rest

-- in the order of places
abbrev pub place_faults : List (List ℕ) → List HierarchyFault
place_faults nodes = faults_behind (length nodes) [] (places_from 0 nodes)

-- the first fault of a list
abbrev pub IsHead : HierarchyFault → List HierarchyFault → Type 0
IsHead fault faults = (rest : List HierarchyFault) × (faults ≡ fault ∷ rest)

-- the fault that is found first: that of the first place at fault, and a cycle only if no place is
abbrev pub IsFirstFault : List (List ℕ) → HierarchyFault → Type 0
IsFirstFault nodes TooManyNodes = Unit {0}
IsFirstFault nodes (NoSuchChild p c) = IsHead (NoSuchChild p c) (place_faults nodes)
IsFirstFault nodes (TwoParents c p q) = IsHead (TwoParents c p q) (place_faults nodes)
IsFirstFault nodes (Cycle n) = place_faults nodes ≡ []
IsFirstFault nodes (Memory e) = Unit {0}

pub record AreFirstParents (nodes : List (List ℕ)) (parents : List (Option ℕ)) : Type 0 where
  pub len : length parents ≡ length nodes
  pub each : (n : ℕ) → n < length nodes → slice_get parents n ≡ Some (first_parent (places_from 0 nodes) n)

-- the faults of places, and then each cycle among first parents by its lowest node, in the order of nodes
pub record AreFaults (nodes : List (List ℕ)) (faults : List HierarchyFault) : Type 0 where
  pub parents : List (Option ℕ)
  pub first_parents : AreFirstParents nodes parents
  pub cycles : List ℕ
  pub all : faults ≡ place_faults nodes ++ map (λ n. Cycle n) cycles
  pub rising : (i j m n : ℕ) → i < j → slice_get cycles i ≡ Some m → slice_get cycles j ≡ Some n → m < n
  pub lowest : (i n : ℕ) → slice_get cycles i ≡ Some n → IsLowest parents n
  pub each : (n : ℕ) → IsLowest parents n → (i : ℕ) × (slice_get cycles i ≡ Some n)
