-- What holds while faults are listed.
use Rattle.std.specs.Prelude.{◌≡◌, ℕ, ◌<◌, ◌≤◌, List, [], ◌++◌, length, map, take, slice_get, Option, Some, None, Bool, true, false, ◌⊎◌}
use Rattle.std.proofs.Common.{get_or}
use Rattle.std.proofs.Math.ListN.{set}
use Rattle.gltf_hierarchy.specs.declared.fault.HierarchyFault.{HierarchyFault}
use Rattle.gltf_hierarchy.specs.declared.fault.HierarchyFault.TheVariants.{TooManyNodes, NoSuchChild, TwoParents, Cycle, Memory}
use Rattle.gltf_hierarchy.specs.Forest.{IsForest}
use Rattle.gltf_hierarchy.specs.Parents.{AreParentsBelow}
use Rattle.gltf_hierarchy.specs.Adopted.{AreAdopted, IsRefused}
use Rattle.gltf_hierarchy.specs.Faults.{Place, places_from, first_parent, faults_behind}

-- a child gets its parent, or why it doesn't
abbrev pub IsSettled : List (Option ℕ) → List (Option ℕ) → ℕ → ℕ → Option HierarchyFault → Type 0
IsSettled old new parent child None = (slice_get old child ≡ Some None) × (new ≡ set old child (Some parent))
IsSettled old new parent child (Some (NoSuchChild p c)) = (new ≡ old) × (p ≡ parent) × (c ≡ child) × (length old ≤ child)
IsSettled old new parent child (Some (TwoParents c p q)) = (new ≡ old) × (c ≡ child) × (q ≡ parent) × (slice_get old child ≡ Some (Some p))
IsSettled old new parent child (Some TooManyNodes) = ⊥
IsSettled old new parent child (Some (Cycle n)) = ⊥
IsSettled old new parent child (Some (Memory e)) = ⊥

-- the first parents and the faults of some places
pub record IsListed (count : ℕ) (places : List Place) (parents : List (Option ℕ)) (faults : List HierarchyFault) : Type 0 where
  pub len : length parents ≡ count
  pub each : (n : ℕ) → n < count → slice_get parents n ≡ Some (first_parent places n)
  pub listed : faults ≡ faults_behind count [] places

-- there is no fault so far, or there is a reason for one
abbrev pub IsQuiet : List (Option ℕ) → List (Option ℕ) → ℕ → List ℕ → ℕ → List HierarchyFault → List HierarchyFault → Type 0
IsQuiet old new parent children bound before now =
    ((before ≡ []) × (now ≡ []) × AreAdopted old new parent children bound) ⊎ ((now ≡ [] → ⊥) × (before ≡ [] → (e : HierarchyFault) × IsRefused old parent children e))

-- the same of all nodes below a number
abbrev pub IsFaultless : List (List ℕ) → List (Option ℕ) → List HierarchyFault → ℕ → Type 0
IsFaultless nodes parents faults bound = ((faults ≡ []) × AreParentsBelow nodes parents bound) ⊎ ((faults ≡ [] → ⊥) × (IsForest nodes → ⊥))

abbrev pub places_below : List (List ℕ) → ℕ → List Place
places_below nodes bound = places_from 0 (take bound nodes)

-- the marked numbers below a bound
pub record AreMarked (marks : List Bool) (cycles : List ℕ) (bound : ℕ) : Type 0 where
  pub rising : (i j m n : ℕ) → i < j → slice_get cycles i ≡ Some m → slice_get cycles j ≡ Some n → m < n
  pub marked : (i n : ℕ) → slice_get cycles i ≡ Some n → (n < bound) × (get_or marks n false ≡ true)
  pub each : (n : ℕ) → n < bound → get_or marks n false ≡ true → (i : ℕ) × (slice_get cycles i ≡ Some n)

-- each number has joined the faults as a cycle
abbrev pub AreAdded : List HierarchyFault → List HierarchyFault → List Bool → ℕ → Type 0
AreAdded before now marks bound = (cycles : List ℕ) × (now ≡ before ++ map (λ n. Cycle n) cycles) × AreMarked marks cycles bound
