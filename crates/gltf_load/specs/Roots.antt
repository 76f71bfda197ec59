-- Nodes that are root nodes (glTF 2.0, sections 3.5.1 and 3.5.2).
use Rattle.std.specs.Prelude.{◌≡◌, ℕ, ◌<◌, List, length, slice_get, Option, Some, None}
use Rattle.gltf_base.specs.declared.index.IndexTo.{IndexTo}
use Rattle.gltf_base.specs.Indexes.{index_number}
use Rattle.gltf_hierarchy.specs.Forest.{IsRoot}

-- section 3.5.1: a scene lists nodes that exist and are root nodes
abbrev pub NameRoots : {P : Type 0} → List (List ℕ) → List (IndexTo P) → Type 0
NameRoots {P} nodes indexes = (i : ℕ) (x : IndexTo P) → slice_get indexes i ≡ Some x → (index_number x < length nodes) × IsRoot nodes (index_number x)

-- the same by the parent of each node, for the indexes before a place
abbrev pub AreRootsBefore : {P : Type 0} → List (Option ℕ) → List (IndexTo P) → ℕ → Type 0
AreRootsBefore {P} parents indexes bound = (i : ℕ) (x : IndexTo P) → i < bound → slice_get indexes i ≡ Some x → slice_get parents (index_number x) ≡ Some None

abbrev pub AreRoots : {P : Type 0} → List (Option ℕ) → List (IndexTo P) → Type 0
AreRoots parents indexes = AreRootsBefore parents indexes (length indexes)
