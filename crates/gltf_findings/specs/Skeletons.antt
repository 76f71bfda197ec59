-- Joints and skeletons of skins by the hierarchy of nodes (glTF 2.0, sections 3.7.3.2 and 5.28).
use Rattle.std.specs.Prelude.{◌≡◌, ◌↔◌, ℕ, ◌<◌, ◌^◌, List, [], ◌∷◌, length, slice_get, Bool, true, Option, Some, None}
use Rattle.gltf_base.specs.declared.index.IndexTo.{IndexTo}
use Rattle.gltf_base.specs.Indexes.{index_number}
use Rattle.gltf_hierarchy.specs.Forest.{IsForest}
use Rattle.gltf_hierarchy.specs.Joints.{IsOverAll, AreAllNodes}
use Rattle.gltf_load.specs.Named.{joints_named}
use Rattle.gltf_scene.specs.declared.skin.Skin.{Skin}
use Rattle.gltf_findings_codes.specs.declared.code.Code.TheVariants.{SkinNoCommonRoot, SkinSkeletonInvalid}
use Rattle.gltf_findings_codes.specs.declared.name.Name.TheVariants.{Joints, Skeleton}
use Rattle.gltf_findings_codes.specs.declared.finding.Subject.TheVariants.{Member}
use Rattle.gltf_findings_codes.specs.declared.finding.Finding.{Finding}
use Rattle.gltf_findings_codes.specs.Found.{broken, found, findings_from}
use Rattle.gltf_findings_codes.specs.Marks.{is_marked}
use Rattle.gltf_findings_rules.specs.Skins.{skin_at}

-- section 3.7.3.2: joints have a common root, which is each of them or above it
abbrev pub HaveCommonRoot : List (List ℕ) → List ℕ → Type 0
HaveCommonRoot nodes joints = (root : ℕ) × IsOverAll nodes joints root

-- section 5.28.2: a skeleton, if it is there, is a common root of the joints
abbrev pub IsSkeleton : {P : Type 0} → List (List ℕ) → List ℕ → Option (IndexTo P) → Type 0
IsSkeleton nodes joints None = Unit {0}
IsSkeleton nodes joints (Some index) = IsOverAll nodes joints (index_number index)

-- a skeleton names one of so many nodes, if it is there
abbrev pub IsSkeletonNode : {P : Type 0} → ℕ → Option (IndexTo P) → Type 0
IsSkeletonNode count None = Unit {0}
IsSkeletonNode count (Some index) = index_number index < count

-- the nodes are disjoint strict trees, and a skin names some of them
abbrev pub IsAmongTrees : List (List ℕ) → Skin → Type 0
IsAmongTrees nodes s = IsForest nodes × AreAllNodes (length nodes) (joints_named s) × IsSkeletonNode (length nodes) s.skeleton

-- the marks of the skins that break the rule for joints, and of those that break the rule for skeletons, if an index can name each node
pub record AreSkeletonMarks (nodes : List (List ℕ)) (skins : List Skin) (apart astray : List Bool) : Type 0 where
  pub rooted : (n : ℕ) (s : Skin) → length nodes < 2 ^ 32 → slice_get skins n ≡ Some s → (is_marked apart n ≡ true ↔ IsAmongTrees nodes s × (HaveCommonRoot nodes (joints_named s) → ⊥))
  pub headed : (n : ℕ) (s : Skin) → length nodes < 2 ^ 32 → slice_get skins n ≡ Some s → (is_marked astray n ≡ true ↔ IsAmongTrees nodes s × (IsSkeleton nodes (joints_named s) s.skeleton → ⊥))

-- a skin by these marks
abbrev pub skeleton_findings : List Bool → List Bool → ℕ → Skin → List Finding
skeleton_findings apart astray n s =
    found (broken (is_marked apart n) SkinNoCommonRoot (Member (skin_at n) Joints)
    ∷ broken (is_marked astray n) SkinSkeletonInvalid (Member (skin_at n) Skeleton)
    ∷ [])
