-- Nodes that are no disjoint strict trees (glTF 2.0, section 3.5.2).
use Rattle.std.specs.Prelude.{◌≡◌, ◌↔◌, [], ℕ, ◌<◌, ◌^◌, List, ◌==◌, not, length, map, Option, Some, None}
use Rattle.gltf_hierarchy.specs.declared.fault.HierarchyFault.{HierarchyFault}
use Rattle.gltf_hierarchy.specs.declared.fault.HierarchyFault.TheVariants.{TooManyNodes, NoSuchChild, TwoParents, Cycle, Memory}
use Rattle.gltf_hierarchy.specs.Faults.{AreFaults}
use Rattle.gltf_hierarchy.specs.Forest.{IsForest}
use Rattle.gltf_load.specs.Named.{children_named}
use Rattle.gltf_scene.specs.declared.scene.Node.{Node}
use Rattle.gltf_findings_codes.specs.declared.code.Code.TheVariants.{NodeParentOverride, NodeLoop}
use Rattle.gltf_findings_codes.specs.declared.name.Name.TheVariants.{Nodes, Children}
use Rattle.gltf_findings_codes.specs.declared.finding.Object.TheVariants.{Item}
use Rattle.gltf_findings_codes.specs.declared.finding.Subject.TheVariants.{Object, Member}
use Rattle.gltf_findings_codes.specs.declared.finding.Finding.{Finding}
use Rattle.gltf_findings_codes.specs.Found.{broken}

-- A child of two nodes is found at the second one, and a cycle at its lowest node. A child that doesn't exist is an index that names nothing, and one that a node lists twice is a duplicate.
abbrev pub fault_finding : HierarchyFault → Option Finding
fault_finding (TwoParents child first second) = broken (not (first == second)) NodeParentOverride (Member (Item Nodes second) Children)
fault_finding (Cycle n) = Some (record { code = NodeLoop; place = Object (Item Nodes n) })
fault_finding (NoSuchChild parent child) = None
fault_finding TooManyNodes = None
fault_finding (Memory e) = None

-- everything that keeps the nodes of a document from being disjoint strict trees, if an index can name each
abbrev pub AreFaultsOf : List Node → List HierarchyFault → Type 0
AreFaultsOf nodes faults = length (children_named nodes) < 2 ^ 32 → AreFaults (children_named nodes) faults

-- no fault is listed exactly if the nodes are disjoint strict trees
abbrev pub AreNoneOfForest : List Node → List HierarchyFault → Type 0
AreNoneOfForest nodes faults = length (children_named nodes) < 2 ^ 32 → (faults ≡ [] ↔ IsForest (children_named nodes))

-- the findings of these faults, in their order
pub record AreHierarchyRules (nodes : List Node) (rules : List (Option Finding)) : Type 0 where
  pub faults : List HierarchyFault
  pub all : AreFaultsOf nodes faults
  pub none : AreNoneOfForest nodes faults
  pub each : rules ≡ map fault_finding faults
