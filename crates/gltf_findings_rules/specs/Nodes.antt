-- Nodes and scenes (glTF 2.0, sections 5.25 and 5.27).
use Rattle.std.specs.Prelude.{ℕ, List, [], ◌∷◌, ◌++◌, Bool, true, false, not, ◌&&◌, ◌||◌, ◌==◌, map, is_some, Option, Some, None}
use Rattle.std.specs.Global.{Vec}
use Rattle.gltf_base.specs.declared.index.IndexTo.{IndexTo}
use Rattle.gltf_scene.specs.declared.extensions.scene.Node.{Node as Extension}
use Rattle.gltf_scene.specs.declared.extensions.scene.khr_lights_punctual.KhrLightsPunctual.{KhrLightsPunctual as OfLight}
use Rattle.gltf_scene.specs.declared.scene.Node.{Node}
use Rattle.gltf_scene.specs.declared.scene.Scene.{Scene}
use Rattle.gltf_scene.specs.declared.scene.UnitQuaternion.{UnitQuaternion}
use Rattle.gltf_findings_codes.specs.declared.code.Code.TheVariants.{UnresolvedReference, UnsatisfiedDependency, EmptyEntity, NodeMatrixTrs, SceneNonRootNode}
use Rattle.gltf_findings_codes.specs.declared.name.Name.TheVariants.{Nodes, Scenes, Camera, Mesh, Skin, Extensions, KhrLightsPunctual, Light, Weights, Children, Matrix, Rotation}
use Rattle.gltf_findings_codes.specs.declared.finding.Object.{Object}
use Rattle.gltf_findings_codes.specs.declared.finding.Object.TheVariants.{Item, Inner}
use Rattle.gltf_findings_codes.specs.declared.finding.Subject.TheVariants.{Member, Entry}
use Rattle.gltf_findings_codes.specs.declared.finding.Finding.{Finding}
use Rattle.gltf_findings_codes.specs.declared.range.Range.TheVariants.{Cosine}
use Rattle.gltf_findings_rules.specs.declared.nodes.NodeRules.{NodeRules as Counts}
use Rattle.gltf_findings_codes.specs.Found.{broken, found, findings_from, findings_if}
use Rattle.gltf_base.specs.Indexes.{index_number}
use Rattle.gltf_findings_codes.specs.Marks.{is_marked}
use Rattle.gltf_findings_codes.specs.Repeats.{repeat_findings}
use Rattle.gltf_findings_codes.specs.Ranges.{number_findings}
use Rattle.gltf_findings_codes.specs.Rules.{is_unresolved, is_some_unresolved, is_empty_list, reference_findings}

abbrev pub node_at : ℕ → Object
node_at n = Item Nodes n

abbrev pub has_transforms : Node → Bool
has_transforms x = (is_some x.translation || is_some x.rotation) || is_some x.scale

abbrev pub is_unresolved_of : ℕ → Option OfLight → Bool
is_unresolved_of lights None = false
is_unresolved_of lights (Some x) = is_unresolved lights x.light

abbrev pub is_light_unresolved : ℕ → Option Extension → Bool
is_light_unresolved lights None = false
is_light_unresolved lights (Some e) = is_unresolved_of lights e.khr_lights_punctual

-- a node among so many items
abbrev pub node_rules : Counts → ℕ → Node → List (Option Finding)
node_rules counts n x =
    broken (is_some_unresolved counts.cameras x.camera) UnresolvedReference (Member (node_at n) Camera)
    ∷ broken (is_some_unresolved counts.meshes x.mesh) UnresolvedReference (Member (node_at n) Mesh)
    ∷ broken (is_some_unresolved counts.skins x.skin) UnresolvedReference (Member (node_at n) Skin)
    ∷ broken (is_light_unresolved counts.lights x.extensions) UnresolvedReference (Member (Inner Nodes n Extensions KhrLightsPunctual) Light)
    -- sections 5.25.3 and 5.25.10: a skin and weights are those of a mesh
    ∷ broken (is_some x.skin && not (is_some x.mesh)) UnsatisfiedDependency (Member (node_at n) Skin)
    ∷ broken (is_some x.weights && not (is_some x.mesh)) UnsatisfiedDependency (Member (node_at n) Weights)
    ∷ broken (is_empty_list x.children) EmptyEntity (Member (node_at n) Children)
    ∷ broken (is_empty_list x.weights) EmptyEntity (Member (node_at n) Weights)
    -- section 3.5.3
    ∷ broken (is_some x.matrix && has_transforms x) NodeMatrixTrs (Member (node_at n) Matrix)
    ∷ []

abbrev pub child_findings : {P : Type 0} → ℕ → ℕ → Option (Vec (IndexTo P)) → List Finding
child_findings nodes n children = findings_if (λ xs. findings_from (reference_findings (node_at n) Children nodes) 0 xs.items) children

-- section 5.25.2: "each element in the array MUST be unique"
abbrev pub child_repeat_findings : {P : Type 0} → ℕ → Option (Vec (IndexTo P)) → List Finding
child_repeat_findings n children = findings_if (λ xs. repeat_findings (node_at n) Children [] 0 (map index_number xs.items)) children

-- section 5.25.6: each number of a rotation is from -1 to 1
abbrev pub rotation_findings : ℕ → Option UnitQuaternion → List Finding
rotation_findings n rotation = findings_if (λ q. findings_from (number_findings (node_at n) Rotation Cosine) 0 q.0) rotation

abbrev pub node_findings : Counts → ℕ → Node → List Finding
node_findings counts n x = found (node_rules counts n x) ++ child_findings counts.nodes n x.children ++ child_repeat_findings n x.children ++ rotation_findings n x.rotation

-- section 3.5.1: the nodes of a scene are root nodes
abbrev pub root_findings : {P : Type 0} → List Bool → ℕ → ℕ → IndexTo P → List Finding
root_findings children n k node = found (broken (is_marked children (index_number node)) SceneNonRootNode (Entry (Item Scenes n) Nodes k) ∷ [])

abbrev pub scene_findings : ℕ → List Bool → ℕ → Scene → List Finding
scene_findings nodes children n s =
    findings_from (reference_findings (Item Scenes n) Nodes nodes) 0 s.nodes.items
    ++ findings_from (root_findings children n) 0 s.nodes.items
    ++ repeat_findings (Item Scenes n) Nodes [] 0 (map index_number s.nodes.items)
