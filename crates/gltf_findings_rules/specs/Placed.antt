-- Nodes by the meshes, skins and parents that they have (glTF 2.0, sections 3.7.3.3 and 5.25).
use Rattle.std.specs.Prelude.{ℕ, ◌+◌, ◌%◌, ◌==◌, List, [], ◌∷◌, ◌++◌, Bool, true, false, not, ◌&&◌, ◌||◌, if◌then◌else◌, map, length, slice_get, is_some, is_none, Option, Some, None}
use Rattle.std.specs.Global.{Vec}
use Rattle.std.specs.Float.{Float, float_zero, float_one, binary64}
use lib.Ieee.{le, lt, eq, add, mul, of_bits}
use Rattle.gltf_base.specs.declared.real.Real.{Real}
use Rattle.gltf_base.specs.declared.index.IndexTo.{IndexTo}
use Rattle.gltf_base.specs.Indexes.{index_number}
use Rattle.gltf_schema.specs.Floats.{real_float}
use Rattle.gltf_scene.specs.declared.mesh.Mesh.{Mesh}
use Rattle.gltf_scene.specs.declared.scene.Node.{Node}
use Rattle.gltf_scene.specs.declared.scene.UnitQuaternion.{UnitQuaternion}
use Rattle.gltf_scene.specs.declared.skin.Skin.{Skin}
use Rattle.gltf_findings_codes.specs.declared.code.Code.TheVariants.{NodeWeightsInvalid, NodeSkinWithNonSkinnedMesh, NodeSkinnedMeshWithoutSkin, NodeSkinnedMeshNonRoot, NodeSkinnedMeshLocalTransforms, NodeEmpty, NodeMatrixDefault, NodeMatrixNonTrs, RotationNonUnit}
use Rattle.gltf_findings_codes.specs.declared.name.Name.TheVariants as name
use Rattle.gltf_findings_codes.specs.declared.finding.Object.TheVariants.{Item}
use Rattle.gltf_findings_codes.specs.declared.finding.Subject.TheVariants.{Object, Member}
use Rattle.gltf_findings_codes.specs.declared.finding.Finding.{Finding}
use Rattle.gltf_findings_codes.specs.Found.{broken, found}
use Rattle.gltf_findings_codes.specs.Marks.{mark_all, is_marked}
use Rattle.gltf_findings_rules.specs.Meshes.{is_skinned, targets_of_mesh}
use Rattle.gltf_findings_rules.specs.Nodes.{node_at, has_transforms}

abbrev pub mesh_of_index : {P : Type 0} → List Mesh → Option (IndexTo P) → Option Mesh
mesh_of_index meshes None = None
mesh_of_index meshes (Some i) = slice_get meshes (index_number i)

abbrev pub mesh_of : List Mesh → Node → Option Mesh
mesh_of meshes x = mesh_of_index meshes x.mesh

-- section 5.25: as many weights as morph targets
abbrev pub has_other_weights : Option (Vec Real) → Option Mesh → Bool
has_other_weights (Some w) (Some m) = not (length w.items == 0) && not (length w.items == targets_of_mesh m.primitives.items)
has_other_weights _ _ = false

abbrev pub is_unskinned : Option Mesh → Bool
is_unskinned None = false
is_unskinned (Some m) = not (is_skinned m.primitives.items)

abbrev pub is_skinned_mesh : Option Mesh → Bool
is_skinned_mesh None = false
is_skinned_mesh (Some m) = is_skinned m.primitives.items

abbrev pub skin_rules : List Mesh → Bool → ℕ → Node → List (Option Finding)
skin_rules meshes is_child n x =
    broken (has_other_weights x.weights (mesh_of meshes x)) NodeWeightsInvalid (Member (node_at n) name.Weights)
    -- "When the node contains skin, all mesh.primitives MUST contain JOINTS_0 and WEIGHTS_0 attributes"
    ∷ broken (is_some x.skin && is_unskinned (mesh_of meshes x)) NodeSkinWithNonSkinnedMesh (Member (node_at n) name.Skin)
    ∷ broken (not (is_some x.skin) && is_skinned_mesh (mesh_of meshes x)) NodeSkinnedMeshWithoutSkin (Object (node_at n))
    -- section 3.7.3.3: "Only the joint transforms are applied to the skinned mesh; the transform of the skinned mesh node MUST be ignored"
    ∷ broken ((is_some x.skin && is_some x.mesh) && is_child) NodeSkinnedMeshNonRoot (Object (node_at n))
    ∷ broken ((is_some x.skin && is_some x.mesh) && (is_some x.matrix || has_transforms x)) NodeSkinnedMeshLocalTransforms (Object (node_at n))
    ∷ []

abbrev pub is_empty : Node → Bool
is_empty x = ((((is_none x.children && is_none x.mesh) && is_none x.camera) && is_none x.skin) && is_none x.extensions) && is_none x.extras

-- the diagonal of a matrix in column-major order is at each fifth number
abbrev pub identity_number : ℕ → Float
identity_number k = if k % 5 == 0 then float_one else float_zero

abbrev pub is_identity_at : ℕ → Real → Bool
is_identity_at k x = eq (real_float x) (identity_number k)

-- the numbers of a matrix from a place on are those of the identity
abbrev pub is_identity : ℕ → List Real → Bool
is_identity k [] = true
is_identity k (x ∷ xs) = is_identity_at k x && is_identity (k + 1) xs

abbrev pub is_some_identity : Option (List Real) → Bool
is_some_identity None = false
is_some_identity (Some m) = is_identity 0 m

-- 127/128 and 129/128
abbrev pub least_square : Float
least_square = of_bits binary64 0x3fef_c000_0000_0000

abbrev pub greatest_square : Float
greatest_square = of_bits binary64 0x3ff0_2000_0000_0000

abbrev pub square_of : List Float → Float
square_of (x ∷ y ∷ z ∷ w ∷ _) = add binary64 (add binary64 (add binary64 (mul binary64 x x) (mul binary64 y y)) (mul binary64 z z)) (mul binary64 w w)
square_of _ = float_one

-- section 5.25.6: "the node's unit quaternion rotation", by a square that is far from 1
abbrev pub is_non_unit : Option UnitQuaternion → Bool
is_non_unit None = false
is_non_unit (Some q) = not (le least_square (square_of (map real_float q.0)) && le (square_of (map real_float q.0)) greatest_square)

abbrev pub some_float : Option Real → Float
some_float None = float_zero
some_float (Some x) = real_float x

abbrev pub float_at : List Real → ℕ → Float
float_at m k = some_float (slice_get m k)

-- the scalar product of the vectors at two places
abbrev pub dot : List Real → ℕ → ℕ → Float
dot m a b = add binary64 (add binary64 (mul binary64 (float_at m a) (float_at m b)) (mul binary64 (float_at m (a + 1)) (float_at m (b + 1)))) (mul binary64 (float_at m (a + 2)) (float_at m (b + 2)))

-- 4096: the square of 64
abbrev pub greatest_ratio : Float
greatest_ratio = of_bits binary64 0x40b0_0000_0000_0000

-- the cosine between them is above 1/64
abbrev pub are_oblique : List Real → ℕ → ℕ → Bool
are_oblique m a b = lt (mul binary64 (dot m a a) (dot m b b)) (mul binary64 (mul binary64 (dot m a b) (dot m a b)) greatest_ratio)

-- section 5.25.4: the matrix "MUST be decomposable to TRS properties", so its axes are at right angles
abbrev pub is_some_oblique : Option (List Real) → Bool
is_some_oblique None = false
is_some_oblique (Some m) = (are_oblique m 0 4 || are_oblique m 0 8) || are_oblique m 4 8

abbrev pub content_rules : Bool → ℕ → Node → List (Option Finding)
content_rules is_joint n x =
    broken (is_empty x && not is_joint) NodeEmpty (Object (node_at n))
    ∷ broken (is_some_identity x.matrix) NodeMatrixDefault (Member (node_at n) name.Matrix)
    ∷ broken (is_some_oblique x.matrix) NodeMatrixNonTrs (Member (node_at n) name.Matrix)
    ∷ broken (is_non_unit x.rotation) RotationNonUnit (Member (node_at n) name.Rotation)
    ∷ []

-- a node of a document with these meshes, by which nodes are children and which are joints
abbrev pub placed_findings : List Mesh → List Bool → List Bool → ℕ → Node → List Finding
placed_findings meshes children joints n x =
    found (skin_rules meshes (is_marked children n) n x) ++ found (content_rules (is_marked joints n) n x)

abbrev pub mark_children : {P : Type 0} → Option (Vec (IndexTo P)) → List Bool → List Bool
mark_children None marks = marks
mark_children (Some xs) marks = mark_all marks (map index_number xs.items)

-- the marks of the nodes that are children
abbrev pub child_marks : List Node → List Bool → List Bool
child_marks [] marks = marks
child_marks (x ∷ xs) marks = child_marks xs (mark_children x.children marks)

-- the marks of the nodes that are joints
abbrev pub joint_marks : List Skin → List Bool → List Bool
joint_marks [] marks = marks
joint_marks (s ∷ ss) marks = joint_marks ss (mark_all marks (map index_number s.joints.items))

-- whether each mesh is skinned
abbrev pub skinned_marks : List Mesh → List Bool
skinned_marks [] = []
skinned_marks (m ∷ ms) = is_skinned m.primitives.items ∷ skinned_marks ms
