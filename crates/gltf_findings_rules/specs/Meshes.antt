-- Meshes and their primitives (glTF 2.0, sections 3.7.2, 5.23 and 5.24).
use Rattle.std.specs.Prelude.{ℕ, List, [], ◌∷◌, ◌++◌, Bool, true, false, not, ◌&&◌, ◌==◌, length, slice_get, Option, Some, None}
use Rattle.std.specs.Global.{Vec}
use Rattle.gltf_base.specs.declared.real.Real.{Real}
use Rattle.gltf_parts.specs.declared.buffer.View.{View}
use Rattle.gltf_parts.specs.declared.accessor.Accessor.{Accessor}
use Rattle.gltf_scene.specs.declared.mesh.Mesh.{Mesh}
use Rattle.gltf_scene.specs.declared.mesh.Primitive.{Primitive}
use Rattle.gltf_scene.specs.declared.mesh.MorphTarget.{MorphTarget}
use Rattle.gltf_findings_codes.specs.declared.code.Code.TheVariants.{UnresolvedReference, ValueNotInList, EmptyEntity, MeshInvalidWeightsCount, MeshPrimitivesUnequalTargetsCount, MeshPrimitiveIndicesAccessorInvalidFormat, MeshPrimitiveIndicesAccessorWithBytestride}
use Rattle.gltf_findings_codes.specs.declared.name.Name.TheVariants as name
use Rattle.gltf_findings_codes.specs.declared.finding.Object.{Object}
use Rattle.gltf_findings_codes.specs.declared.finding.Object.TheVariants.{Item, Nested}
use Rattle.gltf_findings_codes.specs.declared.finding.Subject.TheVariants.{Member}
use Rattle.gltf_findings_codes.specs.declared.finding.Finding.{Finding}
use Rattle.gltf_findings_codes.specs.declared.formats.AllowedFormat.TheVariants.{Indices}
use Rattle.std.specs.Map.{lookup}
use Rattle.gltf_base.specs.Keys.{Key, key_eq, positions, normals, tangents, joints}
use Rattle.gltf_parts.specs.declared.material.Material.{Material}
use Rattle.gltf_findings_codes.specs.Attributes.{attributes_in}
use Rattle.gltf_findings_codes.specs.Found.{broken, found, findings_from, findings_if}
use Rattle.gltf_findings_codes.specs.Rules.{is_invalid, is_some_unresolved, is_empty_list}
use Rattle.gltf_findings_rules.specs.Attributes.{attribute_findings}
use Rattle.gltf_findings_rules.specs.Counts.{count_at}
use Rattle.gltf_findings_rules.specs.Drawing.{has_attribute, drawing_rules}
use Rattle.gltf_findings_rules.specs.Sets.{sets_of, set_rules}
use Rattle.gltf_findings_rules.specs.declared.sets.Kind.TheVariants.{Joints}
use Rattle.gltf_findings_rules.specs.Targets.{target_findings}
use Rattle.gltf_findings_rules.specs.Variants.{variants_findings}
use Rattle.gltf_findings_codes.specs.Formats.{excludes_named, is_accessor_strided}

abbrev pub primitive_at : ℕ → ℕ → Object
primitive_at n k = Nested name.Meshes n name.Primitives k

abbrev pub count_of : Option (Vec MorphTarget) → ℕ
count_of None = 0
count_of (Some targets) = length targets.items

abbrev pub target_count : Primitive → ℕ
target_count p = count_of p.targets

abbrev pub target_count_of : Option Primitive → ℕ
target_count_of None = 0
target_count_of (Some p) = target_count p

-- the morph targets of a mesh: those of its first primitive
abbrev pub targets_of_mesh : List Primitive → ℕ
targets_of_mesh primitives = target_count_of (slice_get primitives 0)

abbrev pub is_other_count : Option (Vec Real) → ℕ → Bool
is_other_count None targets = false
is_other_count (Some weights) targets = not (length weights.items == 0) && not (length weights.items == targets)

-- section 5.23.2: as many weights as morph targets
abbrev pub has_other_weights : Mesh → Bool
has_other_weights m = is_other_count m.weights (targets_of_mesh m.primitives.items)

abbrev pub mesh_rules : ℕ → Mesh → List (Option Finding)
mesh_rules n m =
    broken (is_empty_list m.weights) EmptyEntity (Member (Item name.Meshes n) name.Weights)
    ∷ broken (has_other_weights m) MeshInvalidWeightsCount (Member (Item name.Meshes n) name.Weights)
    ∷ []

-- a primitive of a mesh with so many morph targets
abbrev pub primitive_rules : ℕ → List View → List Accessor → ℕ → ℕ → ℕ → Primitive → List (Option Finding)
primitive_rules targets views accessors materials n k p =
    broken (is_invalid p.mode) ValueNotInList (Member (primitive_at n k) name.Mode)
    ∷ broken (is_some_unresolved materials p.material) UnresolvedReference (Member (primitive_at n k) name.Material)
    ∷ broken (is_some_unresolved (length accessors) p.indices) UnresolvedReference (Member (primitive_at n k) name.Indices)
    -- section 5.24.2
    ∷ broken (excludes_named Indices accessors p.indices) MeshPrimitiveIndicesAccessorInvalidFormat (Member (primitive_at n k) name.Indices)
    -- section 5.11.4: only views of vertex attributes have a stride
    ∷ broken (is_accessor_strided views accessors p.indices) MeshPrimitiveIndicesAccessorWithBytestride (Member (primitive_at n k) name.Indices)
    ∷ broken (is_empty_list p.targets) EmptyEntity (Member (primitive_at n k) name.Targets)
    -- section 3.7.2.2: all primitives of a mesh have the same number of morph targets
    ∷ broken (not (target_count p == targets)) MeshPrimitivesUnequalTargetsCount (Member (primitive_at n k) name.Targets)
    ∷ []

abbrev pub joint_count : Option Primitive → ℕ
joint_count None = 0
joint_count (Some p) = length (sets_of Joints (attributes_in p.attributes))

-- the sets of joints of a mesh: those of its first primitive
abbrev pub joints_of_mesh : List Primitive → ℕ
joints_of_mesh primitives = joint_count (slice_get primitives 0)

-- section 5.25: with a skin, "all mesh.primitives MUST contain JOINTS_0"
abbrev pub is_skinned : List Primitive → Bool
is_skinned [] = true
is_skinned (p ∷ ps) = has_attribute (joints 0) (attributes_in p.attributes) && is_skinned ps

-- the attributes of a primitive
abbrev pub named_findings : Bool → List View → List Accessor → ℕ → ℕ → List (Key × ℕ) → List Finding
named_findings is_quantized views accessors n k es = attribute_findings is_quantized (count_at accessors (lookup (key_eq positions) es)) views accessors n k es

-- its morph targets
abbrev pub targets_findings : Bool → List Accessor → ℕ → ℕ → List (Key × ℕ) → Option (Vec MorphTarget) → List Finding
targets_findings is_quantized accessors n k es targets = findings_if (λ xs. findings_from (target_findings is_quantized accessors n k (lookup (key_eq positions) es) (lookup (key_eq normals) es) (lookup (key_eq tangents) es)) 0 xs.items) targets

abbrev pub primitive_findings : Bool → ℕ → ℕ → ℕ → List View → List Accessor → List Material → ℕ → ℕ → Primitive → List Finding
primitive_findings is_quantized variants targets first views accessors materials n k p =
    found (primitive_rules targets views accessors (length materials) n k p)
    ++ found (set_rules (primitive_at n k) first (attributes_in p.attributes))
    ++ found (drawing_rules accessors materials n k p)
    ++ named_findings is_quantized views accessors n k (attributes_in p.attributes)
    ++ targets_findings is_quantized accessors n k (attributes_in p.attributes) p.targets
    ++ variants_findings (length materials) variants n k p.extensions

abbrev pub mesh_findings : Bool → ℕ → List View → List Accessor → List Material → ℕ → Mesh → List Finding
mesh_findings is_quantized variants views accessors materials n m =
    found (mesh_rules n m)
    ++ findings_from (primitive_findings is_quantized variants (targets_of_mesh m.primitives.items) (joints_of_mesh m.primitives.items) views accessors materials n) 0 m.primitives.items
