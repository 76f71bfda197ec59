-- Attributes of which there can be several (glTF 2.0, section 3.7.2.1).
use Rattle.std.specs.Prelude.{ℕ, ◌==◌, List, [], ◌∷◌, Bool, false, not, ◌||◌, nat_le, length, Option, Some, None}
use Rattle.gltf_base.specs.Keys.{Key, colors, tex_coords, joints, weights}
use Rattle.gltf_findings_codes.specs.declared.code.Code.TheVariants.{MeshPrimitiveIndexedSemanticContinuity, MeshPrimitiveJointsWeightsMismatch, MeshPrimitivesUnequalJointsCount}
use Rattle.gltf_findings_codes.specs.declared.name.Name.TheVariants.{Attributes}
use Rattle.gltf_findings_codes.specs.declared.finding.Object.{Object}
use Rattle.gltf_findings_codes.specs.declared.finding.Subject.TheVariants.{Member}
use Rattle.gltf_findings_codes.specs.declared.finding.Finding.{Finding}
use Rattle.gltf_findings_codes.specs.Found.{broken}
use Rattle.gltf_findings_rules.specs.declared.sets.Kind.{Kind}
use Rattle.gltf_findings_rules.specs.declared.sets.Kind.TheVariants.{Colors, TexCoords, Joints, Weights}

abbrev pub set_of : Kind → Key → Option ℕ
set_of Colors (colors set) = Some set
set_of TexCoords (tex_coords set) = Some set
set_of Joints (joints set) = Some set
set_of Weights (weights set) = Some set
set_of _ _ = None

abbrev pub with : Option ℕ → List ℕ → List ℕ
with None sets = sets
with (Some set) sets = set ∷ sets

-- the numbers of the sets of a kind
abbrev pub sets_of : Kind → List (Key × ℕ) → List ℕ
sets_of kind [] = []
sets_of kind (e ∷ es) = with (set_of kind e.0) (sets_of kind es)

abbrev pub any_from : ℕ → List ℕ → Bool
any_from count [] = false
any_from count (set ∷ sets) = nat_le count set || any_from count sets

-- "indices MUST start with 0 and be consecutive": n numbers of which each is below n, since no two are equal
abbrev pub has_gap : List ℕ → Bool
has_gap sets = any_from (length sets) sets

-- a primitive of a mesh whose first primitive has so many sets of joints
abbrev pub set_rules : Object → ℕ → List (Key × ℕ) → List (Option Finding)
set_rules at first es =
    broken (has_gap (sets_of Colors es)) MeshPrimitiveIndexedSemanticContinuity (Member at Attributes)
    ∷ broken (has_gap (sets_of TexCoords es)) MeshPrimitiveIndexedSemanticContinuity (Member at Attributes)
    ∷ broken (has_gap (sets_of Joints es)) MeshPrimitiveIndexedSemanticContinuity (Member at Attributes)
    ∷ broken (has_gap (sets_of Weights es)) MeshPrimitiveIndexedSemanticContinuity (Member at Attributes)
    -- section 3.7.3.3: as many sets of joints as of weights
    ∷ broken (not (length (sets_of Joints es) == length (sets_of Weights es))) MeshPrimitiveJointsWeightsMismatch (Member at Attributes)
    ∷ broken (not (length (sets_of Joints es) == first)) MeshPrimitivesUnequalJointsCount (Member at Attributes)
    ∷ []
