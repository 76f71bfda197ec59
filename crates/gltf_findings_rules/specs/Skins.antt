-- Skins (glTF 2.0, section 5.28).
use Rattle.std.specs.Prelude.{ℕ, List, [], ◌∷◌, ◌++◌, Bool, false, nat_lt, length, map, Option, Some, None}
use Rattle.gltf_parts.specs.declared.buffer.View.{View}
use Rattle.gltf_parts.specs.declared.accessor.Accessor.{Accessor}
use Rattle.gltf_scene.specs.declared.skin.Skin.{Skin}
use Rattle.gltf_findings_codes.specs.declared.code.Code.TheVariants.{UnresolvedReference, SkinIbmInvalidFormat, InvalidIbmAccessorCount, SkinIbmAccessorWithBytestride}
use Rattle.gltf_findings_codes.specs.declared.name.Name.TheVariants.{Skins, Skeleton, Joints, InverseBindMatrices}
use Rattle.gltf_findings_codes.specs.declared.finding.Object.{Object}
use Rattle.gltf_findings_codes.specs.declared.finding.Object.TheVariants.{Item}
use Rattle.gltf_findings_codes.specs.declared.finding.Subject.TheVariants.{Member}
use Rattle.gltf_findings_codes.specs.declared.finding.Finding.{Finding}
use Rattle.gltf_findings_codes.specs.declared.formats.AllowedFormat.TheVariants.{Matrices}
use Rattle.gltf_findings_codes.specs.Found.{broken, found, findings_from}
use Rattle.gltf_findings_codes.specs.Rules.{is_some_unresolved, reference_findings}
use Rattle.gltf_base.specs.Indexes.{index_number}
use Rattle.gltf_findings_codes.specs.Repeats.{repeat_findings}
use Rattle.gltf_findings_codes.specs.Formats.{accessor_of, excludes_named, is_accessor_strided}

abbrev pub skin_at : ℕ → Object
skin_at n = Item Skins n

abbrev pub has_fewer : Option Accessor → ℕ → Bool
has_fewer None joints = false
has_fewer (Some a) joints = nat_lt a.count.0 joints

-- section 5.28.1: "the number of elements" is at least that of joints
abbrev pub has_few_matrices : List Accessor → Skin → Bool
has_few_matrices accessors s = has_fewer (accessor_of accessors s.inverse_bind_matrices) (length s.joints.items)

-- a skin among so many nodes
abbrev pub skin_rules : ℕ → List View → List Accessor → ℕ → Skin → List (Option Finding)
skin_rules nodes views accessors n s =
    broken (is_some_unresolved nodes s.skeleton) UnresolvedReference (Member (skin_at n) Skeleton)
    ∷ broken (is_some_unresolved (length accessors) s.inverse_bind_matrices) UnresolvedReference (Member (skin_at n) InverseBindMatrices)
    ∷ broken (excludes_named Matrices accessors s.inverse_bind_matrices) SkinIbmInvalidFormat (Member (skin_at n) InverseBindMatrices)
    ∷ broken (has_few_matrices accessors s) InvalidIbmAccessorCount (Member (skin_at n) InverseBindMatrices)
    -- section 5.11.4: only views of vertex attributes have a stride
    ∷ broken (is_accessor_strided views accessors s.inverse_bind_matrices) SkinIbmAccessorWithBytestride (Member (skin_at n) InverseBindMatrices)
    ∷ []

abbrev pub skin_findings : ℕ → List View → List Accessor → ℕ → Skin → List Finding
skin_findings nodes views accessors n s =
    found (skin_rules nodes views accessors n s)
    ++ findings_from (reference_findings (skin_at n) Joints nodes) 0 s.joints.items
    ++ repeat_findings (skin_at n) Joints [] 0 (map index_number s.joints.items)
