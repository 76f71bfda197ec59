-- Morph targets (glTF 2.0, section 3.7.2.2).
use Rattle.std.specs.Prelude.{ℕ, List, [], ◌∷◌, ◌++◌, Bool, ◌&&◌, length, is_some, is_none, option_map, Option, Some, None}
use Rattle.gltf_base.specs.declared.index.IndexTo.{IndexTo}
use Rattle.gltf_base.specs.Indexes.{index_number}
use Rattle.gltf_parts.specs.declared.accessor.Accessor.{Accessor}
use Rattle.gltf_scene.specs.declared.mesh.MorphTarget.{MorphTarget}
use Rattle.gltf_findings_codes.specs.declared.attribute.Attribute.{Attribute}
use Rattle.gltf_findings_codes.specs.declared.attribute.Attribute.TheVariants.{Positions, Normals, Tangents}
use Rattle.gltf_findings_codes.specs.declared.code.Code.TheVariants.{UnresolvedReference, MeshPrimitiveAttributesAccessorInvalidFormat, MeshPrimitiveMorphTargetNoBaseAccessor, MeshPrimitiveMorphTargetInvalidAttributeCount}
use Rattle.gltf_findings_codes.specs.declared.name.Name.TheVariants.{Meshes, Primitives, Targets}
use Rattle.gltf_findings_codes.specs.declared.finding.Object.TheVariants.{Nested}
use Rattle.gltf_findings_codes.specs.declared.finding.Subject.{Subject}
use Rattle.gltf_findings_codes.specs.declared.finding.Subject.TheVariants.{EntryAttribute}
use Rattle.gltf_findings_codes.specs.declared.finding.Finding.{Finding}
use Rattle.gltf_findings_codes.specs.Found.{broken, found}
use Rattle.gltf_findings_codes.specs.Formats.{excludes_named}
use Rattle.gltf_findings_codes.specs.Rules.{is_some_unresolved}
use Rattle.gltf_findings_rules.specs.Attributes.{vector_format}
use Rattle.gltf_findings_rules.specs.Counts.{count_at, differ}

abbrev pub target_at : ℕ → ℕ → ℕ → Attribute → Subject
target_at n k j a = EntryAttribute (Nested Meshes n Primitives k) Targets j a

-- what a target adds to an attribute, which is at an accessor by itself
abbrev pub target_rules : {P : Type 0} → Bool → List Accessor → ℕ → ℕ → ℕ → Attribute → Option ℕ → Option (IndexTo P) → List (Option Finding)
target_rules is_quantized accessors n k j a base index =
    broken (is_some_unresolved (length accessors) index) UnresolvedReference (target_at n k j a)
    ∷ broken (excludes_named (vector_format is_quantized) accessors index) MeshPrimitiveAttributesAccessorInvalidFormat (target_at n k j a)
    -- "for each morph target attribute, an original attribute MUST be present in the mesh primitive"
    ∷ broken (is_some index && is_none base) MeshPrimitiveMorphTargetNoBaseAccessor (target_at n k j a)
    -- "all morph target accessors MUST have the same count as the accessors of the original primitive"
    ∷ broken (differ (count_at accessors base) (count_at accessors (option_map index_number index))) MeshPrimitiveMorphTargetInvalidAttributeCount (target_at n k j a)
    ∷ []

-- a target of a primitive with these accessors of positions, normals and tangents
abbrev pub target_findings : Bool → List Accessor → ℕ → ℕ → Option ℕ → Option ℕ → Option ℕ → ℕ → MorphTarget → List Finding
target_findings is_quantized accessors n k p m t j x =
    found (target_rules is_quantized accessors n k j Positions p x.positions)
    ++ found (target_rules is_quantized accessors n k j Normals m x.normals)
    ++ found (target_rules is_quantized accessors n k j Tangents t x.tangents)
