-- Materials of a primitive for variants (`KHR_materials_variants`).
use Rattle.std.specs.Prelude.{ℕ, List, [], ◌∷◌, ◌++◌, nat_le, Option, Some, None}
use Rattle.gltf_scene.specs.declared.extensions.mesh.Primitive.{Primitive as Extension}
use Rattle.gltf_scene.specs.declared.extensions.mesh.KhrMaterialsVariants.{KhrMaterialsVariants as OfVariants}
use Rattle.gltf_scene.specs.declared.extensions.mesh.Mapping.{Mapping as Choice}
use Rattle.gltf_findings_codes.specs.declared.code.Code.TheVariants.{UnresolvedReference}
use Rattle.gltf_findings_codes.specs.declared.name.Name.TheVariants.{Material, Variants}
use Rattle.gltf_findings_codes.specs.declared.finding.Object.TheVariants.{Mapping}
use Rattle.gltf_findings_codes.specs.declared.finding.Subject.TheVariants.{Member, Entry}
use Rattle.gltf_findings_codes.specs.declared.finding.Finding.{Finding}
use Rattle.gltf_findings_codes.specs.Found.{broken, found, findings_from}

-- a number of a variant, of so many
abbrev pub variant_findings : ℕ → ℕ → ℕ → ℕ → ℕ → ℕ → List Finding
variant_findings variants n k j i variant = found (broken (nat_le variants variant) UnresolvedReference (Entry (Mapping n k j) Variants i) ∷ [])

-- a mapping to one of so many materials
abbrev pub mapping_findings : ℕ → ℕ → ℕ → ℕ → ℕ → Choice → List Finding
mapping_findings materials variants n k j x =
    found (broken (nat_le materials x.material) UnresolvedReference (Member (Mapping n k j) Material) ∷ [])
    ++ findings_from (variant_findings variants n k j) 0 x.variants.items

abbrev pub mappings_findings : ℕ → ℕ → ℕ → ℕ → Option OfVariants → List Finding
mappings_findings materials variants n k None = []
mappings_findings materials variants n k (Some x) = findings_from (mapping_findings materials variants n k) 0 x.mappings.items

-- the mappings of a primitive
abbrev pub variants_findings : ℕ → ℕ → ℕ → ℕ → Option Extension → List Finding
variants_findings materials variants n k None = []
variants_findings materials variants n k (Some e) = mappings_findings materials variants n k e.khr_materials_variants
