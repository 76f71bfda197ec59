-- The checklists of the objects of a material, from what was found in them.
use Rattle.std.specs.Prelude.{[], Bool, cond, codes, Option, Some, None}
use Rattle.gltf_base.specs.Lists.{textures}
use Rattle.gltf_base.specs.Steps.{field}
use Rattle.gltf_base.specs.declared.validation.Error.{Error}
use Rattle.gltf_base.specs.declared.validation.Error.TheVariants.{IndexOutOfBounds, Invalid}
use Rattle.gltf_parts.specs.MaterialExtension.{material_extensions_kind}
use Rattle.gltf_schema.specs.Kind.{IndexInto}
use Rattle.gltf_schema.specs.Tree.{Tree, absent}
use Rattle.gltf_validation_rules.specs.Context.{Context}
use Rattle.gltf_validation_objects.specs.Checklist.{Checklist, place, nothing, below, leaf}
use Rattle.gltf_validation_objects.specs.ChecklistOf.{checklist}
use Rattle.gltf_validation_objects.specs.declared.references.ReferenceState.{ReferenceState}
use Rattle.gltf_validation_objects.specs.declared.references.ReferenceState.TheVariants as reference_state
use Rattle.gltf_validation_objects.specs.declared.material.MaterialFaults.{MaterialFaults}
use Rattle.gltf_validation_objects.specs.MemberNames.{member_text}
use Rattle.gltf_validation_objects.specs.declared.member_name.MemberName.{MemberName}

-- a reference to a texture, by what was found there
abbrev pub reference_checklist : ReferenceState → Checklist
reference_checklist reference_state.Absent = leaf None
reference_checklist reference_state.Resolved = place (below (field (codes "index")) (leaf None) nothing) []
reference_checklist reference_state.OutOfBounds = place (below (field (codes "index")) (leaf (Some IndexOutOfBounds)) nothing) []

-- a reference to a texture, by its index
abbrev pub index_checklist : Context → Tree → Checklist
index_checklist context t = place (below (field (codes "index")) (checklist (IndexInto textures) t context absent) nothing) []

-- objects in which one reference or two can be wrong
abbrev pub one_texture : ReferenceState → MemberName → Checklist
one_texture s n = place (below (field (member_text n)) (reference_checklist s) nothing) []

abbrev pub two_textures : ReferenceState → ReferenceState → MemberName → MemberName → Checklist
two_textures s r n m = place (below (field (member_text n)) (reference_checklist s) (below (field (member_text m)) (reference_checklist r) nothing)) []

-- the extensions of a material, or none
abbrev pub extensions_checklist : Context → Tree → Checklist
extensions_checklist context t = checklist material_extensions_kind t context absent

-- the fault of a choice
abbrev pub invalid_if : Bool → Option Error
invalid_if is_invalid = cond is_invalid (Some Invalid) None

-- the parameters of the metallic-roughness model, by what was found at the references
abbrev pub parameters_checklist : ReferenceState → ReferenceState → Checklist
parameters_checklist s r =
    place (below (field (codes "baseColorTexture")) (reference_checklist s) (below (field (codes "metallicRoughnessTexture")) (reference_checklist r) nothing)) []

-- a material, by what was found in its own members and by the tree of its extensions
abbrev pub material_checklist : Context → MaterialFaults → Tree → Checklist
material_checklist context m extensions = place (
    below (field (codes "alphaMode")) (leaf (invalid_if m.is_alpha_mode_invalid))
    (below (field (codes "pbrMetallicRoughness")) (parameters_checklist m.base_color m.metallic_roughness)
    (below (field (codes "normalTexture")) (reference_checklist m.normal)
    (below (field (codes "occlusionTexture")) (reference_checklist m.occlusion)
    (below (field (codes "emissiveTexture")) (reference_checklist m.emissive)
    (below (field (codes "extensions")) (extensions_checklist context extensions) nothing)))))) []
