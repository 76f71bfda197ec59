-- Accessors and buffer views that are used in two ways.
use Rattle.std.specs.Prelude.{ℕ, List, [], ◌∷◌, Bool, false, ◌&&◌, ◌||◌, is_none, Option, Some, None}
use Rattle.gltf_base.specs.declared.validation.Checked.{Checked}
use Rattle.gltf_base.specs.declared.validation.Checked.TheVariants.{Valid, Invalid}
use Rattle.gltf_base.specs.declared.buffer.Target.{Target as Use}
use Rattle.gltf_base.specs.declared.buffer.Target.TheVariants.{ArrayBuffer, ElementArrayBuffer}
use Rattle.gltf_parts.specs.declared.buffer.View.{View}
use Rattle.gltf_findings_codes.specs.declared.code.Code.TheVariants.{AccessorUsageOverride, BufferViewTargetOverride, BufferViewTargetMissing, MeshPrimitiveAccessorWithoutBytestride}
use Rattle.gltf_findings_codes.specs.declared.name.Name.TheVariants.{Accessors, BufferViews, Target, ByteStride}
use Rattle.gltf_findings_codes.specs.declared.finding.Object.TheVariants.{Item}
use Rattle.gltf_findings_codes.specs.declared.finding.Subject.TheVariants.{Object, Member}
use Rattle.gltf_findings_codes.specs.declared.finding.Finding.{Finding}
use Rattle.gltf_findings_codes.specs.Found.{broken, found}
use Rattle.gltf_findings_codes.specs.Marks.{is_marked}

-- section 3.7.2.1: no accessor holds attributes and indices
abbrev pub usage_findings : List Bool → List Bool → ℕ → List Finding
usage_findings attributes indices n = found (broken (is_marked attributes n && is_marked indices n) AccessorUsageOverride (Object (Item Accessors n)) ∷ [])

-- section 5.11.5: the target is that of the other use
abbrev pub other_use : Option (Checked Use) → Bool → Bool → Bool
other_use (Some (Valid ArrayBuffer)) for_attributes for_indices = for_indices
other_use (Some (Valid ElementArrayBuffer)) for_attributes for_indices = for_attributes
other_use _ for_attributes for_indices = false

abbrev pub is_used_otherwise : Bool → Bool → View → Bool
is_used_otherwise for_attributes for_indices v = (for_attributes && for_indices) || other_use v.target for_attributes for_indices

-- section 3.6.1: "When a buffer view is used by vertex indices or attribute accessors it SHOULD specify bufferView.target"
abbrev pub lacks_target : Bool → Bool → View → Bool
lacks_target for_attributes for_indices v = (for_attributes || for_indices) && is_none v.target

-- section 5.11.4: "When two or more accessors use the same buffer view, this field MUST be defined"
abbrev pub lacks_stride : Bool → View → Bool
lacks_stride is_shared v = is_shared && is_none v.byte_stride

-- a view by its uses
abbrev pub view_usage_rules : Bool → Bool → Bool → ℕ → View → List (Option Finding)
view_usage_rules for_attributes for_indices is_shared n v =
    broken (is_used_otherwise for_attributes for_indices v) BufferViewTargetOverride (Object (Item BufferViews n))
    ∷ broken (lacks_target for_attributes for_indices v) BufferViewTargetMissing (Member (Item BufferViews n) Target)
    ∷ broken (lacks_stride is_shared v) MeshPrimitiveAccessorWithoutBytestride (Member (Item BufferViews n) ByteStride)
    ∷ []

abbrev pub view_usage_findings : List Bool → List Bool → List Bool → ℕ → View → List Finding
view_usage_findings attributes indices shared n v = found (view_usage_rules (is_marked attributes n) (is_marked indices n) (is_marked shared n) n v)
