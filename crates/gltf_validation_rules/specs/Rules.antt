-- What is wrong with an object as a whole. Sections are those of glTF 2.0.
use Rattle.std.specs.Prelude.{ℕ, List, [], ◌∷◌, ◌++◌, Bool, true, false, not, ◌&&◌, Option, Some, None, codes}
use Rattle.std.specs.List.{list_any}
use Rattle.std.specs.Map.{lookup}
use Rattle.std.specs.Str.{bytes_eq}
use Rattle.serde_json.specs.Data.{Data, array, number, no_items, item as data_item}
use Rattle.gltf_base.specs.Keys.{Key, positions}
use Rattle.gltf_base.specs.Spelling.{is_spelled}
use Rattle.gltf_base.specs.SceneChoices.{light_type_spelling}
use Rattle.gltf_base.specs.declared.extensions.scene.khr_lights_punctual.LightType.TheVariants as light_types
use Rattle.gltf_base.specs.Steps.{field, key, value}
use Rattle.gltf_base.specs.Lists.{ListName}
use Rattle.gltf_base.specs.declared.validation.Error.TheVariants.{Invalid, Missing, Unsupported}
use Rattle.gltf_schema.specs.Tree.{Tree, absent, any, text, chosen, object, Trees, is_absent, tree_at, items_in, entries_in}
use Rattle.gltf_schema.specs.Kind.{Rule, no_rule, needs_data, needs_projection, needs_cone, needs_positions, requires_enabled, holds_samplers}
use Rattle.gltf_parts.specs.Accessor.{accessor_rows}
use Rattle.gltf_scene.specs.Mesh.{primitive_rows}
use Rattle.gltf_scene.specs.Camera.{camera_rows}
use Rattle.gltf_scene.specs.Light.{light_rows}
use Rattle.gltf_root.specs.Lists.{list_in}
use Rattle.gltf_root.specs.Named.{member_named}
use Rattle.gltf_root.specs.Root.{root_rows}
use Rattle.gltf_validation_rules.specs.Report.{From, report}
use Rattle.gltf_validation_rules.specs.Context.{Context}
use Rattle.gltf_validation_rules.specs.Faults.{report_if, items_reports}

-- ---- the members that the rules speak of

-- an accessor's view of a buffer
abbrev pub accessor_buffer_view : Trees → Tree
accessor_buffer_view ts = member_named (codes "bufferView") accessor_rows ts

-- its least values
abbrev pub accessor_min : Trees → Tree
accessor_min ts = member_named (codes "min") accessor_rows ts

-- its greatest values
abbrev pub accessor_max : Trees → Tree
accessor_max ts = member_named (codes "max") accessor_rows ts

-- its elements that replace others
abbrev pub accessor_sparse : Trees → Tree
accessor_sparse ts = member_named (codes "sparse") accessor_rows ts

-- a camera's orthographic projection
abbrev pub camera_orthographic : Trees → Tree
camera_orthographic ts = member_named (codes "orthographic") camera_rows ts

-- its perspective projection
abbrev pub camera_perspective : Trees → Tree
camera_perspective ts = member_named (codes "perspective") camera_rows ts

-- a light's cone
abbrev pub light_spot : Trees → Tree
light_spot ts = member_named (codes "spot") light_rows ts

-- its type
abbrev pub light_type : Trees → Tree
light_type ts = member_named (codes "type") light_rows ts

-- a primitive's attributes
abbrev pub primitive_attributes : Trees → Tree
primitive_attributes ts = member_named (codes "attributes") primitive_rows ts

-- the extensions that a document requires
abbrev pub root_extensions_required : Trees → Tree
root_extensions_required ts = member_named (codes "extensionsRequired") root_rows ts

-- ---- the rules

-- an accessor has data: a view, or elements that replace zeros. This is the ported crate's rule:
-- 5.1.1 allows an accessor with neither, whose elements are zeros
abbrev pub accessor_rule : Trees → From
accessor_rule ts base = report_if (is_absent (accessor_sparse ts) && is_absent (accessor_buffer_view ts)) Missing (base ++ field (codes "bufferView") ∷ [])

-- a camera has a projection, whatever its type. This is the ported crate's rule: 5.12.3 asks for
-- the one of the type
abbrev pub camera_rule : Trees → From
camera_rule ts base = report_if (is_absent (camera_orthographic ts) && is_absent (camera_perspective ts)) Missing base

-- the type of a light is that of a spot light
abbrev pub is_spot : Tree → Bool
is_spot (chosen s) = is_spelled s (light_type_spelling light_types.Spot)
is_spot _ = false

-- a spot light has its cone (KHR_lights_punctual)
abbrev pub light_rule : Trees → From
light_rule ts base = report_if (is_spot (light_type ts) && is_absent (light_spot ts)) Missing (base ++ field (codes "spot") ∷ [])

abbrev pub is_number : Data → Bool
is_number (number x) = true
is_number _ = false

-- an array of three numbers
abbrev pub is_triple : Data → Bool
is_triple (array (data_item a (data_item b (data_item c no_items)))) = is_number a && is_number b && is_number c
is_triple _ = false

-- a bound of positions is three numbers (3.6.2.5 and 3.7.2.1)
abbrev pub bound_faults : Tree → From
bound_faults absent base = report base Missing ∷ []
bound_faults (any d) base = report_if (not (is_triple d)) Invalid base
bound_faults _ base = []

abbrev pub bounds_faults : Tree → From
bounds_faults (object ts others) base = bound_faults (accessor_min ts) (base ++ field (codes "min") ∷ []) ++ bound_faults (accessor_max ts) (base ++ field (codes "max") ∷ [])
bounds_faults _ base = []

abbrev pub is_positions : Key → Bool
is_positions positions = true
is_positions _ = false

-- the accessor of the positions, where it is there, has both bounds (3.7.2.1)
abbrev pub positions_faults : Option ℕ → Tree → From
positions_faults None root base = report base Missing ∷ []
positions_faults (Some n) root base = bounds_faults (tree_at n (list_in ListName.accessors root)) base

-- a primitive has positions. This is the ported crate's rule: 3.7.2.1 allows a primitive without
abbrev pub primitive_rule : Trees → Tree → From
primitive_rule ts root base = positions_faults (lookup is_positions (entries_in (primitive_attributes ts))) root ((base ++ field (codes "attributes") ∷ []) ++ key (codes "POSITION") ∷ [])

-- a name of a required extension that is not enabled
abbrev pub extension_faults : List (List ℕ) → Tree → From
extension_faults enabled (text s) base = report_if (not (list_any (λ e. bytes_eq e s) enabled)) Unsupported (base ++ value s ∷ [])
extension_faults enabled _ base = []

-- a document requires only extensions that are enabled (3.12 and 5.17.2)
abbrev pub root_rule : List (List ℕ) → Trees → From
root_rule enabled ts base = items_reports (extension_faults enabled) 0 (items_in (root_extensions_required ts)) (base ++ field (codes "extensionsRequired") ∷ [])

-- what is wrong with an object's members by its rule
abbrev pub rule_faults : Rule → Trees → Context → From
rule_faults no_rule ts context base = []
rule_faults needs_data ts context base = accessor_rule ts base
rule_faults needs_projection ts context base = camera_rule ts base
rule_faults needs_cone ts context base = light_rule ts base
rule_faults needs_positions ts context base = primitive_rule ts context.root base
rule_faults requires_enabled ts context base = root_rule context.rules.enabled ts base
rule_faults holds_samplers ts context base = []

-- an object's rule, where there is an object
abbrev pub object_faults : Tree → Rule → Context → From
object_faults (object ts others) rule context base = rule_faults rule ts context base
object_faults _ rule context base = []
