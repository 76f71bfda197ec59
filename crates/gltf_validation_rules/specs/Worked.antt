-- Documents worked by hand, to test the definitions by.
use Rattle.std.specs.Prelude.{ℕ, Bool, List, [], ◌∷◌, codes, Option, option_map, option_and_then}
use Rattle.serde_json.specs.Data.{Data, number, unsigned, string, array, object, no_items, item as data_item, Members, no_members, member}
use Rattle.gltf_base.specs.Spelling.{Spelling}
use Rattle.gltf_base.specs.Lists.{ListName}
use Rattle.gltf_base.specs.Steps.{Step, field, item, key}
use Rattle.gltf_validation_rules.specs.Report.{Report}
use Rattle.gltf_validation_rules.specs.Context.{standard_rules}
use Rattle.gltf_validation_rules.specs.Reports.{document_reports}
use Rattle.gltf_parts.specs.Accessor.{sparse_indices_rows}
use Rattle.gltf_scene.specs.Light.{light_of_node_rows}
use Rattle.gltf_scene.specs.Scene.{node_extension_rows}
use Rattle.gltf_root.specs.Named.{with_member, with_reached}
use Rattle.gltf_root.specs.Pushed.{item_kind, pushed}
use Rattle.gltf_root.specs.RootExtension.{root_extension_rows}
use Rattle.gltf_root.specs.Root.{root_kind, root_rows}
use Rattle.gltf_schema.specs.Defaults.{defaults}
use Rattle.gltf_schema.specs.Kind.{Rows}
use Rattle.gltf_schema.specs.Read.{read}
use Rattle.gltf_schema.specs.Plain.{is_plain}
use Rattle.gltf_schema.specs.Tree as tree
use Rattle.gltf_schema.specs.Tree.{Tree}
use Rattle.gltf_schema.specs.Write.{write}

-- what is wrong in the document that a JSON value is, if it is one
abbrev pub reports_in : Data → Option (List Report)
reports_in d = option_map (document_reports standard_rules) (read root_kind d)

-- and what is wrong in it by rules: whether textures may be empty, and what may be required
abbrev pub reports_ruled : Bool → List (List ℕ) → Data → Option (List Report)
reports_ruled may_be_empty enabled d =
    option_map (document_reports (record { empty_texture = may_be_empty; enabled = enabled })) (read root_kind d)

-- what the document read from a JSON value is written as
abbrev pub written_of : Data → Option Data
written_of d = option_and_then (write root_kind) (read root_kind d)

-- the document that a JSON value is, with the item that another is at the end of a list, and what
-- is wrong in that
abbrev pub pushed_in : ListName → Data → Data → Option Tree
pushed_in named x d = option_and_then (λ t. option_map (λ r. pushed named t r) (read root_kind d)) (read (item_kind named) x)

abbrev pub reports_pushed : ListName → Data → Data → Option (List Report)
reports_pushed named x d = option_map (document_reports standard_rules) (pushed_in named x d)

abbrev pub whole : ℕ → Data
whole n = number (unsigned n)

abbrev pub one : Data → Data
one d = array (data_item d no_items)

abbrev pub text : List ℕ → Data
text s = string s

-- {"asset":{"version":"2.0"}, ..}
abbrev pub with_asset : Members → Data
with_asset ms = object (member (codes "asset") (object (member (codes "version") (text (codes "2.0")) no_members)) ms)

-- an accessor of so many elements, of a component type, with further members
abbrev pub accessor_of : Data → Data → Members → Data
accessor_of count component_type more =
    object (member (codes "componentType") component_type (member (codes "count") count (member (codes "type") (text (codes "VEC3")) more)))

abbrev pub with_accessor : Data → Data
with_accessor d = with_asset (member (codes "accessors") (one d) no_members)

-- a buffer of 256 bytes, and a view of it with further members
abbrev pub with_view : Members → Members → Data
with_view view more =
    with_asset (member (codes "bufferViews") (one (object (member (codes "buffer") (whole 0) (member (codes "byteLength") (whole 256) view))))
    (member (codes "buffers") (one (object (member (codes "byteLength") (whole 256) no_members))) more))

abbrev pub in_accessor : List ℕ → List Step
in_accessor name = field (codes "accessors") ∷ item 0 ∷ field name ∷ []

abbrev pub in_view : List ℕ → List Step
in_view name = field (codes "bufferViews") ∷ item 0 ∷ field name ∷ []

-- a document of one list of one object
abbrev pub with_one : List ℕ → Members → Data
with_one name ms = with_asset (member name (one (object ms)) no_members)

abbrev pub in_one : List ℕ → List Step → List Step
in_one name steps = field name ∷ item 0 ∷ steps

-- a channel that names the first sampler and the first node, by a property that there is none of
abbrev pub odd_channel : Data
odd_channel =
    object (member (codes "sampler") (whole 0)
    (member (codes "target") (object (member (codes "node") (whole 0) (member (codes "path") (text (codes "foo")) no_members))) no_members))

abbrev pub in_channel : List Step → List Step
in_channel steps = in_one (codes "animations") (field (codes "channels") ∷ item 0 ∷ steps)

-- a primitive with attributes
abbrev pub with_attributes : Members → Members
with_attributes ms = member (codes "primitives") (one (object (member (codes "attributes") (object ms) no_members))) no_members

abbrev pub in_attributes : List ℕ → List Step → List Step
in_attributes name steps =
    in_one (codes "meshes") (field (codes "primitives") ∷ item 0 ∷ field (codes "attributes") ∷ key name ∷ steps)

-- an extension object of a document or a node, of one member
abbrev pub extended : List ℕ → List ℕ → Data → Members
extended extension name d = member (codes "extensions") (object (member extension (object (member name d no_members)) no_members)) no_members

abbrev pub in_extension : List ℕ → List Step → List Step
in_extension extension steps = field (codes "extensions") ∷ field extension ∷ steps

-- a document that requires one extension
abbrev pub requiring : List ℕ → Data
requiring name = with_asset (member (codes "extensionsRequired") (one (text name)) no_members)

-- a point light, an extension object of one variant, and a node with one child
abbrev pub point_light : Data
point_light = object (member (codes "type") (text (codes "point")) no_members)

abbrev pub listed_variant : Data
listed_variant = object (member (codes "variants") (one (object (member (codes "name") (text (codes "a")) no_members))) no_members)

abbrev pub node_of : ℕ → Data
node_of child = object (member (codes "children") (one (whole child)) no_members)

-- whether the document read from a JSON value is plain, and whether it is with other extras
abbrev pub plain_in : Data → Option Bool
plain_in d = option_map (is_plain root_kind) (read root_kind d)

abbrev pub plain_with_extras : Tree → Data → Option Bool
plain_with_extras extras d = option_map (λ t. is_plain root_kind (with_member (codes "extras") root_rows extras t)) (read root_kind d)

-- an object of these rows with each member left out, beside others
abbrev pub left_out_beside : Rows → Members → Tree
left_out_beside rows others = tree.object (defaults rows) others

-- sparse indices in view 0, of a component type, with other members
abbrev pub indices_of : Spelling → Members → Tree
indices_of component_type others =
    with_member (codes "bufferView") sparse_indices_rows (tree.index 0)
    (with_member (codes "componentType") sparse_indices_rows (tree.chosen component_type) (left_out_beside sparse_indices_rows others))

-- the extensions of a document with neither lights nor variants, beside others
abbrev pub extensions_beside : Members → Tree
extensions_beside others = left_out_beside root_extension_rows others

-- the extensions of a node with light 0, beside others
abbrev pub node_extensions_beside : Members → Tree
node_extensions_beside others =
    with_reached ((codes "KHR_lights_punctual", node_extension_rows) ∷ (codes "light", light_of_node_rows) ∷ []) (tree.index 0)
    (left_out_beside node_extension_rows others)
