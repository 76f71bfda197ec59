-- What of a document has indexes into one of its lists. Sections are those of glTF 2.0.
use Rattle.std.specs.Prelude.{Bool, true, false, List, [], ◌∷◌, ◌++◌, codes}
use Rattle.gltf_base.specs.Lists.{ListName}
use Rattle.gltf_base.specs.Steps.{field}
use Rattle.gltf_schema.specs.Kind.{IndexInto, ListOf}
use Rattle.gltf_schema.specs.Tree.{Tree, list, members_in}
use Rattle.gltf_validation_rules.specs.Report.{Report}
use Rattle.gltf_root.specs.Lists.{list_in}
use Rattle.gltf_root.specs.Named.{member_named}
use Rattle.gltf_root.specs.Pushed.{item_kind, list_steps}
use Rattle.gltf_root.specs.Root.{root_rows}
use Rattle.gltf_validation_rules.specs.Context.{Rules}
use Rattle.gltf_validation_rules.specs.Reports.{reports_by_rules}

-- a list that is a member of the document itself, and not of an extension object
abbrev pub is_member : ListName → Bool
is_member ListName.lights = false
is_member ListName.variants = false
is_member named = true

-- what is wrong in the items of a list of a document, by rules
abbrev pub list_reports : Rules → Tree → ListName → List Report
list_reports rules root named = reports_by_rules rules (ListOf (item_kind named)) (list (list_in named root)) root (list_steps named)

-- what is wrong with the index of the scene that is shown first (3.5.1)
abbrev pub scene_reports : Rules → Tree → List Report
scene_reports rules root = reports_by_rules rules (IndexInto ListName.scenes) (member_named (codes "scene") root_rows (members_in root)) root (field (codes "scene") ∷ [])

-- what is wrong in all of a document that has indexes into a list, in the order of its members (section 5)
abbrev pub reports_into : Rules → Tree → ListName → List Report
reports_into rules root ListName.accessors =
    list_reports rules root ListName.animations ++ (list_reports rules root ListName.meshes ++ list_reports rules root ListName.skins)
reports_into rules root ListName.animations = []
reports_into rules root ListName.buffers = list_reports rules root ListName.buffer_views
reports_into rules root ListName.buffer_views = list_reports rules root ListName.accessors ++ list_reports rules root ListName.images
reports_into rules root ListName.cameras = list_reports rules root ListName.nodes
reports_into rules root ListName.images = list_reports rules root ListName.textures
reports_into rules root ListName.materials = list_reports rules root ListName.meshes
reports_into rules root ListName.meshes = list_reports rules root ListName.nodes
reports_into rules root ListName.nodes =
    list_reports rules root ListName.animations
    ++ (list_reports rules root ListName.nodes ++ (list_reports rules root ListName.scenes ++ list_reports rules root ListName.skins))
reports_into rules root ListName.samplers = list_reports rules root ListName.textures
reports_into rules root ListName.scenes = scene_reports rules root
reports_into rules root ListName.skins = list_reports rules root ListName.nodes
reports_into rules root ListName.textures = list_reports rules root ListName.materials
reports_into rules root ListName.lights = list_reports rules root ListName.nodes
reports_into rules root ListName.variants = []
