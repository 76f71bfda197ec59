-- The lists of a document, and the ways to them.
use Rattle.std.specs.Prelude.{ℕ, List, [], ◌∷◌, Bool, true, not, codes}
use Rattle.gltf_base.specs.Lists.{ListName}
use Rattle.gltf_schema.specs.Tree.{Tree, Trees, is_absent, count_of, items_in, members_in}
use Rattle.gltf_scene.specs.Animation.{animation_rows}
use Rattle.gltf_root.specs.Named.{Way, row_named, member_named, reached}
use Rattle.gltf_root.specs.RootExtension.{root_extension_rows, lights_rows, variants_rows}
use Rattle.gltf_root.specs.Root.{root_rows}

-- the name of a document's extensions
abbrev pub extensions_name : List ℕ
extensions_name = codes "extensions"

-- the name of the extension object that has the lights
abbrev pub lights_name : List ℕ
lights_name = codes "KHR_lights_punctual"

-- the name of the extension object that has the variants
abbrev pub variants_name : List ℕ
variants_name = codes "KHR_materials_variants"

-- the extensions of a document
abbrev pub extensions_in : Tree → Tree
extensions_in root = member_named extensions_name root_rows (members_in root)

-- the extension object of a name
abbrev pub extension_in : List ℕ → Tree → Tree
extension_in name root = member_named name root_extension_rows (members_in (extensions_in root))

-- the name of the document's member that is a list, or that has a list in it
abbrev pub member_of : ListName → List ℕ
member_of ListName.accessors = codes "accessors"
member_of ListName.animations = codes "animations"
member_of ListName.buffers = codes "buffers"
member_of ListName.buffer_views = codes "bufferViews"
member_of ListName.cameras = codes "cameras"
member_of ListName.images = codes "images"
member_of ListName.materials = codes "materials"
member_of ListName.meshes = codes "meshes"
member_of ListName.nodes = codes "nodes"
member_of ListName.samplers = codes "samplers"
member_of ListName.scenes = codes "scenes"
member_of ListName.skins = codes "skins"
member_of ListName.textures = codes "textures"
member_of ListName.lights = extensions_name
member_of ListName.variants = extensions_name

-- the number of that member's row
abbrev pub row_of : ListName → ℕ
row_of named = row_named (member_of named) root_rows

-- the way from the extension object to the lights
abbrev pub lights_way : Way
lights_way = (codes "lights", lights_rows) ∷ []

-- the way from the extension object to the variants
abbrev pub variants_way : Way
variants_way = (codes "variants", variants_rows) ∷ []

-- the way from the document's member to a list; most lists are that member
abbrev pub further_way : ListName → Way
further_way ListName.lights = (lights_name, root_extension_rows) ∷ lights_way
further_way ListName.variants = (variants_name, root_extension_rows) ∷ variants_way
further_way named = []

-- the way from a document to a list
abbrev pub list_way : ListName → Way
list_way named = (member_of named, root_rows) ∷ further_way named

-- the items of a list; none where its extension object is missing
abbrev pub list_in : ListName → Tree → Trees
list_in named root = items_in (reached (list_way named) root)

-- whether a list is there, which may be empty: not where its extension object is missing
abbrev pub is_there : ListName → Tree → Bool
is_there ListName.lights root = not (is_absent (extension_in lights_name root))
is_there ListName.variants root = not (is_absent (extension_in variants_name root))
is_there named root = true

-- the number of items of a list
abbrev pub count_in : ListName → Tree → ℕ
count_in named root = count_of (list_in named root)

-- the number of an animation's samplers
abbrev pub sampler_count : Tree → ℕ
sampler_count animation = count_of (items_in (member_named (codes "samplers") animation_rows (members_in animation)))
