-- The lists of a document as the program holds them.
use Rattle.std.specs.Prelude.{List, [], Option, Some, None, option_map}
use Rattle.std.specs.declared.alloc.Global.{Global}
use Rattle.std.specs.declared.vec.Vec.{Vec}
use Rattle.gltf_scene.specs.declared.extensions.scene.khr_lights_punctual.Light.{Light}
use Rattle.gltf_scene.specs.declared.extensions.scene.khr_materials_variants.Variant.{Variant}
use Rattle.gltf_root.specs.declared.root.Root.{Root}
use Rattle.gltf_root.specs.declared.extensions.root.KhrLightsPunctual.{KhrLightsPunctual}
use Rattle.gltf_root.specs.declared.extensions.root.KhrMaterialsVariants.{KhrMaterialsVariants}
use Rattle.gltf_root.specs.declared.extensions.root.Root.{Root as RootExtensions}

-- a list in an object that may be missing: empty where it is
abbrev pub listed_in : {O X : Type 0} → (O → List X) → Option O → List X
listed_in items None = []
listed_in items (Some found) = items found

-- ---- the lists in the extensions of a document

abbrev pub lights_in : RootExtensions → List Light
lights_in e = listed_in (λ found. found.lights.items) e.khr_lights_punctual

abbrev pub lights_of : Root → List Light
lights_of r = listed_in lights_in r.extensions

abbrev pub variants_in : RootExtensions → List Variant
variants_in e = listed_in (λ found. found.variants.items) e.khr_materials_variants

abbrev pub variants_of : Root → List Variant
variants_of r = listed_in variants_in r.extensions

-- ---- the same documents with other lists there, where they have any

abbrev pub lights_put : Vec Light Global → KhrLightsPunctual → KhrLightsPunctual
lights_put list found = record found { lights = list }

abbrev pub lights_put_in : Vec Light Global → RootExtensions → RootExtensions
lights_put_in list e = record e { khr_lights_punctual = option_map (lights_put list) e.khr_lights_punctual }

abbrev pub put_lights : Vec Light Global → Root → Root
put_lights list r = record r { extensions = option_map (lights_put_in list) r.extensions }

abbrev pub variants_put : Vec Variant Global → KhrMaterialsVariants → KhrMaterialsVariants
variants_put list found = record found { variants = list }

abbrev pub variants_put_in : Vec Variant Global → RootExtensions → RootExtensions
variants_put_in list e = record e { khr_materials_variants = option_map (variants_put list) e.khr_materials_variants }

abbrev pub put_variants : Vec Variant Global → Root → Root
put_variants list r = record r { extensions = option_map (variants_put_in list) r.extensions }
