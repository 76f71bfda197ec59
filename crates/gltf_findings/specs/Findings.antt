-- All findings of a document.
use Rattle.std.specs.Prelude.{◌≡◌, ℕ, List, [], ◌∷◌, ◌++◌, Bool, false, replicate, codes, String, string_bytes, not, ◌&&◌, ◌==◌, length, Option, Some, None}
use Rattle.std.specs.declared.alloc.Global.{Global}
use Rattle.gltf_scene.specs.declared.extensions.scene.khr_lights_punctual.Light.{Light}
use Rattle.gltf_root.specs.declared.extensions.root.KhrLightsPunctual.{KhrLightsPunctual}
use Rattle.gltf_root.specs.declared.extensions.root.KhrMaterialsVariants.{KhrMaterialsVariants as OfVariants}
use Rattle.gltf_root.specs.declared.extensions.root.Root.{Root as Extension}
use Rattle.gltf_root.specs.declared.root.Root.{Root}
use Rattle.gltf_findings_codes.specs.declared.code.Code.TheVariants.{UnresolvedReference, UnsatisfiedDependency}
use Rattle.gltf_findings_codes.specs.declared.name.Name.TheVariants.{Scene, ExtensionsUsed, ExtensionsRequired}
use Rattle.gltf_findings_codes.specs.declared.finding.Object.TheVariants.{Document}
use Rattle.gltf_findings_codes.specs.declared.finding.Subject.TheVariants.{Member}
use Rattle.gltf_findings_codes.specs.declared.finding.Finding.{Finding}
use Rattle.gltf_findings.specs.declared.findings.Findings.{Findings}
use Rattle.gltf_findings_rules.specs.declared.nodes.NodeRules.{NodeRules as Counts}
use Rattle.gltf_findings_codes.specs.Found.{broken, found, findings_from}
use Rattle.gltf_findings_codes.specs.Rules.{is_some_unresolved}
use Rattle.gltf_findings.specs.ExtensionNames.{is_listed, name_rules, use_rules, required_findings, name_repeats}
use Rattle.gltf_findings.specs.Uses.{use_findings}
use Rattle.gltf_findings.specs.Versions.{asset_rules}
use Rattle.gltf_findings.specs.Hierarchy.{AreHierarchyRules}
use Rattle.gltf_load.specs.Named.{children_named}
use Rattle.gltf_findings.specs.Skeletons.{AreSkeletonMarks, skeleton_findings}
use Rattle.gltf_findings_rules.specs.Accessors.{accessor_findings}
use Rattle.gltf_findings_rules.specs.Views.{buffer_rules, view_findings}
use Rattle.gltf_findings_rules.specs.Textures.{image_rules, sampler_rules, texture_rules}
use Rattle.gltf_findings_rules.specs.Materials.{material_findings}
use Rattle.gltf_findings_rules.specs.Meshes.{mesh_findings}
use Rattle.gltf_findings_rules.specs.Animations.{animation_findings}
use Rattle.gltf_findings_rules.specs.Cameras.{camera_findings}
use Rattle.gltf_findings_rules.specs.Lights.{light_findings}
use Rattle.gltf_findings_rules.specs.Nodes.{node_findings, scene_findings}
use Rattle.gltf_findings_rules.specs.Placed.{placed_findings as placed_node_findings, child_marks, joint_marks}
use Rattle.gltf_findings_rules.specs.Skins.{skin_findings}

-- what a list of findings holds
abbrev pub found_in : Findings → List Finding
found_in f = f.found.items

abbrev pub root_rules : Root → List (Option Finding)
root_rules r =
    broken (is_some_unresolved (length r.scenes.items) r.scene) UnresolvedReference (Member Document Scene)
    -- section 3.12: a required extension is a used one
    ∷ broken (not (length r.extensions_required.items == 0) && (length r.extensions_used.items == 0)) UnsatisfiedDependency (Member Document ExtensionsRequired)
    ∷ []

abbrev pub lights_in : Option KhrLightsPunctual → List Light
lights_in None = []
lights_in (Some x) = x.lights.items

abbrev pub lights_of_extension : Option Extension → List Light
lights_of_extension None = []
lights_of_extension (Some e) = lights_in e.khr_lights_punctual

-- the lights of a document (`KHR_lights_punctual`)
abbrev pub lights_of : Root → List Light
lights_of r = lights_of_extension r.extensions

abbrev pub variant_count_in : Option OfVariants → ℕ
variant_count_in None = 0
variant_count_in (Some x) = length x.variants.items

abbrev pub variant_count_of : Option Extension → ℕ
variant_count_of None = 0
variant_count_of (Some e) = variant_count_in e.khr_materials_variants

-- how many variants a document has (`KHR_materials_variants`)
abbrev pub variant_count : Root → ℕ
variant_count r = variant_count_of r.extensions

abbrev pub stored_findings : Root → List Finding
stored_findings r =
    findings_from (accessor_findings r.buffer_views.items) 0 r.accessors.items
    ++ findings_from (λ n x. found (buffer_rules n x)) 0 r.buffers.items
    ++ findings_from (view_findings r.buffers.items) 0 r.buffer_views.items

abbrev pub shown_findings : Root → List Finding
shown_findings r =
    findings_from (λ n x. found (image_rules r.buffer_views.items n x)) 0 r.images.items
    ++ findings_from (material_findings (length r.textures.items)) 0 r.materials.items
    ++ findings_from (mesh_findings (is_listed r.extensions_used.items (codes "KHR_mesh_quantization")) (variant_count r) r.buffer_views.items r.accessors.items r.materials.items) 0 r.meshes.items
    ++ findings_from (λ n x. found (sampler_rules n x)) 0 r.samplers.items
    ++ findings_from (λ n x. found (texture_rules (length r.samplers.items) r.images.items n x)) 0 r.textures.items

abbrev pub staged_findings : Root → List Finding
staged_findings r =
    findings_from (animation_findings r.buffer_views.items r.accessors.items r.nodes.items r.meshes.items) 0 r.animations.items
    ++ findings_from camera_findings 0 r.cameras.items
    ++ findings_from light_findings 0 (lights_of r)

-- how many items there are that nodes may name
abbrev pub counts_of : Root → Counts
counts_of r = record {
  cameras = length r.cameras.items;
  meshes = length r.meshes.items;
  skins = length r.skins.items;
  lights = length (lights_of r);
  nodes = length r.nodes.items;
}

-- nodes, scenes and skins, by which nodes are children and which are joints
abbrev pub marked_findings : Root → List Bool → List Bool → List Finding
marked_findings r children joints =
    findings_from (node_findings (counts_of r)) 0 r.nodes.items
    ++ findings_from (placed_node_findings r.meshes.items children joints) 0 r.nodes.items
    ++ findings_from (scene_findings (length r.nodes.items) children) 0 r.scenes.items
    ++ findings_from (skin_findings (length r.nodes.items) r.buffer_views.items r.accessors.items) 0 r.skins.items

abbrev pub unmarked : Root → List Bool
unmarked r = replicate (length r.nodes.items) false

abbrev pub placed_findings : Root → List Finding
placed_findings r = marked_findings r (child_marks r.nodes.items (unmarked r)) (joint_marks r.skins.items (unmarked r))

-- the names of the extensions that are used and of those that are required
abbrev pub name_findings : List (String Global) → List (String Global) → List Finding
name_findings used required =
    findings_from (λ k name. name_rules k (string_bytes name)) 0 used
    ++ findings_from (required_findings used) 0 required
    ++ name_repeats ExtensionsUsed [] 0 used
    ++ name_repeats ExtensionsRequired [] 0 required

-- the document itself, its metadata and its extensions
abbrev pub document_findings : Root → List Finding
document_findings r =
    found (root_rules r)
    ++ found (asset_rules r.asset)
    ++ found (use_rules r.extensions_used.items r.extensions_required.items)
    ++ name_findings r.extensions_used.items r.extensions_required.items

-- what is wrong with a document, but for what the hierarchy of its nodes decides
abbrev pub findings_of : Root → List Finding
findings_of r = document_findings r ++ stored_findings r ++ shown_findings r ++ staged_findings r ++ placed_findings r ++ use_findings r

-- what is wrong with a document: the faults of the hierarchy and the skins that do not fit it come last
pub record AreFindings (r : Root) (all : List Finding) : Type 0 where
  pub hierarchy : List (Option Finding)
  pub are_of : AreHierarchyRules r.nodes.items hierarchy
  pub apart : List Bool
  pub astray : List Bool
  pub skeletons : AreSkeletonMarks (children_named r.nodes.items) r.skins.items apart astray
  pub each : all ≡ findings_of r ++ found hierarchy ++ findings_from (skeleton_findings apart astray) 0 r.skins.items
