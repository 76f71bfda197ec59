-- What a document holds, as the Khronos glTF-Validator counts it.
use Rattle.std.specs.Prelude.{◌≡◌, List, ℕ, Option, Some, None, option_map, is_some, not, ◌==◌, length, map, codes, String, string_bytes}
use Rattle.std.specs.declared.alloc.Global.{Global}
use Rattle.serde_json.specs.Data.{Data, null, boolean, number, string, array, object, member, Members, no_members, put, unsigned}
use Rattle.serde_json.specs.View.{items_of}
use Rattle.gltf_root.specs.declared.root.Root.{Root}
use Rattle.gltf_findings_lines.specs.Geometry.{geometry_of}
use Rattle.gltf_findings_lines.specs.declared.geometry.Geometry.{Geometry}
use Rattle.gltf_findings_lines.specs.declared.info.Contents.{Contents}

-- what is said of a document
pub record IsInfo (r : Root) (i : Contents) : Type 0 where
  pub version : i.version.now ≡ string_bytes r.asset.version
  pub min_version : option_map (λ s. s.now) i.min_version ≡ option_map string_bytes r.asset.min_version
  pub generator : option_map (λ s. s.now) i.generator ≡ option_map string_bytes r.asset.generator
  pub extensions_used : i.extensions_used.now ≡ r.extensions_used.items
  pub extensions_required : i.extensions_required.now ≡ r.extensions_required.items
  pub animations : i.animations ≡ length r.animations.items
  pub materials : i.materials ≡ length r.materials.items
  pub default_scene : i.has_default_scene ≡ is_some r.scene
  pub skins : i.has_skins ≡ not (length r.skins.items == 0)
  pub textures : i.has_textures ≡ not (length r.textures.items == 0)
  pub geometry : i.geometry ≡ geometry_of r.accessors.items r.meshes.items

abbrev pub names_data : List (String Global) → Data
names_data names = array (items_of (map (λ name. string (string_bytes name)) names))

abbrev pub text_data : Option (List ℕ) → Data
text_data None = null
text_data (Some text) = string text

-- what a document holds, by the names of the validator
unfoldable pub info_data : Contents → Data
info_data i = object (member (codes "animationCount") (number (unsigned i.animations))
    (member (codes "drawCallCount") (number (unsigned i.geometry.draw_calls))
    (member (codes "extensionsRequired") (names_data i.extensions_required.now)
    (member (codes "extensionsUsed") (names_data i.extensions_used.now)
    (member (codes "generator") (text_data (option_map (λ s. s.now) i.generator))
    (member (codes "hasDefaultScene") (boolean i.has_default_scene)
    (member (codes "hasMorphTargets") (boolean i.geometry.has_morph_targets)
    (member (codes "hasSkins") (boolean i.has_skins)
    (member (codes "hasTextures") (boolean i.has_textures)
    (member (codes "materialCount") (number (unsigned i.materials))
    (member (codes "maxAttributes") (number (unsigned i.geometry.attributes))
    (member (codes "maxInfluences") (number (unsigned i.geometry.influences))
    (member (codes "maxUVs") (number (unsigned i.geometry.tex_coords))
    (member (codes "minVersion") (text_data (option_map (λ s. s.now) i.min_version))
    (member (codes "totalTriangleCount") (number (unsigned i.geometry.triangles))
    (member (codes "totalVertexCount") (number (unsigned i.geometry.vertices))
    (member (codes "version") (string i.version.now) no_members)))))))))))))))))

-- for private clauses: the same members, put one after the other
abbrev pub with_asset : Contents → Members → Members
with_asset i ms = put (codes "extensionsRequired") (names_data i.extensions_required.now)
    (put (codes "extensionsUsed") (names_data i.extensions_used.now)
    (put (codes "generator") (text_data (option_map (λ s. s.now) i.generator))
    (put (codes "minVersion") (text_data (option_map (λ s. s.now) i.min_version))
    (put (codes "version") (string i.version.now) ms))))

abbrev pub with_contents : Contents → Members → Members
with_contents i ms = put (codes "hasTextures") (boolean i.has_textures)
    (put (codes "hasSkins") (boolean i.has_skins)
    (put (codes "hasDefaultScene") (boolean i.has_default_scene)
    (put (codes "materialCount") (number (unsigned i.materials))
    (put (codes "animationCount") (number (unsigned i.animations)) ms))))

abbrev pub with_geometry : Geometry → Members → Members
with_geometry g ms = put (codes "hasMorphTargets") (boolean g.has_morph_targets)
    (put (codes "maxInfluences") (number (unsigned g.influences))
    (put (codes "maxUVs") (number (unsigned g.tex_coords))
    (put (codes "maxAttributes") (number (unsigned g.attributes))
    (put (codes "totalTriangleCount") (number (unsigned g.triangles))
    (put (codes "totalVertexCount") (number (unsigned g.vertices))
    (put (codes "drawCallCount") (number (unsigned g.draw_calls)) ms))))))
