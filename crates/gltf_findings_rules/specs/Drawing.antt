-- What a primitive needs to be drawn (glTF 2.0, sections 3.7.2.1 and 5.20).
use Rattle.std.specs.Prelude.{ℕ, ◌%◌, ◌==◌, List, [], ◌∷◌, Bool, true, false, not, ◌&&◌, ◌||◌, nat_le, slice_get, is_some, is_none, if◌then◌else◌, Option, Some, None}
use Rattle.std.specs.Map.{lookup}
use Rattle.gltf_base.specs.declared.validation.Checked.{Checked}
use Rattle.gltf_base.specs.declared.validation.Checked.TheVariants.{Valid, Invalid}
use Rattle.gltf_base.specs.declared.index.IndexTo.{IndexTo}
use Rattle.gltf_base.specs.declared.mesh.Mode.{Mode as Topology}
use Rattle.gltf_base.specs.declared.mesh.Mode.TheVariants.{Points, Lines, LineLoop, LineStrip, Triangles, TriangleStrip, TriangleFan}
use Rattle.gltf_base.specs.Indexes.{index_number}
use Rattle.gltf_base.specs.Keys.{Key, key_eq, positions, normals, tangents, tex_coords}
use Rattle.gltf_parts.specs.declared.accessor.Accessor.{Accessor}
use Rattle.gltf_parts.specs.declared.material.Material.{Material as Surface}
use Rattle.gltf_parts.specs.declared.material.NormalTexture.{NormalTexture}
use Rattle.gltf_parts.specs.declared.material.OcclusionTexture.{OcclusionTexture}
use Rattle.gltf_parts.specs.declared.texture.Info.{Info}
use Rattle.gltf_scene.specs.declared.mesh.Primitive.{Primitive}
use Rattle.gltf_findings_codes.specs.Attributes.{attributes_in}
use Rattle.gltf_findings_codes.specs.declared.attribute.Attribute.TheVariants.{Tangents}
use Rattle.gltf_findings_codes.specs.declared.code.Code.TheVariants.{MeshPrimitiveNoPosition, MeshPrimitiveIncompatibleMode, MeshPrimitiveTangentWithoutNormal, MeshPrimitiveTangentPoints, UnusedMeshTangent, MeshPrimitiveTooFewTexcoords, MeshPrimitiveGeneratedTangentSpace}
use Rattle.gltf_findings_codes.specs.declared.name.Name.TheVariants.{Meshes, Primitives, Material}
use Rattle.gltf_findings_codes.specs.declared.finding.Object.TheVariants.{Nested}
use Rattle.gltf_findings_codes.specs.declared.finding.Subject.TheVariants.{Object, Member, Attribute}
use Rattle.gltf_findings_codes.specs.declared.finding.Finding.{Finding}
use Rattle.gltf_findings_codes.specs.Found.{broken}
use Rattle.gltf_findings_rules.specs.Attributes.{attributes_at}
use Rattle.gltf_findings_rules.specs.Counts.{count_at}

abbrev pub has_attribute : Key → List (Key × ℕ) → Bool
has_attribute x es = is_some (lookup (key_eq x) es)

abbrev pub drawn_count_of : {P : Type 0} → List Accessor → Option (IndexTo P) → Option ℕ → Option ℕ
drawn_count_of accessors (Some i) positions_at = count_at accessors (Some (index_number i))
drawn_count_of accessors None positions_at = count_at accessors positions_at

-- how many indices are drawn, or else vertices
abbrev pub drawn_count : List Accessor → Primitive → Option ℕ
drawn_count accessors p = drawn_count_of accessors p.indices (lookup (key_eq positions) (attributes_in p.attributes))

-- section 3.7.2.1: points are vertices, lines are pairs, triangles are triples; a strip, a loop and a fan go on with each vertex
abbrev pub fits_mode : Topology → ℕ → Bool
fits_mode Points count = nat_le 1 count
fits_mode Lines count = nat_le 2 count && count % 2 == 0
fits_mode LineLoop count = nat_le 2 count
fits_mode LineStrip count = nat_le 2 count
fits_mode Triangles count = nat_le 3 count && count % 3 == 0
fits_mode TriangleStrip count = nat_le 3 count
fits_mode TriangleFan count = nat_le 3 count

abbrev pub does_not_fit : Checked Topology → Option ℕ → Bool
does_not_fit (Valid mode) (Some count) = not (fits_mode mode count)
does_not_fit _ _ = false

abbrev pub is_points : Checked Topology → Bool
is_points (Valid Points) = true
is_points _ = false

-- the set of a texture, unless an extension may name another one
abbrev pub set_unless : Bool → ℕ → Option ℕ
set_unless is_plain set = if is_plain then Some set else None

abbrev pub info_set : Option Info → Option ℕ
info_set None = None
info_set (Some i) = set_unless (is_none i.extensions) i.tex_coord

abbrev pub normal_set : Option NormalTexture → Option ℕ
normal_set None = None
normal_set (Some i) = set_unless (is_none i.extensions) i.tex_coord

abbrev pub occlusion_set : Option OcclusionTexture → Option ℕ
occlusion_set None = None
occlusion_set (Some i) = set_unless (is_none i.extensions) i.tex_coord

abbrev pub lacks_set : List (Key × ℕ) → Option ℕ → Bool
lacks_set es None = false
lacks_set es (Some set) = not (has_attribute (tex_coords set) es)

abbrev pub lacks_in_material : List (Key × ℕ) → Surface → Bool
lacks_in_material es m = (((lacks_set es (info_set m.pbr_metallic_roughness.base_color_texture) || lacks_set es (info_set m.pbr_metallic_roughness.metallic_roughness_texture)) || lacks_set es (info_set m.emissive_texture)) || lacks_set es (normal_set m.normal_texture)) || lacks_set es (occlusion_set m.occlusion_texture)

abbrev pub lacks_in_named : List (Key × ℕ) → Option Surface → Bool
lacks_in_named es None = false
lacks_in_named es (Some m) = lacks_in_material es m

abbrev pub lacks_by : {P : Type 0} → List Surface → List (Key × ℕ) → Option (IndexTo P) → Bool
lacks_by materials es None = false
lacks_by materials es (Some i) = lacks_in_named es (slice_get materials (index_number i))

-- section 5.20.2: "A mesh primitive MUST have the corresponding texture coordinate attributes for the material to be applicable to it"
abbrev pub lacks_tex_coords : List Surface → Primitive → Bool
lacks_tex_coords materials p = lacks_by materials (attributes_in p.attributes) p.material

abbrev pub has_normals_in : Option Surface → Bool
has_normals_in None = false
has_normals_in (Some m) = is_some m.normal_texture

-- section 3.9.3: the normals of a texture are in tangent space
abbrev pub has_normal_texture : {P : Type 0} → List Surface → Option (IndexTo P) → Bool
has_normal_texture materials None = false
has_normal_texture materials (Some i) = has_normals_in (slice_get materials (index_number i))

abbrev pub is_plain_in : Option Surface → Bool
is_plain_in None = false
is_plain_in (Some m) = is_none m.normal_texture && is_none m.extensions

-- no texture is in tangent space: an extension may have one that is
abbrev pub is_plain : {P : Type 0} → List Surface → Option (IndexTo P) → Bool
is_plain materials None = true
is_plain materials (Some i) = is_plain_in (slice_get materials (index_number i))

abbrev pub drawing_rules : List Accessor → List Surface → ℕ → ℕ → Primitive → List (Option Finding)
drawing_rules accessors materials n k p =
    broken (not (has_attribute positions (attributes_in p.attributes))) MeshPrimitiveNoPosition (Object (attributes_at n k))
    ∷ broken (does_not_fit p.mode (drawn_count accessors p)) MeshPrimitiveIncompatibleMode (Object (Nested Meshes n Primitives k))
    ∷ broken (has_attribute tangents (attributes_in p.attributes) && not (has_attribute normals (attributes_in p.attributes))) MeshPrimitiveTangentWithoutNormal (Attribute (attributes_at n k) Tangents)
    ∷ broken (has_attribute tangents (attributes_in p.attributes) && is_points p.mode) MeshPrimitiveTangentPoints (Attribute (attributes_at n k) Tangents)
    -- tangents are for the normal texture of a material; an extension may name a material
    ∷ broken ((has_attribute tangents (attributes_in p.attributes) && is_plain materials p.material) && is_none p.extensions) UnusedMeshTangent (Attribute (attributes_at n k) Tangents)
    ∷ broken (lacks_tex_coords materials p) MeshPrimitiveTooFewTexcoords (Member (Nested Meshes n Primitives k) Material)
    -- "When tangents are not specified, client implementations SHOULD calculate tangents"
    ∷ broken (not (has_attribute tangents (attributes_in p.attributes)) && has_normal_texture materials p.material) MeshPrimitiveGeneratedTangentSpace (Member (Nested Meshes n Primitives k) Material)
    ∷ []
