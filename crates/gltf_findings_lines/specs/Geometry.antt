-- What the meshes of a document hold. Numbers stop at the largest of 64 bits.
use Rattle.std.specs.Prelude.{ℕ, ◌+◌, ◌-◌, ◌*◌, ◌/◌, List, [], ◌∷◌, max, map, length, slice_get, false, ◌||◌, is_some, Option, Some, None}
use Rattle.gltf_base.specs.Keys.{Key, positions, tex_coords, joints}
use Rattle.gltf_base.specs.Indexes.{index_number}
use Rattle.gltf_base.specs.declared.index.IndexTo.{IndexTo}
use Rattle.gltf_base.specs.declared.mesh.Mode.{Mode}
use Rattle.gltf_base.specs.declared.mesh.Mode.TheVariants.{Triangles, TriangleStrip, TriangleFan}
use Rattle.gltf_base.specs.declared.validation.Checked.{Checked}
use Rattle.gltf_base.specs.declared.validation.Checked.TheVariants.{Valid}
use Rattle.gltf_base.specs.Device.{saturated}
use Rattle.gltf_schema.specs.Fields.{entry_of}
use Rattle.gltf_parts.specs.declared.accessor.Accessor.{Accessor}
use Rattle.gltf_scene.specs.declared.mesh.Mesh.{Mesh}
use Rattle.gltf_scene.specs.declared.mesh.Primitive.{Primitive}
use Rattle.gltf_findings_lines.specs.declared.geometry.Geometry.{Geometry}
use Rattle.gltf_findings_lines.specs.declared.geometry.Sets.{Sets}

-- the attributes of a primitive: keys, and numbers of accessors
abbrev pub with_attribute : Key → ℕ → Sets → Sets
with_attribute positions n s = record s { positions = Some n }
with_attribute (tex_coords set) n s = record s { tex_coords = saturated (s.tex_coords + 1) }
with_attribute (joints set) n s = record s { joints = saturated (s.joints + 1) }
with_attribute _ n s = s

abbrev pub sets_from : Sets → List (Key × ℕ) → Sets
sets_from s [] = s
sets_from s (e ∷ es) = sets_from (with_attribute e.0 e.1 s) es

abbrev pub sets_of : Primitive → Sets
sets_of p = sets_from (record { positions = None; tex_coords = 0; joints = 0 }) (map entry_of p.attributes.entries)

abbrev pub element_count : Option Accessor → ℕ
element_count None = 0
element_count (Some a) = a.count.0

-- the elements of the accessor with a number
abbrev pub count_at : List Accessor → ℕ → ℕ
count_at accessors n = element_count (slice_get accessors n)

abbrev pub count_if : List Accessor → Option ℕ → ℕ
count_if accessors None = 0
count_if accessors (Some n) = count_at accessors n

-- the vertices that make triangles: those that the indices name, or all
abbrev pub corner_count : {P : Type 0} → List Accessor → Option (IndexTo P) → ℕ → ℕ
corner_count accessors None vertices = vertices
corner_count accessors (Some index) vertices = count_at accessors (index_number index)

-- section 3.7.2.1: how many triangles so many vertices make
abbrev pub triangle_count : Checked Mode → ℕ → ℕ
triangle_count (Valid Triangles) n = n / 3
triangle_count (Valid TriangleStrip) n = n - 2
triangle_count (Valid TriangleFan) n = n - 2
triangle_count _ n = 0

abbrev pub with_sets : List Accessor → Geometry → Primitive → Sets → Geometry
with_sets accessors g p s = let vertices = count_if accessors s.positions in record {
  draw_calls = saturated (g.draw_calls + 1);
  vertices = saturated (g.vertices + vertices);
  triangles = saturated (g.triangles + triangle_count p.mode (corner_count accessors p.indices vertices));
  attributes = max g.attributes (length p.attributes.entries);
  tex_coords = max g.tex_coords s.tex_coords;
  influences = max g.influences (saturated (s.joints * 4));
  has_morph_targets = g.has_morph_targets || is_some p.targets;
}

abbrev pub with_primitive : List Accessor → Geometry → Primitive → Geometry
with_primitive accessors g p = with_sets accessors g p (sets_of p)

abbrev pub with_primitives : List Accessor → Geometry → List Primitive → Geometry
with_primitives accessors g [] = g
with_primitives accessors g (p ∷ ps) = with_primitives accessors (with_primitive accessors g p) ps

abbrev pub with_meshes : List Accessor → Geometry → List Mesh → Geometry
with_meshes accessors g [] = g
with_meshes accessors g (m ∷ ms) = with_meshes accessors (with_primitives accessors g m.primitives.items) ms

abbrev pub no_geometry : Geometry
no_geometry = record { draw_calls = 0; vertices = 0; triangles = 0; attributes = 0; tex_coords = 0; influences = 0; has_morph_targets = false }

abbrev pub geometry_of : List Accessor → List Mesh → Geometry
geometry_of accessors ms = with_meshes accessors no_geometry ms
