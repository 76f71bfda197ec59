-- Indices, and the vertices that they name (glTF 2.0, sections 3.7.2.1 and 5.24.2).
use Rattle.std.specs.Prelude.{◌≡◌, ℕ, ◌<◌, ◌⊎◌, List, Bool, true}
use Rattle.gltf_base.specs.declared.accessor.ComponentType.{ComponentType}
use Rattle.gltf_base.specs.declared.accessor.ComponentType.TheVariants as component
use Rattle.gltf_layout.specs.declared.span.Span.{Span}
use Rattle.gltf_accessors.specs.declared.index_type.IndexType.{IndexType}
use Rattle.gltf_accessors.specs.declared.index_type.IndexType.TheVariants.{U8, U16, U32}
use Rattle.gltf_accessors.specs.declared.fault.IndicesFault.{IndicesFault}
use Rattle.gltf_accessors.specs.declared.fault.IndicesFault.TheVariants.{NoIndexType, Size}
use Rattle.gltf_accessors.specs.declared.fault.VertexFault.{VertexFault}
use Rattle.gltf_accessors.specs.Numbers.{u8_of, u16_of, u32_of}
use Rattle.gltf_accessors.specs.Elements.{element_at}

-- how many bytes an index has
abbrev pub index_size : IndexType → ℕ
index_size U8 = 1
index_size U16 = 2
index_size U32 = 4

-- the unsigned integer that bytes stand for
abbrev pub index_of : IndexType → List ℕ → ℕ
index_of U8 bytes = u8_of bytes
index_of U16 bytes = u16_of bytes
index_of U32 bytes = u32_of bytes

abbrev pub index_at : IndexType → List ℕ → Span → ℕ → ℕ
index_at t bytes s i = index_of t (element_at bytes s i)

-- "the maximum possible value for the component type used", which may restart a primitive
abbrev pub restart_of : IndexType → ℕ
restart_of U8 = 255
restart_of U16 = 65535
restart_of U32 = 4294967295

-- an index names one of so many vertices, or restarts a primitive where this is asked
abbrev pub IsVertex : IndexType → Bool → ℕ → ℕ → Type 0
IsVertex t restarts vertices index = (index < vertices) ⊎ ((restarts ≡ true) × (index ≡ restart_of t))

-- each index does
abbrev pub AreVertices : IndexType → List ℕ → Span → Bool → ℕ → Type 0
AreVertices t bytes s restarts vertices = (i : ℕ) → i < s.count → IsVertex t restarts vertices (index_at t bytes s i)

-- those of the first elements
abbrev pub AreVerticesBelow : IndexType → List ℕ → Span → Bool → ℕ → ℕ → Type 0
AreVerticesBelow t bytes s restarts vertices bound = (i : ℕ) → i < bound → IsVertex t restarts vertices (index_at t bytes s i)

-- section 5.3.3: indices are unsigned integers
abbrev pub IsIndexType : ComponentType → IndexType → Type 0
IsIndexType component.U8 t = t ≡ U8
IsIndexType component.U16 t = t ≡ U16
IsIndexType component.U32 t = t ≡ U32
IsIndexType c t = ⊥

-- why elements of so many bytes are no indices
abbrev pub IsIndicesFault : ComponentType → ℕ → IndicesFault → Type 0
IsIndicesFault c size NoIndexType = (t : IndexType) → IsIndexType c t → ⊥
IsIndicesFault c size Size = (t : IndexType) × IsIndexType c t × (size ≡ index_size t → ⊥)

-- the first index that names no vertex
abbrev pub IsVertexFault : IndexType → List ℕ → Span → Bool → ℕ → VertexFault → Type 0
IsVertexFault t bytes s restarts vertices f = (f.place < s.count) × (f.index ≡ index_at t bytes s f.place) × (IsVertex t restarts vertices f.index → ⊥) × AreVerticesBelow t bytes s restarts vertices f.place
