-- Vectors of floats, colors, joints and indices, by how they are stored (glTF 2.0, sections 3.6.2.2, 3.7.2.1 and 5.24.2).
use Rattle.std.specs.Prelude.{◌≡◌, ℕ, ℤ, pos, ◌<◌, List, [], ◌∷◌, ◌++◌, Bool, slice_index}
use Rattle.std.specs.Float.{Float, float_zero, binary32}
use lib.Ieee.{of_int}
use Rattle.gltf_base.specs.declared.accessor.AccessorType.TheVariants.{Vec3, Vec4}
use Rattle.gltf_base.specs.declared.accessor.ComponentType.{ComponentType}
use Rattle.gltf_base.specs.declared.accessor.ComponentType.TheVariants as component
use Rattle.gltf_layout.specs.declared.place.Place.{Place}
use Rattle.gltf_accessors.specs.declared.index_type.IndexType.{IndexType}
use Rattle.gltf_accessors.specs.declared.index_type.IndexType.TheVariants as index
use Rattle.gltf_accessors.specs.declared.fault.VertexFault.{VertexFault}
use Rattle.gltf_accessors.specs.Numbers.{u8_of, i8_of, u16_of, i16_of, u32_of, f32_of}
use Rattle.gltf_accessors.specs.Normalized.{normalized_u8, normalized_i8, normalized_u16, normalized_i16}
use Rattle.gltf_accessors.specs.Indices.{IsVertex}
use Rattle.gltf_accessors.specs.declared.vectors.Vectors.{Vectors}
use Rattle.gltf_accessors.specs.declared.vectors.Vectors.TheVariants.{F32, I8, U8, I16, U16}
use Rattle.gltf_accessors.specs.declared.attributes.Colors.{Colors}
use Rattle.gltf_accessors.specs.declared.attributes.Colors.TheVariants.{Rgb, Rgba}
use Rattle.gltf_accessors.specs.declared.attributes.Joints.{Joints}
use Rattle.gltf_accessors.specs.declared.attributes.Joints.TheVariants as joints
use Rattle.gltf_accessors.specs.declared.primitive_indices.PrimitiveIndices.{PrimitiveIndices}
use Rattle.gltf_accessors.specs.declared.primitive_indices.PrimitiveIndices.TheVariants as indices
use Rattle.gltf_accessors.specs.Values.{AreEach, IsElement}

abbrev pub vectors_len : {N : ℕ} → Vectors N → ℕ
vectors_len (F32 a) = a.count
vectors_len (I8 a) = a.count
vectors_len (U8 a) = a.count
vectors_len (I16 a) = a.count
vectors_len (U16 a) = a.count

-- element i: floats as they are stored, or those that normalized integers stand for
abbrev pub AreFloats : {N : ℕ} → Vectors N → ℕ → List Float → Type 0
AreFloats (F32 a) i xs = IsElement f32_of 4 float_zero a i xs
AreFloats (I8 a) i xs = (ns : List ℤ) × IsElement i8_of 1 (pos 0) a i ns × AreEach normalized_i8 ns xs
AreFloats (U8 a) i xs = (ns : List ℕ) × IsElement u8_of 1 0 a i ns × AreEach normalized_u8 ns xs
AreFloats (I16 a) i xs = (ns : List ℤ) × IsElement i16_of 2 (pos 0) a i ns × AreEach normalized_i16 ns xs
AreFloats (U16 a) i xs = (ns : List ℕ) × IsElement u16_of 2 0 a i ns × AreEach normalized_u16 ns xs

abbrev pub colors_len : Colors → ℕ
colors_len (Rgb v) = vectors_len v
colors_len (Rgba v) = vectors_len v

-- section 3.9.2: a color without alpha has an alpha of 1
abbrev pub IsColor : Colors → ℕ → List Float → Type 0
IsColor (Rgb v) i xs = (ys : List Float) × AreFloats v i ys × (xs ≡ ys ++ of_int binary32 (pos 1) ∷ [])
IsColor (Rgba v) i xs = AreFloats v i xs

abbrev pub joints_len : Joints → ℕ
joints_len (joints.U8 a) = a.count
joints_len (joints.U16 a) = a.count

abbrev pub AreJoints : Joints → ℕ → List ℕ → Type 0
AreJoints (joints.U8 a) i xs = (ns : List ℕ) × IsElement u8_of 1 0 a i ns × AreEach (λ n. n) ns xs
AreJoints (joints.U16 a) i xs = IsElement u16_of 2 0 a i xs

abbrev pub indices_len : PrimitiveIndices → ℕ
indices_len (indices.U8 a) = a.count
indices_len (indices.U16 a) = a.count
indices_len (indices.U32 a) = a.count

abbrev pub indices_type : PrimitiveIndices → IndexType
indices_type (indices.U8 a) = index.U8
indices_type (indices.U16 a) = index.U16
indices_type (indices.U32 a) = index.U32

abbrev pub IsIndex : PrimitiveIndices → ℕ → ℕ → Type 0
IsIndex (indices.U8 a) i x = (xs : List ℕ) × IsElement u8_of 1 0 a i xs × (x ≡ slice_index xs 0)
IsIndex (indices.U16 a) i x = (xs : List ℕ) × IsElement u16_of 2 0 a i xs × (x ≡ slice_index xs 0)
IsIndex (indices.U32 a) i x = (xs : List ℕ) × IsElement u32_of 4 0 a i xs × (x ≡ slice_index xs 0)

-- an index names a vertex, or restarts a primitive where this is asked
pub record NamesVertex (p : PrimitiveIndices) (restarts : Bool) (vertices i : ℕ) : Type 0 where
  pub index : ℕ
  pub is_index : IsIndex p i index
  pub is_vertex : IsVertex (indices_type p) restarts vertices index

-- each of the first indices does
abbrev pub NameVertices : PrimitiveIndices → Bool → ℕ → ℕ → Type 0
NameVertices p restarts vertices bound = (i : ℕ) → i < bound → NamesVertex p restarts vertices i

-- an index doesn't
abbrev pub NamesNoVertex : PrimitiveIndices → Bool → ℕ → VertexFault → Type 0
NamesNoVertex p restarts vertices f = IsIndex p f.place f.index × (IsVertex (indices_type p) restarts vertices f.index → ⊥)

-- the first one that doesn't
abbrev pub IsVertexFault : PrimitiveIndices → Bool → ℕ → VertexFault → Type 0
IsVertexFault p restarts vertices f = (f.place < indices_len p) × NamesNoVertex p restarts vertices f × NameVertices p restarts vertices f.place
