-- Reading of accessors for what they are used for: their formats are allowed, and their elements are those of their place.
use Rattle.std.specs.Prelude.{◌≡◌, ◌≢◌, ◌⊎◌, ℕ, List, Bool, Option, Result, Ok, Err}
use Rattle.gltf_base.specs.declared.accessor.AccessorType.TheVariants.{Vec3}
use Rattle.gltf_base.specs.declared.accessor.ComponentType.{ComponentType}
use Rattle.gltf_base.specs.declared.accessor.ComponentType.TheVariants as component
use Rattle.gltf_base.specs.declared.animation.Property.{Property}
use Rattle.gltf_base.specs.declared.animation.Property.TheVariants as property
use Rattle.gltf_layout.specs.declared.place.Place.{Place}
use Rattle.gltf_buffers.specs.Buffered.{bytes_at}
use Rattle.gltf_accessors.specs.Numbers.{is_finite, is_any}
use Rattle.gltf_accessors.specs.declared.data.AccessorData.{AccessorData}
use Rattle.gltf_accessors.specs.declared.vectors.Vectors.{Vectors}
use Rattle.gltf_accessors.specs.declared.vectors.Vectors.TheVariants.{F32, I8, U8, I16, U16}
use Rattle.gltf_accessors.specs.declared.attributes.Colors.{Colors}
use Rattle.gltf_accessors.specs.declared.attributes.Colors.TheVariants.{Rgb, Rgba}
use Rattle.gltf_accessors.specs.declared.attributes.Joints.{Joints}
use Rattle.gltf_accessors.specs.declared.attributes.Joints.TheVariants as joints
use Rattle.gltf_accessors.specs.declared.primitive_indices.PrimitiveIndices.{PrimitiveIndices}
use Rattle.gltf_accessors.specs.declared.primitive_indices.PrimitiveIndices.TheVariants as indices
use Rattle.gltf_accessors.specs.declared.outputs.Outputs.{Outputs}
use Rattle.gltf_accessors.specs.declared.outputs.Outputs.TheVariants as outputs
use Rattle.gltf_accessors.specs.declared.format.Format.{Format}
use Rattle.gltf_accessors.specs.declared.format.FormatFault.{FormatFault}
use Rattle.gltf_accessors.specs.declared.format.Usage.{Usage}
use Rattle.gltf_accessors.specs.declared.fault.AccessorDataFault.{AccessorDataFault}
use Rattle.gltf_accessors.specs.declared.fault.AccessFault.{AccessFault}
use Rattle.gltf_accessors.specs.declared.fault.AccessFault.TheVariants.{Format as BadFormat, Data as BadData}
use Rattle.gltf_accessors.specs.Formats.{Allows}
use Rattle.gltf_accessors.specs.Data.{format_of, IsAccessorAt, IsDataFault}

-- a format that a usage doesn't allow
abbrev pub IsFormatFault : Usage → Format → FormatFault → Type 0
IsFormatFault u f e = (e.usage ≡ u) × (e.found ≡ f) × (Allows u f → ⊥)

-- how reading for a usage ends: the usage allows the format and `is` or `fails` holds, or the fault names both
abbrev pub Reads : {X : Type 0} → Usage → Format → (X → Type 0) → (AccessorDataFault → Type 0) → Result X AccessFault → Type 0
Reads u f is fails (Ok x) = Allows u f × is x
Reads u f is fails (Err (BadFormat e)) = IsFormatFault u f e
Reads u f is fails (Err (BadData e)) = Allows u f × fails e

-- the same for the data of an accessor: both are said of the bytes of each buffer and the place
abbrev pub ReadsData : {X : Type 0} → Usage → ((ℕ → Option (List ℕ)) → Place → X → Type 0) → ((ℕ → Option (List ℕ)) → Place → AccessorDataFault → Type 0) → AccessorData → Result X AccessFault → Type 0
ReadsData u is fails d r = Reads u (format_of d.place.now d.normalized) (is (bytes_at d.buffers.now) d.place.now) (fails (bytes_at d.buffers.now) d.place.now) r

-- why an accessor of n floats can't be read
abbrev pub IsFloatsFault : ℕ → (ℕ → Option (List ℕ)) → Place → AccessorDataFault → Type 0
IsFloatsFault n at p f = IsDataFault is_finite 4 n at p f

-- what vectors of 16 bits are read from: no usage of vectors allows the second
abbrev pub IsShort : ComponentType → Type 0
IsShort component.U16 = Unit {0}
IsShort component.U32 = Unit {0}
IsShort c = ⊥

-- vectors that lie at a place, by the type of their components
abbrev pub IsVectorsAt : {N : ℕ} → (ℕ → Option (List ℕ)) → Place → Vectors N → Type 0
IsVectorsAt at p (F32 a) = (p.component_type ≡ component.F32) × IsAccessorAt at p a
IsVectorsAt at p (I8 a) = (p.component_type ≡ component.I8) × IsAccessorAt at p a
IsVectorsAt at p (U8 a) = (p.component_type ≡ component.U8) × IsAccessorAt at p a
IsVectorsAt at p (I16 a) = (p.component_type ≡ component.I16) × IsAccessorAt at p a
IsVectorsAt at p (U16 a) = IsShort p.component_type × IsAccessorAt at p a

-- why vectors of n components can't be read
abbrev pub vectors_fault : ComponentType → ℕ → (ℕ → Option (List ℕ)) → Place → AccessorDataFault → Type 0
vectors_fault component.F32 n at p f = IsDataFault is_finite 4 n at p f
vectors_fault component.I8 n at p f = IsDataFault is_any 1 n at p f
vectors_fault component.U8 n at p f = IsDataFault is_any 1 n at p f
vectors_fault component.I16 n at p f = IsDataFault is_any 2 n at p f
vectors_fault c n at p f = IsDataFault is_any 2 n at p f

abbrev pub IsVectorsFault : ℕ → (ℕ → Option (List ℕ)) → Place → AccessorDataFault → Type 0
IsVectorsFault n at p f = vectors_fault p.component_type n at p f

-- colors that lie at a place
abbrev pub IsColorsAt : (ℕ → Option (List ℕ)) → Place → Colors → Type 0
IsColorsAt at p (Rgb v) = (p.type_ ≡ Vec3) × IsVectorsAt at p v
IsColorsAt at p (Rgba v) = (p.type_ ≢ Vec3) × IsVectorsAt at p v

abbrev pub IsColorsFault : (ℕ → Option (List ℕ)) → Place → AccessorDataFault → Type 0
IsColorsFault at p f = ((p.type_ ≡ Vec3) × IsVectorsFault 3 at p f) ⊎ ((p.type_ ≢ Vec3) × IsVectorsFault 4 at p f)

-- joints that lie at a place
abbrev pub IsJointsAt : (ℕ → Option (List ℕ)) → Place → Joints → Type 0
IsJointsAt at p (joints.U8 a) = (p.component_type ≡ component.U8) × IsAccessorAt at p a
IsJointsAt at p (joints.U16 a) = (p.component_type ≢ component.U8) × IsAccessorAt at p a

abbrev pub IsJointsFault : (ℕ → Option (List ℕ)) → Place → AccessorDataFault → Type 0
IsJointsFault at p f = ((p.component_type ≡ component.U8) × IsDataFault is_any 1 4 at p f) ⊎ ((p.component_type ≢ component.U8) × IsDataFault is_any 2 4 at p f)

-- indices that lie at a place
abbrev pub IsIndicesAt : (ℕ → Option (List ℕ)) → Place → PrimitiveIndices → Type 0
IsIndicesAt at p (indices.U8 a) = (p.component_type ≡ component.U8) × IsAccessorAt at p a
IsIndicesAt at p (indices.U16 a) = (p.component_type ≡ component.U16) × IsAccessorAt at p a
IsIndicesAt at p (indices.U32 a) = (p.component_type ≢ component.U8) × (p.component_type ≢ component.U16) × IsAccessorAt at p a

-- why indices of that type can't be read
abbrev pub indices_fault : ComponentType → (ℕ → Option (List ℕ)) → Place → AccessorDataFault → Type 0
indices_fault component.U8 at p f = IsDataFault is_any 1 1 at p f
indices_fault component.U16 at p f = IsDataFault is_any 2 1 at p f
indices_fault c at p f = IsDataFault is_any 4 1 at p f

abbrev pub IsPrimitiveIndicesFault : (ℕ → Option (List ℕ)) → Place → AccessorDataFault → Type 0
IsPrimitiveIndicesFault at p f = indices_fault p.component_type at p f

-- values of a property that lie at a place
abbrev pub IsOutputsAt : Property → (ℕ → Option (List ℕ)) → Place → Outputs → Type 0
IsOutputsAt property.Translation at p (outputs.Translations a) = IsAccessorAt at p a
IsOutputsAt property.Rotation at p (outputs.Rotations v) = IsVectorsAt at p v
IsOutputsAt property.Scale at p (outputs.Scales a) = IsAccessorAt at p a
IsOutputsAt property.MorphTargetWeights at p (outputs.MorphWeights v) = IsVectorsAt at p v
IsOutputsAt q at p o = ⊥

abbrev pub IsOutputsFault : Property → (ℕ → Option (List ℕ)) → Place → AccessorDataFault → Type 0
IsOutputsFault property.Translation at p f = IsFloatsFault 3 at p f
IsOutputsFault property.Rotation at p f = IsVectorsFault 4 at p f
IsOutputsFault property.Scale at p f = IsFloatsFault 3 at p f
IsOutputsFault property.MorphTargetWeights at p f = IsVectorsFault 1 at p f
