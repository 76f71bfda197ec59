-- The formats that accessors may have for what they are used for (glTF 2.0, sections 3.7.2, 3.7.3.1, 3.11, 5.8, 5.24 and 5.28).
use Rattle.std.specs.Prelude.{◌≡◌, ◌⊎◌, true, false}
use Rattle.gltf_base.specs.declared.accessor.ComponentType.{ComponentType}
use Rattle.gltf_base.specs.declared.accessor.ComponentType.TheVariants.{I8, U8, I16, U16, U32, F32}
use Rattle.gltf_base.specs.declared.accessor.AccessorType.{AccessorType}
use Rattle.gltf_base.specs.declared.accessor.AccessorType.TheVariants.{Scalar, Vec2, Vec3, Vec4, Mat4}
use Rattle.gltf_base.specs.declared.animation.Property.{Property}
use Rattle.gltf_base.specs.declared.animation.Property.TheVariants as property
use Rattle.gltf_accessors.specs.declared.format.Format.{Format}
use Rattle.gltf_accessors.specs.declared.format.Usage.{Usage}
use Rattle.gltf_accessors.specs.declared.format.Usage.TheVariants.{Positions, Normals, Tangents, TexCoords, Colors, Joints, Weights, Displacements, Indices, InverseBindMatrices, Inputs, Translations, Rotations, Scales, MorphWeights}

-- components are the numbers as which they are stored
abbrev pub number : AccessorType → ComponentType → Format
number t c = record { type_ = t; component_type = c; normalized = false }

-- components are normalized integers (section 5.1.4)
abbrev pub fraction : AccessorType → ComponentType → Format
fraction t c = record { type_ = t; component_type = c; normalized = true }

-- "float, unsigned byte normalized, unsigned short normalized"
abbrev pub IsFloatOrUnsigned : AccessorType → Format → Type 0
IsFloatOrUnsigned t f = (f ≡ number t F32) ⊎ (f ≡ fraction t U8) ⊎ (f ≡ fraction t U16)

-- "float, signed byte normalized, unsigned byte normalized, signed short normalized, unsigned short normalized"
abbrev pub IsFloatOrInteger : AccessorType → Format → Type 0
IsFloatOrInteger t f = IsFloatOrUnsigned t f ⊎ (f ≡ fraction t I8) ⊎ (f ≡ fraction t I16)

-- the tables of sections 3.7.2.1 and 3.11, and what sections 3.7.2.2, 5.8.1, 5.24.2 and 5.28.1 say
abbrev pub Allows : Usage → Format → Type 0
Allows Positions f = f ≡ number Vec3 F32
Allows Normals f = f ≡ number Vec3 F32
Allows Tangents f = f ≡ number Vec4 F32
Allows TexCoords f = IsFloatOrUnsigned Vec2 f
Allows Colors f = IsFloatOrUnsigned Vec3 f ⊎ IsFloatOrUnsigned Vec4 f
Allows Joints f = (f ≡ number Vec4 U8) ⊎ (f ≡ number Vec4 U16)
Allows Weights f = IsFloatOrUnsigned Vec4 f
Allows Displacements f = f ≡ number Vec3 F32
Allows Indices f = (f ≡ number Scalar U8) ⊎ (f ≡ number Scalar U16) ⊎ (f ≡ number Scalar U32)
Allows InverseBindMatrices f = f ≡ number Mat4 F32
Allows Inputs f = f ≡ number Scalar F32
Allows Translations f = f ≡ number Vec3 F32
Allows Rotations f = IsFloatOrInteger Vec4 f
Allows Scales f = f ≡ number Vec3 F32
Allows MorphWeights f = IsFloatOrInteger Scalar f

-- what the values at keyframes are used for, by the property that they animate
abbrev pub usage_of : Property → Usage
usage_of property.Translation = Translations
usage_of property.Rotation = Rotations
usage_of property.Scale = Scales
usage_of property.MorphTargetWeights = MorphWeights
