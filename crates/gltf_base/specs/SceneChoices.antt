-- How a document spells the choices of animations, cameras, lights and materials, and which items
-- are read.
use Rattle.std.specs.Prelude.{List, [], ◌∷◌, codes}
use Rattle.gltf_base.specs.Spelling.{Spelling, by_name}
use Rattle.gltf_base.specs.declared.animation.Interpolation.{Interpolation}
use Rattle.gltf_base.specs.declared.animation.Interpolation.TheVariants as interpolation
use Rattle.gltf_base.specs.declared.animation.Property.{Property}
use Rattle.gltf_base.specs.declared.animation.Property.TheVariants as property
use Rattle.gltf_base.specs.declared.camera.CameraType.{CameraType}
use Rattle.gltf_base.specs.declared.camera.CameraType.TheVariants as camera_type
use Rattle.gltf_base.specs.declared.extensions.scene.khr_lights_punctual.LightType.{LightType}
use Rattle.gltf_base.specs.declared.extensions.scene.khr_lights_punctual.LightType.TheVariants as light_type
use Rattle.gltf_base.specs.declared.material.AlphaMode.{AlphaMode}
use Rattle.gltf_base.specs.declared.material.AlphaMode.TheVariants as alpha_mode

-- glTF 2.0, section 5.8.2: animation.sampler.interpolation
abbrev pub interpolation_spelling : Interpolation → Spelling
interpolation_spelling interpolation.Linear = by_name (codes "LINEAR")
interpolation_spelling interpolation.Step = by_name (codes "STEP")
interpolation_spelling interpolation.CubicSpline = by_name (codes "CUBICSPLINE")

abbrev pub interpolations : List Interpolation
interpolations = interpolation.Linear ∷ interpolation.Step ∷ interpolation.CubicSpline ∷ []

-- glTF 2.0, section 5.7.2: animation.channel.target.path
abbrev pub property_spelling : Property → Spelling
property_spelling property.Translation = by_name (codes "translation")
property_spelling property.Rotation = by_name (codes "rotation")
property_spelling property.Scale = by_name (codes "scale")
property_spelling property.MorphTargetWeights = by_name (codes "weights")

abbrev pub properties : List Property
properties =
    property.Translation ∷ property.Rotation ∷ property.Scale ∷ property.MorphTargetWeights ∷ []

-- glTF 2.0, section 5.12.3: camera.type
abbrev pub camera_type_spelling : CameraType → Spelling
camera_type_spelling camera_type.Perspective = by_name (codes "perspective")
camera_type_spelling camera_type.Orthographic = by_name (codes "orthographic")

abbrev pub camera_types : List CameraType
camera_types = camera_type.Perspective ∷ camera_type.Orthographic ∷ []

-- KHR_lights_punctual: light.type
abbrev pub light_type_spelling : LightType → Spelling
light_type_spelling light_type.Directional = by_name (codes "directional")
light_type_spelling light_type.Point = by_name (codes "point")
light_type_spelling light_type.Spot = by_name (codes "spot")

abbrev pub light_types : List LightType
light_types = light_type.Directional ∷ light_type.Point ∷ light_type.Spot ∷ []

-- glTF 2.0, section 5.19.9: material.alphaMode
abbrev pub alpha_mode_spelling : AlphaMode → Spelling
alpha_mode_spelling alpha_mode.Opaque = by_name (codes "OPAQUE")
alpha_mode_spelling alpha_mode.Mask = by_name (codes "MASK")
alpha_mode_spelling alpha_mode.Blend = by_name (codes "BLEND")

abbrev pub alpha_modes : List AlphaMode
alpha_modes = alpha_mode.Opaque ∷ alpha_mode.Mask ∷ alpha_mode.Blend ∷ []
