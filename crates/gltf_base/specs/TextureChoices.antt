-- How a document spells the choices of textures, and which items are read.
use Rattle.std.specs.Prelude.{List, [], ◌∷◌}
use Rattle.gltf_base.specs.Spelling.{Spelling, by_number}
use Rattle.gltf_base.specs.declared.texture.MagFilter.{MagFilter}
use Rattle.gltf_base.specs.declared.texture.MagFilter.TheVariants as mag_filter
use Rattle.gltf_base.specs.declared.texture.MinFilter.{MinFilter}
use Rattle.gltf_base.specs.declared.texture.MinFilter.TheVariants as min_filter
use Rattle.gltf_base.specs.declared.texture.WrappingMode.{WrappingMode}
use Rattle.gltf_base.specs.declared.texture.WrappingMode.TheVariants as wrapping_mode

-- glTF 2.0, section 5.26.1: sampler.magFilter
abbrev pub mag_filter_spelling : MagFilter → Spelling
mag_filter_spelling mag_filter.Nearest = by_number 9728
mag_filter_spelling mag_filter.Linear = by_number 9729

abbrev pub mag_filters : List MagFilter
mag_filters = mag_filter.Nearest ∷ mag_filter.Linear ∷ []

-- glTF 2.0, section 5.26.2: sampler.minFilter
abbrev pub min_filter_spelling : MinFilter → Spelling
min_filter_spelling min_filter.Nearest = by_number 9728
min_filter_spelling min_filter.Linear = by_number 9729
min_filter_spelling min_filter.NearestMipmapNearest = by_number 9984
min_filter_spelling min_filter.LinearMipmapNearest = by_number 9985
min_filter_spelling min_filter.NearestMipmapLinear = by_number 9986
min_filter_spelling min_filter.LinearMipmapLinear = by_number 9987

abbrev pub min_filters : List MinFilter
min_filters =
    min_filter.Nearest ∷ min_filter.Linear ∷ min_filter.NearestMipmapNearest ∷
    min_filter.LinearMipmapNearest ∷ min_filter.NearestMipmapLinear ∷
    min_filter.LinearMipmapLinear ∷ []

-- glTF 2.0, sections 5.26.3 and 5.26.4: sampler.wrapS, sampler.wrapT
abbrev pub wrapping_mode_spelling : WrappingMode → Spelling
wrapping_mode_spelling wrapping_mode.ClampToEdge = by_number 33071
wrapping_mode_spelling wrapping_mode.MirroredRepeat = by_number 33648
wrapping_mode_spelling wrapping_mode.Repeat = by_number 10497

abbrev pub wrapping_modes : List WrappingMode
wrapping_modes =
    wrapping_mode.ClampToEdge ∷ wrapping_mode.MirroredRepeat ∷ wrapping_mode.Repeat ∷ []
