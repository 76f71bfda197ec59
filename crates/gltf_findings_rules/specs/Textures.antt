-- Images, samplers and textures (glTF 2.0, sections 5.18, 5.26 and 5.29).
use Rattle.std.specs.Prelude.{ℕ, List, [], ◌∷◌, Bool, true, false, not, ◌&&◌, ◌||◌, ◌==◌, nat_le, length, slice_get, bytes_eq, codes, string_bytes, is_some, is_none, Option, Some, None}
use Rattle.gltf_base.specs.declared.index.IndexTo.{IndexTo}
use Rattle.gltf_base.specs.Indexes.{index_number}
use Rattle.gltf_parts.specs.declared.buffer.View.{View}
use Rattle.gltf_parts.specs.declared.image.Image.{Image}
use Rattle.gltf_parts.specs.declared.image.MimeType.{MimeType as Media}
use Rattle.gltf_parts.specs.declared.texture.Sampler.{Sampler as TextureSampler}
use Rattle.gltf_parts.specs.declared.texture.Texture.{Texture}
use Rattle.gltf_findings_codes.specs.declared.code.Code.TheVariants.{OneOfMismatch, UnresolvedReference, UnsatisfiedDependency, ValueNotInList, ImageBufferViewWithBytestride, TextureInvalidImageMimeType}
use Rattle.gltf_findings_codes.specs.declared.name.Name.TheVariants.{Images, Samplers, Textures, BufferView, MimeType, MagFilter, MinFilter, WrapS, WrapT, Sampler, Source}
use Rattle.gltf_findings_codes.specs.declared.finding.Object.{Object as Of}
use Rattle.gltf_findings_codes.specs.declared.finding.Object.TheVariants.{Item}
use Rattle.gltf_findings_codes.specs.declared.finding.Subject.TheVariants.{Object, Member}
use Rattle.gltf_findings_codes.specs.declared.finding.Finding.{Finding}
use Rattle.gltf_findings_codes.specs.Found.{broken}
use Rattle.gltf_findings_codes.specs.Formats.{is_strided}
use Rattle.gltf_findings_codes.specs.Rules.{is_invalid, is_some_invalid, is_some_unresolved}

abbrev pub image_at : ℕ → Of
image_at n = Item Images n

-- section 5.18.2: "Allowed values"
abbrev pub is_core_type : List ℕ → Bool
is_core_type name = bytes_eq name (codes "image/png") || bytes_eq name (codes "image/jpeg")

-- those of KHR_texture_basisu, EXT_texture_webp, EXT_texture_avif and MSFT_texture_dds
abbrev pub is_extension_type : List ℕ → Bool
is_extension_type name = ((bytes_eq name (codes "image/ktx2") || bytes_eq name (codes "image/webp")) || bytes_eq name (codes "image/avif")) || bytes_eq name (codes "image/vnd-ms.dds")

abbrev pub is_other_type : Option Media → Bool
is_other_type None = false
is_other_type (Some m) = not (is_core_type (string_bytes m.0))

abbrev pub is_unlisted : Option Media → Bool
is_unlisted None = false
is_unlisted (Some m) = not (is_core_type (string_bytes m.0)) && not (is_extension_type (string_bytes m.0))

abbrev pub names_other_type : Option Image → Bool
names_other_type None = false
names_other_type (Some i) = is_other_type i.mime_type

abbrev pub image_rules : List View → ℕ → Image → List (Option Finding)
image_rules views n i =
    -- section 5.18: an image has either `uri` or `bufferView`
    broken ((is_some i.buffer_view && is_some i.uri) || (not (is_some i.buffer_view) && not (is_some i.uri))) OneOfMismatch (Object (image_at n))
    ∷ broken (is_some_unresolved (length views) i.buffer_view) UnresolvedReference (Member (image_at n) BufferView)
    -- section 5.18.2: `mimeType` "MUST be defined when bufferView is defined"
    ∷ broken (is_some i.buffer_view && is_none i.mime_type) UnsatisfiedDependency (Member (image_at n) BufferView)
    -- section 5.11.4: only views of vertex attributes have a stride
    ∷ broken (is_strided views i.buffer_view) ImageBufferViewWithBytestride (Member (image_at n) BufferView)
    ∷ broken (is_unlisted i.mime_type) ValueNotInList (Member (image_at n) MimeType)
    ∷ []

abbrev pub sampler_rules : ℕ → TextureSampler → List (Option Finding)
sampler_rules n s =
    broken (is_some_invalid s.mag_filter) ValueNotInList (Member (Item Samplers n) MagFilter)
    ∷ broken (is_some_invalid s.min_filter) ValueNotInList (Member (Item Samplers n) MinFilter)
    ∷ broken (is_invalid s.wrap_s) ValueNotInList (Member (Item Samplers n) WrapS)
    ∷ broken (is_invalid s.wrap_t) ValueNotInList (Member (Item Samplers n) WrapT)
    ∷ []

-- 4294967295 stands for no image
abbrev pub is_source_unresolved : {P : Type 0} → ℕ → IndexTo P → Bool
is_source_unresolved images source = not (index_number source == 4294967295) && nat_le images (index_number source)

abbrev pub texture_rules : ℕ → List Image → ℕ → Texture → List (Option Finding)
texture_rules samplers images n t =
    broken (is_some_unresolved samplers t.sampler) UnresolvedReference (Member (Item Textures n) Sampler)
    ∷ broken (is_source_unresolved (length images) t.source) UnresolvedReference (Member (Item Textures n) Source)
    -- without an extension, the image of a texture is PNG or JPEG
    ∷ broken (names_other_type (slice_get images (index_number t.source))) TextureInvalidImageMimeType (Member (Item Textures n) Source)
    ∷ []
