-- The rules for buffers and images (glTF 2.0, sections 2.8, 3.6.1 and 4.4.3.3).
use Rattle.std.specs.Prelude.{ℕ, List, [], ◌∷◌, ◌++◌, Bool, not, ◌&&◌, ◌==◌, is_none, Option, Some, None, String, string_bytes}
use Rattle.std.specs.declared.alloc.Global.{Global}
use Rattle.gltf_parts.specs.declared.buffer.Buffer.{Buffer}
use Rattle.gltf_parts.specs.declared.image.Image.{Image}
use Rattle.gltf_buffers.specs.Data.{is_data_uri}
use Rattle.gltf_findings_codes.specs.declared.code.Code.TheVariants.{BufferMissingGlbData, BufferGlbChunkTooBig, InvalidUri, NonRelativeUri, UriGlb, DataUriGlb, BufferDataUriMimeTypeInvalid}
use Rattle.gltf_findings_codes.specs.declared.name.Name.TheVariants.{Buffers, Images, Uri}
use Rattle.gltf_findings_codes.specs.declared.finding.Object.{Object as Of}
use Rattle.gltf_findings_codes.specs.declared.finding.Object.TheVariants.{Item}
use Rattle.gltf_findings_codes.specs.declared.finding.Subject.{Subject}
use Rattle.gltf_findings_codes.specs.declared.finding.Subject.TheVariants.{Object, Member}
use Rattle.gltf_findings_codes.specs.declared.finding.Finding.{Finding}
use Rattle.gltf_findings_codes.specs.Found.{broken, found}
use Rattle.gltf_findings_files.specs.declared.container.Container.{Container}
use Rattle.gltf_findings_files.specs.Containers.{is_glb, is_without_bin, is_bin_longer}
use Rattle.gltf_findings_files.specs.Uris.{is_uri_reference, is_not_relative, is_buffer_data}

-- section 2.8: a URI is a data URI or a relative path. In a .glb file it shouldn't be needed
abbrev pub uri_rules : Container → Subject → List ℕ → List (Option Finding)
uri_rules c place uri =
    broken (not (is_uri_reference uri)) InvalidUri place
    ∷ broken (is_uri_reference uri && not (is_data_uri uri) && is_not_relative uri) NonRelativeUri place
    ∷ broken (is_uri_reference uri && not (is_data_uri uri) && is_glb c) UriGlb place
    ∷ broken (is_uri_reference uri && is_data_uri uri && is_glb c) DataUriGlb place
    ∷ []

-- section 3.6.1.1: the media type of a data URI
abbrev pub media_rules : Subject → List ℕ → List (Option Finding)
media_rules place uri = broken (is_uri_reference uri && is_data_uri uri && not (is_buffer_data uri)) BufferDataUriMimeTypeInvalid place ∷ []

-- section 3.6.1.2: the first buffer, if it has no URI, is the BIN chunk of a .glb file
abbrev pub is_stored : ℕ → Buffer → Bool
is_stored n b = (n == 0) && is_none b.uri

abbrev pub stored_rules : Container → ℕ → Buffer → List (Option Finding)
stored_rules c n b =
    broken (is_stored n b && is_without_bin c) BufferMissingGlbData (Object (Item Buffers n))
    -- section 4.4.3.3: the chunk is up to 3 bytes longer
    ∷ broken (is_stored n b && is_bin_longer c b.byte_length.0) BufferGlbChunkTooBig (Object (Item Buffers n))
    ∷ []

abbrev pub buffer_uri_findings : Container → Subject → Option (String Global) → List Finding
buffer_uri_findings c place None = []
buffer_uri_findings c place (Some uri) = found (uri_rules c place (string_bytes uri)) ++ found (media_rules place (string_bytes uri))

abbrev pub buffer_findings : Container → ℕ → Buffer → List Finding
buffer_findings c n b = found (stored_rules c n b) ++ buffer_uri_findings c (Member (Item Buffers n) Uri) b.uri

abbrev pub image_uri_findings : Container → Subject → Option (String Global) → List Finding
image_uri_findings c place None = []
image_uri_findings c place (Some uri) = found (uri_rules c place (string_bytes uri))

abbrev pub image_findings : Container → ℕ → Image → List Finding
image_findings c n i = image_uri_findings c (Member (Item Images n) Uri) i.uri
