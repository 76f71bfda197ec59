-- The buffers of a document (glTF 2.0, section 5.10).
use Rattle.std.specs.Prelude.{List, map, option_map}
use Rattle.std.specs.String.{string_bytes}
use Rattle.gltf_parts.specs.declared.buffer.Buffer.{Buffer}
use Rattle.gltf_buffers.specs.Sources as sources

-- `byteLength` and `uri`
abbrev pub stored_buffer : Buffer → sources.Buffer
stored_buffer b = record { byte_length = b.byte_length.0; uri = option_map string_bytes b.uri }

abbrev pub buffers_listed : List Buffer → List sources.Buffer
buffers_listed buffers = map stored_buffer buffers
