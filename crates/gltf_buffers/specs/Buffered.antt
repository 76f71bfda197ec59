-- What the buffers of a document hold.
use Rattle.std.specs.Prelude.{ℕ, List, slice_get, Option, Some, None, option_map}
use Rattle.std.proofs.Common.{Bor}
use Rattle.gltf_buffers.specs.declared.content.Content.{Content}
use Rattle.gltf_buffers.specs.declared.content.Content.TheVariants.{Chunk, Owned}
use Rattle.gltf_buffers.specs.declared.buffers.Buffers.{Buffers}

abbrev pub content_bytes : Content → List ℕ
content_bytes (Chunk b) = b.now
content_bytes (Owned v) = v.items

-- the bytes of a buffer, by its number
abbrev pub bytes_at : Buffers → ℕ → Option (List ℕ)
bytes_at b n = option_map content_bytes (slice_get b.contents.items n)

-- the bytes that an option lends
abbrev pub lent : Option (Bor (List ℕ)) → Option (List ℕ)
lent None = None
lent (Some b) = Some b.now
