-- What is wrong with the buffers of a document.
use Rattle.std.specs.Prelude.{◌≡◌, ℕ, ◌<◌, List, length, slice_get, Option, Some, None, Result, Err, false, true}
use Rattle.gltf_buffers.specs.declared.fault.BufferFault.{BufferFault}
use Rattle.gltf_buffers.specs.declared.fault.BufferFault.TheVariants.{NoSource, Data, Unresolved, Short, Memory}
use Rattle.gltf_buffers.specs.Data.{is_data_uri, data_text, IsDataFault}
use Rattle.gltf_buffers.specs.Sources.{Buffer, IsSource, IsContent}

-- why there are no bytes for a URI
abbrev pub IsUriFault : {E : Type 0} → (List ℕ → Result (List ℕ) E → Type 0) → ℕ → List ℕ → BufferFault E → Type 0
IsUriFault gives n uri (Data m f) = (m ≡ n) × (is_data_uri uri ≡ true) × IsDataFault (data_text uri) f
IsUriFault gives n uri (Unresolved m e) = (m ≡ n) × (is_data_uri uri ≡ false) × gives uri (Err e)
IsUriFault gives n uri (Memory e) = Unit {0}
IsUriFault gives n uri f = ⊥

-- why there are no bytes for a buffer
abbrev pub IsSourceFault : {E : Type 0} → (List ℕ → Result (List ℕ) E → Type 0) → Option (List ℕ) → ℕ → Option (List ℕ) → BufferFault E → Type 0
IsSourceFault gives bin n (Some uri) f = IsUriFault gives n uri f
IsSourceFault gives bin n None (NoSource m) = (m ≡ n) × (n ≡ 0 → bin ≡ None)
IsSourceFault gives bin n None f = ⊥

-- what is wrong with a buffer
abbrev pub IsFaultOf : {E : Type 0} → (List ℕ → Result (List ℕ) E → Type 0) → Option (List ℕ) → ℕ → Buffer → BufferFault E → Type 0
IsFaultOf gives bin n b (Short m found) = (m ≡ n) × (whole : List ℕ) × IsSource gives bin n b.uri whole × (found ≡ length whole) × (found < b.byte_length)
IsFaultOf gives bin n b f = IsSourceFault gives bin n b.uri f

-- the first one: each buffer before it has bytes
abbrev pub IsBufferFault : {E : Type 0} → (List ℕ → Result (List ℕ) E → Type 0) → Option (List ℕ) → List Buffer → BufferFault E → Type 0
IsBufferFault gives bin buffers (Memory e) = Unit {0}
IsBufferFault gives bin buffers f = (n : ℕ) × (b : Buffer) × (slice_get buffers n ≡ Some b) × IsFaultOf gives bin n b f × ((k : ℕ) (c : Buffer) → k < n → slice_get buffers k ≡ Some c → (bytes : List ℕ) × IsContent gives bin k c bytes)
