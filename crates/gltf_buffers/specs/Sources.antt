-- The buffers of a document, and the bytes that they are (glTF 2.0, sections 3.6.1 and 5.10).
use Rattle.std.specs.Prelude.{◌≡◌, ℕ, ◌≤◌, ◌<◌, List, length, take, slice_get, Option, Some, None, option_map, Result, Ok}
use Rattle.std.specs.Bool.{MatchBool}
use Rattle.gltf_buffers.specs.declared.list.StoredBuffer.{StoredBuffer}
use Rattle.gltf_buffers.specs.Data.{is_data_uri, data_text, IsData}

-- a buffer of a document: `byteLength` and `uri`
pub record Buffer : Type 0 where
  pub byte_length : ℕ
  pub uri : Option (List ℕ)

-- a buffer without where its URI lies in memory
abbrev pub buffer_of : StoredBuffer → Buffer
buffer_of b = record { byte_length = b.byte_length; uri = option_map (λ u. u.now) b.uri }

-- The bytes for a URI: what a data URI encodes, and otherwise what the caller may give.
abbrev pub IsOfUri : {E : Type 0} → (List ℕ → Result (List ℕ) E → Type 0) → List ℕ → List ℕ → Type 0
IsOfUri gives uri whole = MatchBool (is_data_uri uri) (IsData (data_text uri) whole) (gives uri (Ok whole))

-- What there is for a buffer, by its number and its URI. The first buffer without a URI is the BIN chunk of a container.
abbrev pub IsSource : {E : Type 0} → (List ℕ → Result (List ℕ) E → Type 0) → Option (List ℕ) → ℕ → Option (List ℕ) → List ℕ → Type 0
IsSource gives bin number None whole = (number ≡ 0) × (bin ≡ Some whole)
IsSource gives bin number (Some uri) whole = IsOfUri gives uri whole

-- The bytes of a buffer: as many as its `byteLength` from the front. There may be more, as what pads a BIN chunk.
pub record IsContent {E : Type 0} (gives : List ℕ → Result (List ℕ) E → Type 0) (bin : Option (List ℕ)) (number : ℕ) (b : Buffer) (bytes : List ℕ) : Type 0 where
  pub whole : List ℕ
  pub source : IsSource gives bin number b.uri whole
  pub enough : b.byte_length ≤ length whole
  pub front : bytes ≡ take b.byte_length whole
  pub exact : length bytes ≡ b.byte_length

-- each buffer below a number has its bytes
abbrev pub HaveContents : {E : Type 0} → (List ℕ → Result (List ℕ) E → Type 0) → Option (List ℕ) → List Buffer → ℕ → (ℕ → Option (List ℕ)) → Type 0
HaveContents gives bin buffers bound at = (n : ℕ) (b : Buffer) → n < bound → slice_get buffers n ≡ Some b → (bytes : List ℕ) × (at n ≡ Some bytes) × IsContent gives bin n b bytes

-- `at` gives the bytes of each buffer, and no others
pub record AreContents {E : Type 0} (gives : List ℕ → Result (List ℕ) E → Type 0) (bin : Option (List ℕ)) (buffers : List Buffer) (at : ℕ → Option (List ℕ)) : Type 0 where
  pub each : HaveContents gives bin buffers (length buffers) at
  pub none : (n : ℕ) → length buffers ≤ n → at n ≡ None
