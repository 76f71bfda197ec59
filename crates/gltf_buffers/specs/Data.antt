-- Data URIs with base64: data:[<mediatype>];base64,<data> (RFC 2397, sections 2 and 3).
use Rattle.std.specs.Prelude.{◌≡◌, ◌≢◌, ℕ, ◌+◌, ◌==◌, Bool, true, false, nat_eq, List, take, drop, position, Option, Some, None, codes}
use Rattle.std.specs.List.{starts_with, ends_with}
use Rattle.base64.specs.GeneralPurpose.{encode_of, IsBytes}
use Rattle.base64.specs.Engines.{standard}
use Rattle.base64.specs.declared.decode.DecodeAllocError.{DecodeAllocError}
use Rattle.base64.specs.declared.decode.DecodeAllocError.TheVariants.{DecodeError as DecodeFailed, OutOfMemory}
use Rattle.gltf_buffers.specs.declared.data.DataFault.{DataFault}
use Rattle.gltf_buffers.specs.declared.data.DataFault.TheVariants.{NoComma, NotBase64, Undecodable}
use Rattle.gltf_buffers.specs.declared.data.DataError.{DataError}
use Rattle.gltf_buffers.specs.declared.data.DataError.TheVariants.{Fault, Memory}

-- documents write a scheme in lower case (RFC 3986, section 3.1)
unfoldable pub is_data_uri : List ℕ → Bool
is_data_uri uri = starts_with nat_eq uri (codes "data:")

-- what is behind the scheme
abbrev pub data_text : List ℕ → List ℕ
data_text uri = drop 5 uri

-- where the first comma is: the data is behind it
abbrev pub comma_of : List ℕ → Option ℕ
comma_of text = position (λ b. b == 44) text

-- what is in front of it says that the data is base64
abbrev pub says_base64 : List ℕ → Bool
says_base64 media = ends_with nat_eq media (codes ";base64")

-- The bytes of a data URI, by the text behind its scheme: the data is their encoding (RFC 4648, section 4), with its padding.
pub record IsData (text bytes : List ℕ) : Type 0 where
  pub comma : ℕ
  pub first_comma : comma_of text ≡ Some comma
  pub base64 : says_base64 (take comma text) ≡ true
  pub are_bytes : IsBytes bytes
  pub encoding : drop (comma + 1) text ≡ encode_of standard bytes

-- the data is the encoding of no bytes
pub record IsNoEncoding (text : List ℕ) : Type 0 where
  pub none : (bytes : List ℕ) → IsBytes bytes → text ≢ encode_of standard bytes

abbrev pub IsDecodeFault : List ℕ → DecodeAllocError → Type 0
IsDecodeFault text (DecodeFailed e) = IsNoEncoding text
IsDecodeFault text OutOfMemory = Unit {0}

-- what is wrong with a data URI first, by the text behind its scheme
abbrev pub IsDataFault : List ℕ → DataFault → Type 0
IsDataFault text NoComma = comma_of text ≡ None
IsDataFault text NotBase64 = (comma : ℕ) × (comma_of text ≡ Some comma) × (says_base64 (take comma text) ≡ false)
IsDataFault text (Undecodable e) = (comma : ℕ) × (comma_of text ≡ Some comma) × (says_base64 (take comma text) ≡ true) × IsNoEncoding (drop (comma + 1) text)

abbrev pub IsDataError : List ℕ → DataError → Type 0
IsDataError text (Fault f) = IsDataFault text f
IsDataError text (Memory e) = Unit {0}

abbrev pub IsOutOfMemory : DataError → Type 0
IsOutOfMemory (Fault f) = ⊥
IsOutOfMemory (Memory e) = Unit {0}
