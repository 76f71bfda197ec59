-- The texts of URI references (RFC 3986). They may have characters that are not ASCII (RFC 3987, section 2.2).
use Rattle.std.specs.Prelude.{ℕ, List, [], ◌∷◌, Bool, true, false, not, ◌&&◌, ◌||◌, ◌==◌, nat_le, nat_eq, codes, get_or, length}
use Rattle.std.specs.List.{list_any, starts_with}
use Rattle.std.specs.Char.{is_ascii_alphabetic, is_ascii_alphanumeric, is_ascii_hexdigit}
use Rattle.gltf_buffers.specs.Data.{is_data_uri, data_text}

-- the text lists a byte
abbrev pub is_one_of : List ℕ → ℕ → Bool
is_one_of bytes b = list_any (λ x. nat_eq x b) bytes

-- sections 2.2 and 2.3: reserved and unreserved characters, and bytes of characters that are not ASCII
abbrev pub is_uri_character : ℕ → Bool
is_uri_character b = is_ascii_alphanumeric b || is_one_of (codes "-._~:/?#[]@!$&'()*+,;=") b || nat_le 128 b

-- section 2.1: a text begins with two hexadecimal digits
abbrev pub is_escape : List ℕ → Bool
is_escape text = is_ascii_hexdigit (get_or text 0 0) && is_ascii_hexdigit (get_or text 1 0)

-- a byte of a URI reference that has a text behind it; 37 is "%"
abbrev pub is_uri_byte : ℕ → List ℕ → Bool
is_uri_byte b rest = is_uri_character b || ((b == 37) && is_escape rest)

abbrev pub has_uri_bytes : List ℕ → Bool
has_uri_bytes [] = true
has_uri_bytes (b ∷ rest) = is_uri_byte b rest && has_uri_bytes rest

-- the first ":" is before every "/", "?" and "#"
abbrev pub has_early_colon : List ℕ → Bool
has_early_colon [] = false
has_early_colon (b ∷ rest) = (b == 58) || (not (is_one_of (codes "/?#") b) && has_early_colon rest)

-- letters, digits, "+", "-" and "." up to a ":"
abbrev pub ends_scheme : List ℕ → Bool
ends_scheme [] = false
ends_scheme (b ∷ rest) = (b == 58) || ((is_ascii_alphanumeric b || is_one_of (codes "+-.") b) && ends_scheme rest)

-- section 3.1: a scheme begins with a letter
abbrev pub has_scheme : List ℕ → Bool
has_scheme [] = false
has_scheme (b ∷ rest) = is_ascii_alphabetic b && ends_scheme rest

-- RFC 2397, section 3: a "," is before the data
abbrev pub is_without_data : List ℕ → Bool
is_without_data uri = is_data_uri uri && not (is_one_of uri 44)

-- section 4.1: a colon that is early ends a scheme
abbrev pub is_uri_reference : List ℕ → Bool
is_uri_reference uri = has_uri_bytes uri && (has_scheme uri || not (has_early_colon uri)) && not (is_without_data uri)

-- section 4.2: a scheme, an authority or a path from the root; 47 is "/"
abbrev pub is_not_relative : List ℕ → Bool
is_not_relative uri = has_scheme uri || (get_or uri 0 0 == 47)

-- RFC 2397, section 3: a ";" or a "," is behind a media type
abbrev pub has_media_type : List ℕ → List ℕ → Bool
has_media_type text media = starts_with nat_eq text media && is_one_of (codes ";,") (get_or text (length media) 0)

-- glTF 2.0, section 3.6.1.1: the media types of buffers
abbrev pub has_buffer_type : List ℕ → Bool
has_buffer_type text = has_media_type text (codes "application/octet-stream") || has_media_type text (codes "application/gltf-buffer")

abbrev pub is_buffer_data : List ℕ → Bool
is_buffer_data uri = has_buffer_type (data_text uri)
