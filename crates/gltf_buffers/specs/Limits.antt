-- How many bytes a caller gives for the URIs of a document together.
use Rattle.std.specs.Prelude.{ℕ, ◌+◌, ◌≤◌, Bool, true, false, List, [], ◌∷◌, Option, Some, None}
use Rattle.gltf_buffers.specs.Data.{is_data_uri}
use Rattle.gltf_buffers.specs.Sources.{Buffer}

-- so many bytes are taken from a limit, and this is what is left; where there is no limit, nothing is said
abbrev pub Takes : ℕ → Option ℕ → Option ℕ → Type 0
Takes taken None after = Unit {0}
Takes taken (Some most) None = ⊥
Takes taken (Some most) (Some left) = left + taken ≤ most

abbrev pub unless : Bool → ℕ → ℕ
unless true n = 0
unless false n = n

-- how many of so many bytes the caller gives for a URI: none for a data URI, or where there is no URI
abbrev pub resolved : Option (List ℕ) → ℕ → ℕ
resolved None n = 0
resolved (Some uri) n = unless (is_data_uri uri) n

-- the bytes of all buffers that the caller gives
abbrev pub resolved_bytes : List Buffer → ℕ
resolved_bytes [] = 0
resolved_bytes (b ∷ buffers) = resolved b.uri b.byte_length + resolved_bytes buffers
