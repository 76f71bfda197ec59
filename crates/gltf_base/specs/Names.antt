-- The key that the name of an attribute is read as (glTF 2.0, section 3.7.2.1).
use Rattle.std.specs.Prelude.{ℕ, ◌^◌, ◌==◌, nat_lt, length, List, [], ◌∷◌, Bool, true, false, ◌&&◌, Option, Some, None, option_map, option_and_then, unwrap_or, codes, if◌then◌else◌}
use Rattle.std.specs.Str.{bytes_eq, all_ascii_digits}
use Rattle.std.specs.Str.Parse.{digits_value, without_leading_plus}
use Rattle.gltf_base.specs.Keys.{Key, extras, positions, normals, tangents, colors, tex_coords, joints, weights, unknown}

-- the number that one or more digits write, where it has 32 bits
abbrev pub number_written : List ℕ → Option ℕ
number_written digits =
    if nat_lt 0 (length digits) && all_ascii_digits digits && nat_lt (digits_value 10 digits) (2 ^ 32) then Some (digits_value 10 digits) else None

-- the number of a set, behind at most one plus sign
abbrev pub set_number : List ℕ → Option ℕ
set_number text = number_written (without_leading_plus text)

-- what is behind a prefix
abbrev pub behind : List ℕ → List ℕ → Option (List ℕ)
behind [] text = Some text
behind (p ∷ ps) [] = None
behind (p ∷ ps) (c ∷ cs) = if p == c then behind ps cs else None

-- the key of a numbered set, or another
abbrev pub set_or : List ℕ → (ℕ → Key) → List ℕ → Key → Key
set_or prefix key text other = unwrap_or (option_map key (option_and_then set_number (behind prefix text))) other

abbrev pub set_key : List ℕ → Key
set_key text = set_or (codes "COLOR_") colors text (set_or (codes "TEXCOORD_") tex_coords text (set_or (codes "JOINTS_") joints text (set_or (codes "WEIGHTS_") weights text unknown)))

abbrev pub plain_key : List ℕ → Key
plain_key text = if bytes_eq text (codes "POSITION") then positions else if bytes_eq text (codes "NORMAL") then normals else if bytes_eq text (codes "TANGENT") then tangents else set_key text

-- a name that begins with '_' is an application's own
unfoldable pub key_named : List ℕ → Key
key_named text = unwrap_or (option_map extras (behind (codes "_") text)) (plain_key text)

-- the key has a name: it is that of a semantic, and a set has 32 bits
abbrev pub is_named : Key → Bool
is_named (colors set) = nat_lt set (2 ^ 32)
is_named (tex_coords set) = nat_lt set (2 ^ 32)
is_named (joints set) = nat_lt set (2 ^ 32)
is_named (weights set) = nat_lt set (2 ^ 32)
is_named unknown = false
is_named _ = true
