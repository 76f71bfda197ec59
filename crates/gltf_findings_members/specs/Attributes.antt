-- The names of attributes (glTF 2.0, section 3.7.2.1).
use Rattle.std.specs.Prelude.{ℕ, ◌==◌, List, [], ◌∷◌, Bool, true, false, not, ◌&&◌, ◌||◌, nat_le, is_some, Option, Some, None, bytes_eq, codes}
use Rattle.gltf_base.specs.Names.{behind}

abbrev pub is_digit : ℕ → Bool
is_digit c = nat_le 48 c && nat_le c 57

abbrev pub all_digits : List ℕ → Bool
all_digits [] = true
all_digits (c ∷ cs) = is_digit c && all_digits cs

-- "Indices MUST NOT use leading zeroes to pad the number of digits"
abbrev pub is_set_number : List ℕ → Bool
is_set_number [] = false
is_set_number (c ∷ []) = is_digit c
is_set_number (c ∷ d ∷ cs) = not (c == 48) && all_digits (c ∷ d ∷ cs)

abbrev pub if_set_number : Option (List ℕ) → Bool
if_set_number None = false
if_set_number (Some text) = is_set_number text

abbrev pub is_numbered : List ℕ → List ℕ → Bool
is_numbered prefix name = if_set_number (behind prefix name)

-- a semantic of the format, or a name of the application's own, which begins with an underscore
abbrev pub is_attribute : List ℕ → Bool
is_attribute name =
    bytes_eq name (codes "POSITION") || bytes_eq name (codes "NORMAL") || bytes_eq name (codes "TANGENT")
    || is_some (behind (codes "_") name)
    || is_numbered (codes "TEXCOORD_") name || is_numbered (codes "COLOR_") name
    || is_numbered (codes "JOINTS_") name || is_numbered (codes "WEIGHTS_") name
