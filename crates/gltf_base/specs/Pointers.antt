-- The text of a path as a JSON pointer (RFC 6901).
use Rattle.std.specs.Prelude.{ℕ, List, [], ◌∷◌, ◌++◌, ◌==◌, if◌then◌else◌, flat_map, codes}
use Rattle.std.specs.Fmt.{decimal}
use Rattle.gltf_base.specs.Steps.{Step, field, item, key, value}

-- section 3: '~' is written as "~0", and '/' as "~1"
abbrev pub escaped_byte : ℕ → List ℕ
escaped_byte c = if c == 126 then codes "~0" else if c == 47 then codes "~1" else c ∷ []

abbrev pub escaped : List ℕ → List ℕ
escaped name = flat_map escaped_byte name

-- a reference token, behind a '/'; the value at the place itself is none
abbrev pub pointer_part : Step → List ℕ
pointer_part (field name) = codes "/" ++ escaped name
pointer_part (item number) = codes "/" ++ decimal number
pointer_part (key text) = codes "/" ++ escaped text
pointer_part (value text) = []

abbrev pub pointer_text : List Step → List ℕ
pointer_text steps = flat_map pointer_part steps
