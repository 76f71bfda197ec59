-- Names and texts in the lines of text output.
use Rattle.std.specs.Prelude.{ℕ, ◌/◌, ◌%◌, List, [], ◌∷◌, ◌++◌, ◌==◌, nat_lt, if◌then◌else◌, flat_map, codes}
use Rattle.std.specs.Char.{digit_char}

-- "\x" and the two hexadecimal digits of a byte
abbrev pub escape : ℕ → List ℕ
escape c = codes "\\x" ++ digit_char (c / 16) ∷ digit_char (c % 16) ∷ []

-- a control byte of ASCII is written as its escape, any other byte as it is
abbrev pub escaped_byte : ℕ → List ℕ
escaped_byte c = if nat_lt c 32 then escape c else if c == 127 then escape c else c ∷ []

abbrev pub escaped : List ℕ → List ℕ
escaped text = flat_map escaped_byte text
