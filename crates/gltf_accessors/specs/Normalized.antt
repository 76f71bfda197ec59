-- Normalized integers as floats (glTF 2.0, section 3.6.2.2), each step rounded to the nearest float of 32 bits.
use Rattle.std.specs.Prelude.{ℕ, ℤ, pos, negsuc, if◌then◌else◌}
use Rattle.std.specs.Float.{Float, binary32}
use lib.Ieee.{of_int, div, lt}

-- c / n
abbrev pub ratio : ℤ → ℤ → Float
ratio c n = div binary32 (of_int binary32 c) (of_int binary32 n)

-- max(x, least)
abbrev pub greater : Float → Float → Float
greater x least = if lt x least then least else x

-- max(c / n, -1.0)
abbrev pub ratio_from_minus_one : ℤ → ℤ → Float
ratio_from_minus_one c n = greater (ratio c n) (of_int binary32 (negsuc 0))

-- "unsigned byte: f = c / 255.0"
abbrev pub normalized_u8 : ℕ → Float
normalized_u8 c = ratio (pos c) (pos 255)

-- "signed byte: f = max(c / 127.0, -1.0)"
abbrev pub normalized_i8 : ℤ → Float
normalized_i8 c = ratio_from_minus_one c (pos 127)

-- "unsigned short: f = c / 65535.0"
abbrev pub normalized_u16 : ℕ → Float
normalized_u16 c = ratio (pos c) (pos 65535)

-- "signed short: f = max(c / 32767.0, -1.0)"
abbrev pub normalized_i16 : ℤ → Float
normalized_i16 c = ratio_from_minus_one c (pos 32767)
