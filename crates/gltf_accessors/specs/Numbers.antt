-- Numbers of bytes, the least byte first (glTF 2.0, section 3.6.2.2).
use Rattle.std.specs.Prelude.{ℕ, ◌%◌, List, Bool, true, ℤ, nat_lt, from_bits}
use Rattle.std.specs.Int.{w8, w16, w32, from_le_bytes, cast_signed}
use Rattle.std.specs.Float.{Float, binary32}

-- an unsigned integer, or one in two's complement, of 8, 16 or 32 bits
abbrev pub u8_of : List ℕ → ℕ
u8_of bytes = from_le_bytes w8 bytes

abbrev pub i8_of : List ℕ → ℤ
i8_of bytes = cast_signed w8 (from_le_bytes w8 bytes)

abbrev pub u16_of : List ℕ → ℕ
u16_of bytes = from_le_bytes w16 bytes

abbrev pub i16_of : List ℕ → ℤ
i16_of bytes = cast_signed w16 (from_le_bytes w16 bytes)

abbrev pub u32_of : List ℕ → ℕ
u32_of bytes = from_le_bytes w32 bytes

-- a float of 32 bits
abbrev pub f32_of : List ℕ → Float
f32_of bytes = from_bits binary32 (from_le_bytes w32 bytes)

-- "NaN, +Infinity, and -Infinity MUST NOT be present": the exponent is not that of these
abbrev pub is_finite : List ℕ → Bool
is_finite bytes = nat_lt (from_le_bytes w32 bytes % 0x8000_0000) 0x7F80_0000

-- each integer may be present
abbrev pub is_any : List ℕ → Bool
is_any bytes = true
