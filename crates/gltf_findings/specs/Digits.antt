-- Numbers that are written in digits.
use Rattle.std.specs.Prelude.{ℕ, ◌+◌, ◌-◌, ◌*◌, ◌^◌, ◌≡◌, min, List, [], ◌∷◌, ◌++◌, Bool, true, false, ◌&&◌}
use Rattle.gltf_findings.specs.Versions.{is_digit}

-- the number that digits write behind those of another
abbrev pub number_from : ℕ → List ℕ → ℕ
number_from n [] = n
number_from n (c ∷ cs) = number_from (n * 10 + (c - 48)) cs

abbrev pub all_digits : List ℕ → Bool
all_digits [] = true
all_digits (c ∷ cs) = is_digit c && all_digits cs

abbrev pub are_digits : List ℕ → Bool
are_digits [] = false
are_digits (c ∷ cs) = all_digits (c ∷ cs)

-- a number, or the greatest of 64 bits
abbrev pub machine_number : List ℕ → ℕ
machine_number ds = min (number_from 0 ds) (2 ^ 64 - 1)

-- the text is a major version, a point and a minor version, each written in digits
abbrev pub IsVersionText : List ℕ → List ℕ → List ℕ → Type 0
IsVersionText text major minor = (text ≡ major ++ 46 ∷ minor) × (are_digits major ≡ true) × (are_digits minor ≡ true)
