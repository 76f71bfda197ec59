-- Control bytes in texts.
use Rattle.std.proofs.Common.{◌≡◌, ◌≢◌, ℕ, suc, ◌<◌, ◌≤◌, List, [], ◌∷◌, ◌++◌, length, get_or, encode_utf8, inl, inr, refl, sym, ap₂, ◌∙◌, append-nil, arith}
use Rattle.std.proofs.lemmas.Bool.{cases_lt}
use Rattle.std.proofs.lemmas.Bool.Decides.{nat_tests}
use Rattle.std.proofs.lemmas.Str.{encode_ascii, inside_one}
use Rattle.std.specs.Char.{IsAsciiControl, IsNotAsciiControl}
use Rattle.gltf_report_lines.specs.Escaped.{escape, escaped, escaped_byte}

plain_byte : (c : ℕ) → 32 ≤ c → c ≢ 127 → escaped_byte c ≡ c ∷ []
plain_byte c low last = grind (arith, nat_tests)

low_byte : (c : ℕ) → c < 32 → escaped_byte c ≡ escape c
low_byte c low = grind (arith, nat_tests)

last_byte : (c : ℕ) → c ≡ 127 → escaped_byte c ≡ escape c
last_byte c e = rw e refl

-- bytes past ASCII are not escaped
high_bytes : (xs : List ℕ) → ((k : ℕ) → k < length xs → 128 ≤ get_or xs k 0) → escaped xs ≡ xs
high_bytes [] h = refl
high_bytes (x ∷ xs) h =
    let high : 128 ≤ x = h 0 (omega arith) in
    ap₂ (λ (a b : List ℕ). a ++ b) (plain_byte x (omega arith) (λ e. omega (arith, e))) (high_bytes xs (λ k below. h (suc k) (omega arith)))

-- a control character is written as its escape
pub control_character : (c : ℕ) → IsAsciiControl c → escaped (encode_utf8 c) ≡ escape c
control_character c h = elim h [
  | inl low ↦ rw (encode_ascii c (omega arith)) (append-nil _ ∙ low_byte c (omega arith))
  | inr last ↦ rw (encode_ascii c (omega arith)) (append-nil _ ∙ last_byte c (omega arith))
]

-- any other character stays as it is
pub plain_character : (c : ℕ) → IsNotAsciiControl c → escaped (encode_utf8 c) ≡ encode_utf8 c
plain_character c h =
    let low : 32 ≤ c = omega arith in
    let last : c ≢ 127 = λ e. omega (arith, e) in
    elim (cases_lt c 128) [
      | inl small ↦ rw (encode_ascii c small) (append-nil _ ∙ plain_byte c low last)
      | inr big ↦
          high_bytes (encode_utf8 c) (λ k below. elim (cases_lt (get_or (encode_utf8 c) k 0) 128) [
            | inl small ↦ absurd (omega (arith, inside_one c [] (encode_utf8 c) k (sym (append-nil _)) below small))
            | inr high ↦ high
          ])
    ]
