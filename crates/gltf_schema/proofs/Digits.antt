-- Whole numbers that are read digit by digit.
use Rattle.std.proofs.Common.{◌≡◌, ℕ, ◌+◌, ◌-◌, ◌*◌, ◌^◌, ◌<◌, ◌≤◌, ◌==◌, List, length, take, get_or, true, false, Some, nat_lt, sym, ap, ap₂, ◌∙◌, subst, arith, take_all}
use Rattle.std.proofs.lemmas.List.{get_or_past, append-nil, length-take}
use Rattle.std.proofs.lemmas.Int.Digits.{digits_value_more, digits_more, digits_value-lt}
use Rattle.std.proofs.lemmas.Str.{digit_value_digit}
use Rattle.std.proofs.lemmas.Str.Parse.{digit_at}
use Rattle.std.proofs.Math.Nat.{pow-le-pow_right}
use Rattle.std.specs.Char.{digit_value}
use Rattle.std.specs.Str.Parse.{AllDigits, digits_value}
use Rattle.std.specs.Float.Numeral.{scan_numeral, digits_end}
use Rattle.fast_float.proofs.Integers.{digits_len_all}
use Rattle.serde_json.specs.Data.{unsigned}
use Rattle.serde_json.specs.Read.{number_of}

-- ---- the digits so far

-- the first i bytes are digits, and the value is the number that they write
abbrev pub Reads : List ℕ → ℕ → ℕ → Type 0
Reads s i value = (i ≤ length s) × AllDigits 10 (take i s) × (value ≡ digits_value 10 (take i s))

-- a value of few digits
pub below : (s : List ℕ) (i most value : ℕ) → Reads s i value → i ≤ most → value < 10 ^ most
below s i most value r few =
    let lt = digits_value-lt 10 (take i s) r.1 in
    let long : length (take i s) ≡ i = omega (arith, length-take i s, r.0) in
    let up : 10 ^ i ≤ 10 ^ most = pow-le-pow_right (omega arith) few in
    let here : digits_value 10 (take i s) < 10 ^ i = subst (λ x. digits_value 10 (take i s) < 10 ^ x) long lt in
    omega (arith, here, up, r.2)

-- one digit more
pub one_more : (s : List ℕ) (i value byte : ℕ) → Reads s i value → i < length s → byte ≡ get_or s i 0 → 48 ≤ byte → byte ≤ 57 → Reads s (i + 1) (value * 10 + (byte - 48))
one_more s i value byte r less is lo hi =
    let digit : digit_value byte + 48 ≡ byte = digit_value_digit byte (lo, hi) in
    let at : digit_value (get_or s i 0) ≡ byte - 48 = ap digit_value (sym is) ∙ omega (arith, digit) in (
      omega (arith, less),
      digits_more 10 s i less r.1 (omega (arith, at, hi, lo)),
      ap₂ (λ x y. x * 10 + y) r.2 (sym at) ∙ sym (digits_value_more 10 s i less),
    )

-- ---- all digits

no_minus : (s : List ℕ) → 0 < length s → AllDigits 10 s → (get_or s 0 0 == 45) ≡ false
no_minus s some all = let first = digit_at s 0 all some in grind (arith, first)

small : (n most : ℕ) → n < most → nat_lt n most ≡ true
small n most less = grind (arith, less)

pub written : (s : List ℕ) (value : ℕ) → 0 < length s → length s ≤ 19 → Reads s (length s) value → number_of s ≡ Some (unsigned value)
unfolding number_of scan_numeral
written s value some few r =
    let whole : take (length s) s ≡ s = take_all (length s) s (omega arith) in
    let cut : take (length s - 0) s ≡ s = take_all (length s - 0) s (omega arith) in
    let all : AllDigits 10 s = subst (AllDigits 10) whole r.1 in
    let over : digits_end s 0 ≡ length s = omega (arith, digits_len_all s all) in
    let past : get_or s (length s) 0 ≡ 0 = get_or_past s (length s) 0 (omega arith) in
    let fits : nat_lt (digits_value 10 s) (2 ^ 64) ≡ true = small (digits_value 10 s) (2 ^ 64) (omega (arith, below s (length s) 19 value r few, r.2, ap (digits_value 10) whole)) in
    let there : nat_lt 0 (length s) ≡ true = small 0 (length s) some in
    rw (no_minus s some all, over, past, past, cut, append-nil s, there, fits) (ap (λ x. Some (unsigned x)) (sym (r.2 ∙ ap (digits_value 10) whole)))
