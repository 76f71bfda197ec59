-- The number of a set, as it is parsed and as it is written.
use Rattle.std.proofs.Common.{◌≡◌, ℕ, ◌<◌, ◌^◌, Bool, true, false, ◌&&◌, cond, nat_lt, List, length, Some, None, Result, Ok, Err, ap, sym, refl, ◌∙◌, arith}
use Rattle.std.proofs.lemmas.Bool.Decides.{nat_tests, Decides-ltb}
use Rattle.std.proofs.lemmas.Str.Parse.{IsNumeralModel, numerals_by_value, tells_all_ascii_digits, not_in_digits, without_leading_plus_none}
use Rattle.std.proofs.lemmas.Fmt.{digits_decimal, digits_value-decimal, decimal_nonempty}
use Rattle.std.specs.Str.{all_ascii_digits}
use Rattle.std.specs.Str.Parse.{ParsesUnsigned, digits_value, without_leading_plus}
use Rattle.std.specs.Fmt.{decimal}
use Rattle.std.specs.Result.{result_ok}
use Rattle.gltf_base.specs.Names.{number_written, set_number}

-- the texts of digits, as std's lemmas see them
abbrev pub IsDigits : List ℕ → Type 0
IsDigits ds = all_ascii_digits ds ≡ true

digit_model : IsNumeralModel IsDigits (digits_value 10)
digit_model = numerals_by_value IsDigits tells_all_ascii_digits

-- one or more digits write their value
number_written-digits : (ds : List ℕ) → IsDigits ds → 0 < length ds → digits_value 10 ds < 2 ^ 32 → number_written ds ≡ Some (digits_value 10 ds)
number_written-digits ds are nonempty small = grind (arith, nat_tests)

-- where not all of three tests pass, there is nothing
none_unless_all : (a b c : Bool) (n : ℕ) → ((a ≡ true) × (b ≡ true) × (c ≡ true) → ⊥) → None ≡ cond (a && b && c) (Some n) None
none_unless_all true true true n not_all = absurd (not_all (refl, refl, refl))
none_unless_all true true false n not_all = refl
none_unless_all true false c n not_all = refl
none_unless_all false b c n not_all = refl

-- what is parsed of a text is the number of a set
pub parsed-set : {E : Type 0} (text : List ℕ) (r : Result ℕ E) → ParsesUnsigned 32 10 text r → result_ok r ≡ set_number text
parsed-set text (Ok n) ((numeral, small), is_n) =
    let digits = without_leading_plus text in
    sym (number_written-digits digits (digit_model.from digits numeral.1) numeral.0 small ∙ ap Some (sym is_n))
parsed-set text (Err e) refused =
    let digits = without_leading_plus text in
    none_unless_all (nat_lt 0 (length digits)) (all_ascii_digits digits) (nat_lt (digits_value 10 digits) (2 ^ 32)) (digits_value 10 digits) (λ (some, are, small). refused (((Decides-ltb 0 (length digits)).0 some, digit_model.to digits are), (Decides-ltb (digits_value 10 digits) (2 ^ 32)).0 small))

-- the digits of a number write it
pub set_number-decimal : (n : ℕ) → n < 2 ^ 32 → set_number (decimal n) ≡ Some n
set_number-decimal n small =
    let fits : n < 2 ^ 64 = omega arith in
    let are = digits_decimal digit_model n fits in
    let nonempty = decimal_nonempty n fits in
    let value = digits_value-decimal digit_model n fits in
    let first = not_in_digits digit_model (decimal n) 43 are (λ h. absurd (omega arith)) 0 nonempty in
    rw (without_leading_plus_none (decimal n) first) (number_written-digits (decimal n) are nonempty (rw value small) ∙ ap Some value)
