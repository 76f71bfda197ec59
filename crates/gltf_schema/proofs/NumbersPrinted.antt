-- The texts of numbers are read back as the numbers.
use Rattle.std.proofs.Common.{◌≡◌, ℕ, ◌^◌, ◌<◌, ℤ, pos, negsuc, int_lt, List, [], ◌∷◌, ◌++◌, true, Float, Some, None, option_map, decimal, w64, SFits, refl, ap, ◌∙◌, arith}
use Rattle.std.specs.Float.{binary64, float_is_finite}
use Rattle.std.specs.Fmt.{signed_decimal}
use Rattle.fast_float.specs.Parse.{parse_float}
use Rattle.ryu.specs.Plain.{IsPlusNumber}
use Rattle.json.specs.Json as json
use Rattle.json.specs.Token.{Token}
use Rattle.serde_json.specs.Data.{Num, number, unsigned, negative, float}
use Rattle.serde_json.specs.Find.{as_u64, as_i64, to_float}
use Rattle.serde_json.specs.Number.{num_of, is_valid}
use Rattle.serde_json.specs.Read.{number_of}
use Rattle.serde_json.specs.View.{number_view}
use Rattle.serde_json.specs.Written.{number_text, unless_float, WritesValue}
use Rattle.serde_json.specs.declared.number.N.{N}
use Rattle.serde_json.specs.declared.number.N.TheVariants as kinds
use Rattle.serde_json.specs.declared.number.Number.{Number}
use Rattle.serde_json.proofs.Numbers.{number_of-decimal, number_of-negative, number_of-plus}
use Rattle.serde_json.proofs.Texts.{unless_float-number_of}

-- a number's text is the last token
abbrev pub NumberBehind : Num → List Token → List Token → Type 0
NumberBehind x old new = (s : List ℕ) × (new ≡ old ++ Token.number s ∷ []) × (number_of s ≡ Some x) × (unless_float s ≡ number_text x)

whole_is : (n : ℕ) (x : Num) → Some n ≡ as_u64 x → unsigned n ≡ x
whole_is n (unsigned m) e = cc
whole_is n (negative z) e = absurd cc
whole_is n (float x) e = absurd cc

pub whole_behind : (n : ℕ) (x : Num) (old new : List Token) → n < 2 ^ 64 → Some n ≡ as_u64 x → new ≡ old ++ Token.number (decimal n) ∷ [] → NumberBehind x old new
whole_behind n x old new fits is e =
    let seen : unsigned n ≡ x = whole_is n x is in
    let read = number_of-decimal n fits in
    (decimal n, e, read ∙ ap Some seen, unless_float-number_of (decimal n) (unsigned n) read ∙ ap number_text seen)

below_zero : (z : ℤ) → int_lt z (pos 0) ≡ true → SFits w64 z → number_of (signed_decimal z) ≡ Some (negative z)
below_zero (pos n) below fits = absurd (grind arith)
below_zero (negsuc n) below fits = number_of-negative n (grind arith)

pub negative_behind : (z : ℤ) (s : List ℕ) (old new : List Token) → int_lt z (pos 0) ≡ true → SFits w64 z → s ≡ signed_decimal z → new ≡ old ++ Token.number s ∷ [] → NumberBehind (negative z) old new
negative_behind z s old new below fits is e =
    let read : number_of s ≡ Some (negative z) = ap number_of is ∙ below_zero z below fits in
    (s, e, read, unless_float-number_of s (negative z) read ∙ is)

-- what is no integer of 64 bits is a finite float
float_is : (n : N) → is_valid n ≡ true → as_u64 (num_of n) ≡ None → as_i64 (num_of n) ≡ None → (float (to_float (num_of n)) ≡ num_of n) × (float_is_finite (to_float (num_of n)) ≡ true)
float_is (kinds.PosInt n) valid not_whole not_negative = absurd cc
float_is (kinds.NegInt z) valid not_whole not_negative = absurd cc
float_is (kinds.Float x) valid not_whole not_negative = (refl, valid)

pub float_behind : (n : Number) (x : Float) (s : List ℕ) (old new : List Token) → as_u64 (number_view n) ≡ None → as_i64 (number_view n) ≡ None → x ≡ to_float (number_view n)
    → IsPlusNumber 16 4 s → parse_float binary64 s ≡ Some x → new ≡ old ++ Token.number s ∷ [] → NumberBehind (number_view n) old new
float_behind n x s old new not_whole not_negative same plus parses e =
    let is = float_is n.n n.valid not_whole not_negative in
    let finite : float_is_finite x ≡ true = ap float_is_finite same ∙ is.1 in
    let seen : float x ≡ number_view n = ap float same ∙ is.0 in
    let read = number_of-plus 16 4 s x plus parses finite in
    (s, e, read ∙ ap Some seen, unless_float-number_of s (float x) read ∙ ap number_text seen)

pub number_behind_printed : (x : Num) (old new : List Token) → NumberBehind x old new → WritesValue (number x) old new
number_behind_printed x old new w = (json.number w.0, w.1, ap (option_map number) w.2, omega arith, ap json.number w.3)
