-- The f64 nearest to a decimal is finite if the f32 nearest to it is.
use Rattle.std.proofs.Common.{◌≡◌, ℕ, zero, suc, ◌+◌, ◌*◌, ◌^◌, ◌<◌, ◌≤◌, Bool, true, false, cond, List, ◌++◌, Option, Some, None, is_some, option_map, ap, sym, refl, ◌∙◌, subst, arith, true≢false, inl, inr, ◌⊎◌}
use Rattle.std.specs.Prelude.{T, ⊤}
use Rattle.std.specs.Float.{float_is_finite}
use Rattle.std.specs.Float.Numeral.{nearest_float, numeral_digits, tens_up, tens_down}
use Rattle.std.proofs.lemmas.Bool.{cases_lt}
use Rattle.std.proofs.lemmas.Float.Parse.{is_some-parse_float, parse_float-text_of}
use Rattle.serde_json.specs.Find.{of_float}
use Rattle.fast_float.specs.Parse.{parse_float}
use Rattle.ryu.specs.Plain.{IsPlainNumber}
use Rattle.gltf_base.specs.Reals.{real_number}
use Rattle.gltf_base.specs.declared.real.Real.{Real}
use native.Mathlib.Nat.{one-le-pow, zero-lt-suc}
use lib.Dec.{ltb}
use lib.Ieee.{Float, Format, binary32, binary64, nan, inf, fin, round, units, odd, le, lt, eq, prec, low, emax}
use lib.Ieee.Order.{round_mono}

-- no sign at an infinity
abbrev IsUnsigned : Float → Type 0
IsUnsigned (inf true) = ⊥
IsUnsigned _ = ⊤

odd_finite : (d : ℕ) (s : Bool) (q k l : ℕ) → float_is_finite (odd d s q k l) ≡ true
unfolding odd float_is_finite
odd_finite d s zero k l = refl
odd_finite d s (suc q) k l = refl

odd_unsigned : (d : ℕ) (q k l : ℕ) → IsUnsigned (odd d false q k l)
unfolding odd
odd_unsigned d zero k l = tt
odd_unsigned d (suc q) k l = tt

units_alike : (f : Format) (s : Bool) (q k : ℕ) → float_is_finite (units f s q k) ≡ float_is_finite (units f false q k)
unfolding units float_is_finite
units_alike f s q k = go (ltb (q * 2 ^ k) (2 ^ (low f + suc (emax f))))
  where
    go : (b : Bool) → float_is_finite (cond b (odd (suc (prec f)) s q k (low f)) (inf s)) ≡ float_is_finite (cond b (odd (suc (prec f)) false q k (low f)) (inf false))
    go true = odd_finite (suc (prec f)) s q k (low f) ∙ sym (odd_finite (suc (prec f)) false q k (low f))
    go false = refl

units_unsigned : (f : Format) (q k : ℕ) → IsUnsigned (units f false q k)
unfolding units
units_unsigned f q k = go (ltb (q * 2 ^ k) (2 ^ (low f + suc (emax f))))
  where
    go : (b : Bool) → IsUnsigned (cond b (odd (suc (prec f)) false q k (low f)) (inf false))
    go true = odd_unsigned (suc (prec f)) q k (low f)
    go false = tt

round_alike : (f : Format) (s : Bool) (n d : ℕ) → float_is_finite (round f s n d) ≡ float_is_finite (round f false n d)
unfolding round
round_alike f s n d = units_alike f s _ _

round_unsigned : (f : Format) (n d : ℕ) → IsUnsigned (round f false n d)
unfolding round
round_unsigned f n d = units_unsigned f _ _

-- what is at most a number is one
below_finite : (x y : Float) → IsUnsigned x → float_is_finite y ≡ true → T (le x y) → float_is_finite x ≡ true
unfolding le lt eq float_is_finite
below_finite nan y u e h = absurd h
below_finite (inf true) y u e h = absurd u
below_finite (inf false) nan u e h = absurd h
below_finite (inf false) (inf t) u e h = e
below_finite (inf false) (fin t m k) u e h = absurd h
below_finite (fin s m k) y u e h = refl

-- what is at least an infinity is none
above_infinity : (x : Float) → T (le (inf false) x) → float_is_finite x ≡ false
unfolding le lt eq float_is_finite
above_infinity nan h = refl
above_infinity (inf s) h = refl
above_infinity (fin s m k) h = absurd h

-- 2 ^ 128 is too large for an f32 alone
too_large : round binary32 false (2 ^ 128) 1 ≡ inf false
unfolding round units odd
too_large = refl

large : float_is_finite (round binary64 false (2 ^ 128) 1) ≡ true
unfolding round units odd float_is_finite
large = refl

wider : (n d : ℕ) → 0 < d → float_is_finite (round binary32 false n d) ≡ true → float_is_finite (round binary64 false n d) ≡ true
wider n d positive finite = elim (cases_lt (n * 1) (2 ^ 128 * d)) [
  | inl small ↦ below_finite (round binary64 false n d) (round binary64 false (2 ^ 128) 1) (round_unsigned binary64 n d) large (round_mono binary64 n d (2 ^ 128) 1 positive (omega arith) (omega arith))
  | inr great ↦
      let above : T (le (round binary32 false (2 ^ 128) 1) (round binary32 false n d)) = round_mono binary32 (2 ^ 128) 1 n d (omega arith) positive great in
      let none = above_infinity (round binary32 false n d) (subst (λ (x : Float). T (le x (round binary32 false n d))) too_large above) in
      absurd (true≢false (sym finite ∙ none))
]

pow_positive : (k : ℕ) → 0 < 10 ^ k
pow_positive k = one-le-pow k 10 (zero-lt-suc 9)

from_some : {a b : Float} → Some a ≡ Some b → a ≡ b
from_some e = cc

-- a decimal that an f32 is nearest to is nearest to a finite f64
pub finite_wider : (text : List ℕ) (x y : Float) → IsPlainNumber text → parse_float binary32 text ≡ Some x → parse_float binary64 text ≡ Some y → float_is_finite x ≡ true → float_is_finite y ≡ true
finite_wider text x y (negative, p, is, plain) narrow wide finite =
    let N = numeral_digits p * 10 ^ tens_up p in
    let D = 10 ^ tens_down p in
    let e32 : round binary32 negative N D ≡ x = from_some (sym (parse_float-text_of binary32 negative p plain.well_formed plain.whole) ∙ ap (parse_float binary32) (sym is) ∙ narrow) in
    let e64 : round binary64 negative N D ≡ y = from_some (sym (parse_float-text_of binary64 negative p plain.well_formed plain.whole) ∙ ap (parse_float binary64) (sym is) ∙ wide) in
    let positive : 0 < D = pow_positive (tens_down p) in
    let f32 : float_is_finite (round binary32 false N D) ≡ true = sym (round_alike binary32 negative N D) ∙ ap float_is_finite e32 ∙ finite in
    sym (ap float_is_finite e64) ∙ round_alike binary64 negative N D ∙ wider N D positive f32

-- it is some number
pub some_nearest : (r : Option Real) (text : List ℕ) (x y : Float) → IsPlainNumber text → parse_float binary32 text ≡ Some x → parse_float binary64 text ≡ Some y → float_is_finite x ≡ true → option_map real_number r ≡ of_float y → is_some r ≡ float_is_finite x
some_nearest (Some z) text x y plain narrow wide finite is = sym finite
some_nearest None text x y plain narrow wide finite is =
    let fin : float_is_finite y ≡ true = finite_wider text x y plain narrow wide finite in
    absurd cc

-- what one format reads, the other does
pub read_by_both : (text : List ℕ) (x : Float) → parse_float binary32 text ≡ Some x → parse_float binary64 text ≡ None → ⊥
read_by_both text x narrow none = true≢false (sym (ap is_some narrow) ∙ is_some-parse_float binary32 text ∙ sym (is_some-parse_float binary64 text) ∙ ap is_some none)
