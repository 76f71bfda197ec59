-- Where plain bytes end, by the mask of 16 of them.
use Rattle.std.proofs.Common.{◌≡◌, ℕ, ◌+◌, ◌*◌, ◌<◌, ◌≤◌, ◌%◌, ◌^◌, ◌||◌, ltb, Bool, true, false, not, cond, eqb, List, [], ◌∷◌, map, length, drop, replicate, refl, sym, ap, ap₂, ◌∙◌, arith}
use Rattle.std.specs.List.{prefix_len}
use Rattle.std.proofs.lemmas.Simd.{zip2_splat, chunk-drop, length-chunk, leading_from_mask_l, trailing_mask_l, mask_l-mod}
use Rattle.std.proofs.lemmas.List.{length-drop, length-map}
use Rattle.std.proofs.lemmas.List.Folds.{prefix_len-append}
use Rattle.std.proofs.lemmas.List.Sums.{prefix_len-le-length}
use Rattle.std.proofs.lemmas.Bool.{eq-eqb, ne_eqb}
use Rattle.json.specs.Run.{is_stop, is_plain}
use lib.Bits.{bit_or}
use lib.Lanes.{zip2, chunk, mask_l, top}
use lib.Count.{count_trailing_zeros}

-- ---- the mask is of the bytes that stop

abbrev pub equals : ℕ → ℕ → ℕ
equals a b = cond (eqb a b) 255 0

abbrev pub below : ℕ → ℕ → ℕ
below a b = cond (ltb a b) 255 0

marked : (a b c : Bool) → top 7 (bit_or (bit_or (cond a 255 0) (cond b 255 0)) (cond c 255 0)) ≡ (a || b || c)
marked true true true = refl
marked true true false = refl
marked true false true = refl
marked true false false = refl
marked false true true = refl
marked false true false = refl
marked false false true = refl
marked false false false = refl

each : (v : List ℕ) → map (top 7) (zip2 bit_or (zip2 bit_or (map (λ x. equals x 34) v) (map (λ x. equals x 92) v)) (map (λ x. below x 32) v)) ≡ map is_stop v
each [] = refl
each (x ∷ xs) = ap₂ (λ b bs. b ∷ bs) (marked (eqb x 34) (eqb x 92) (ltb x 32)) (each xs)

pub mask_is : (v : List ℕ) → length v ≡ 16 → mask_l (map (top 7) (zip2 bit_or (zip2 bit_or (zip2 equals v (replicate 16 34)) (zip2 equals v (replicate 16 92))) (zip2 below v (replicate 16 32)))) % 2 ^ 64 ≡ mask_l (map is_stop v)
mask_is v long =
    (λ i. mask_l (map (top 7) (zip2 bit_or (zip2 bit_or (zip2_splat equals v 16 34 long i) (zip2_splat equals v 16 92 long i)) (zip2_splat below v 16 32 long i))) % 2 ^ 64)
    ∙ ap (λ l. mask_l l % 2 ^ 64) (each v) ∙ mask_l-mod (map is_stop v) 64 (omega (arith, length-map v is_stop))

-- ---- what the mask says of where they end

none_stops : (b : Bool) (n l m : ℕ) → n ≤ l → cond (not b) (1 + n) 0 ≡ 1 + l → (n ≡ l → m ≡ 0) → cond b 1 0 + 2 * m ≡ 0
none_stops true n l m le e ih = absurd (omega (arith, e))
none_stops false n l m le e ih = let z = ih (omega arith) in omega arith

all_plain : (v : List ℕ) → prefix_len is_plain v ≡ length v → mask_l (map is_stop v) ≡ 0
all_plain [] e = refl
all_plain (x ∷ xs) e = none_stops (is_stop x) _ (length xs) _ (prefix_len-le-length is_plain xs) (omega arith) (all_plain xs)

split : (d : List ℕ) (i : ℕ) → prefix_len is_plain (drop i d) ≡ cond (eqb (prefix_len is_plain (chunk i 16 d)) (length (chunk i 16 d))) (length (chunk i 16 d) + prefix_len is_plain (drop (i + 16) d)) (prefix_len is_plain (chunk i 16 d))
split d i = ap (prefix_len is_plain) (chunk-drop i 16 d) ∙ prefix_len-append is_plain (chunk i 16 d) (drop (i + 16) d)

pub within_text : (d : List ℕ) (i end : ℕ) → i ≤ length d → end ≡ i + prefix_len is_plain (drop i d) → end ≤ length d
within_text d i end h is = omega (arith, is, prefix_len-le-length is_plain (drop i d), length-drop i d)

pub stops_at : (d : List ℕ) (i mask : ℕ) → i + 16 ≤ length d → mask ≡ mask_l (map is_stop (chunk i 16 d)) → 0 < mask → i + count_trailing_zeros 64 mask ≡ i + prefix_len is_plain (drop i d)
stops_at d i mask room is some =
    let c = chunk i 16 d in
    let short = ne_eqb _ _ (λ (e : prefix_len is_plain c ≡ length c). omega (arith, all_plain c e, is, some)) in
    let run = split d i ∙ ap (λ b. cond b (length c + prefix_len is_plain (drop (i + 16) d)) (prefix_len is_plain c)) short ∙ sym (trailing_mask_l is_stop 64 c (omega (arith, length-chunk i 16 d room)) (omega (arith, is, some))) in
    omega (arith, run, ap (count_trailing_zeros 64) is)

pub goes_past : (d : List ℕ) (i mask : ℕ) → i + 16 ≤ length d → mask ≡ mask_l (map is_stop (chunk i 16 d)) → mask ≡ 0 → i + prefix_len is_plain (drop i d) ≡ i + 16 + prefix_len is_plain (drop (i + 16) d)
goes_past d i mask room is none =
    let c = chunk i 16 d in
    let rest = prefix_len is_plain (drop (i + 16) d) in
    let whole = eq-eqb _ _ (leading_from_mask_l is_stop c (omega (arith, is, none))) in
    let run = split d i ∙ ap (λ b. cond b (length c + rest) (prefix_len is_plain c)) whole in
    omega (arith, run, length-chunk i 16 d room)
