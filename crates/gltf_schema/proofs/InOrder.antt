-- Members in the byte order of their names. A member can be put in at any time: where two names
-- differ, it is the same whichever comes first.
use Rattle.std.proofs.Common.{◌≡◌, ℕ, List, nat_cmp, refl, sym, ap, ◌∙◌, Ordering, Less, Equal, Greater}
use Rattle.std.specs.Prelude.{⊤}
use Rattle.std.proofs.lemmas.Cmp.{nat_list_cmp_total}
use Rattle.std.specs.Cmp.Lexicographic.{slice_cmp}
use Rattle.std.specs.Ordering.{ordering_reverse}
use Rattle.serde_json.specs.Data.{Data, Members, no_members, member, put}

-- ---- names

pub less_greater : (j k : List ℕ) → slice_cmp nat_cmp j k ≡ Less → slice_cmp nat_cmp k j ≡ Greater
less_greater j k less = nat_list_cmp_total.antisymm k j ∙ ap ordering_reverse less

pub greater_less : (j k : List ℕ) → slice_cmp nat_cmp j k ≡ Greater → slice_cmp nat_cmp k j ≡ Less
greater_less j k greater = nat_list_cmp_total.antisymm k j ∙ ap ordering_reverse greater

-- ---- two members put in

swap_at : (o p : Ordering) (n m l : List ℕ) (d e f : Data) (ms : Members) → slice_cmp nat_cmp n l ≡ o → slice_cmp nat_cmp m l ≡ p → slice_cmp nat_cmp n m ≡ Less
    → put n d (put m e ms) ≡ put m e (put n d ms) → put n d (put m e (member l f ms)) ≡ put m e (put n d (member l f ms))
swap_at Less Less n m l d e f ms at_n at_m less later = rw (at_n, at_m, less, less_greater n m less) refl
swap_at Less Equal n m l d e f ms at_n at_m less later = rw (at_n, at_m, less_greater n m less, at_n) refl
swap_at Less Greater n m l d e f ms at_n at_m less later = rw (at_n, at_m, less_greater n m less, at_n) refl
swap_at Equal p n m l d e f ms at_n at_m less later =
    let over : slice_cmp nat_cmp m l ≡ Greater = less_greater l m (sym (nat_list_cmp_total.congr n l m at_n) ∙ less) in
    rw (at_n, over, at_n) refl
swap_at Greater p n m l d e f ms at_n at_m less later =
    let over : slice_cmp nat_cmp m l ≡ Greater = less_greater l m (nat_list_cmp_total.trans l n m (greater_less n l at_n) less) in
    rw (at_n, over, at_n) (ap (member l f) later)

-- members of two names can be put in either way round
pub puts_swap : (n m : List ℕ) (d e : Data) (ms : Members) → slice_cmp nat_cmp n m ≡ Less → put n d (put m e ms) ≡ put m e (put n d ms)
puts_swap n m d e no_members less = rw (less, less_greater n m less) refl
puts_swap n m d e (member l f ms) less = swap_at _ _ n m l d e f ms refl refl less (puts_swap n m d e ms less)

-- ---- members put in, one after another

abbrev pub put_all : Members → Members → Members
put_all no_members ms = ms
put_all (member n d ds) ms = put_all ds (put n d ms)

-- each name is greater than k
abbrev pub NamesAbove : List ℕ → Members → Type 0
NamesAbove k no_members = ⊤
NamesAbove k (member n d ds) = (slice_cmp nat_cmp k n ≡ Less) × NamesAbove k ds

-- each name is less than all later ones
abbrev pub InOrder : Members → Type 0
InOrder no_members = ⊤
InOrder (member n d ds) = NamesAbove n ds × InOrder ds

pub put_before : (n : List ℕ) (d : Data) (ds : Members) → NamesAbove n ds → put n d ds ≡ member n d ds
put_before n d no_members above = refl
put_before n d (member l e ds) above = rw (above.0) refl

-- the member with the least name can as well come last
put_last : (n : List ℕ) (d : Data) (ds ms : Members) → NamesAbove n ds → put_all ds (put n d ms) ≡ put n d (put_all ds ms)
put_last n d no_members ms above = refl
put_last n d (member l e ds) ms above = ap (put_all ds) (sym (puts_swap n l d e ms above.0)) ∙ put_last n d ds (put l e ms) above.1

-- members in order that are put in give themselves
pub put_in_order : (ds : Members) → InOrder ds → put_all ds no_members ≡ ds
put_in_order no_members order = refl
put_in_order (member n d ds) order = put_last n d ds no_members order.0 ∙ ap (put n d) (put_in_order ds order.1) ∙ put_before n d ds order.0
