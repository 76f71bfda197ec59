-- Members in order, and those of them that no row takes.
use Rattle.std.proofs.Common.{◌≡◌, ℕ, List, Bool, true, false, if◌then◌else◌, Ordering, Less, Equal, Greater, nat_cmp, refl, sym, ap, ◌∙◌, subst, true≢false}
use Rattle.std.proofs.lemmas.Cmp.{nat_list_cmp_total}
use Rattle.std.specs.Cmp.Lexicographic.{slice_cmp}
use Rattle.std.specs.Ordering.{match_ordering}
use Rattle.serde_json.specs.Data.{Data, Members, no_members, member, put}
use Rattle.gltf_schema.specs.Kind.{Rows, has_row}
use Rattle.gltf_schema.specs.Read.{others, kept}
use Rattle.gltf_schema.proofs.InOrder.{greater_less, NamesAbove, InOrder, put_before}
use Rattle.gltf_schema.proofs.PuttingIn.{same_name, others_put}

lower : (j k : List ℕ) (ms : Members) → slice_cmp nat_cmp j k ≡ Less → NamesAbove k ms → NamesAbove j ms
lower j k no_members less h = tt
lower j k (member l e ms) less h = (nat_list_cmp_total.trans j k l less h.0, lower j k ms less h.1)

-- ---- one member more

NamesAbove-put_at : (o : Ordering) (j k l : List ℕ) (d e : Data) (ms : Members) → slice_cmp nat_cmp j k ≡ Less → NamesAbove j (member l e ms) → NamesAbove j (put k d ms)
    → NamesAbove j (match_ordering o (member k d (member l e ms)) (member l d ms) (member l e (put k d ms)))
NamesAbove-put_at Less j k l d e ms less h later = (less, h)
NamesAbove-put_at Equal j k l d e ms less h later = (h.0, h.1)
NamesAbove-put_at Greater j k l d e ms less h later = (h.0, later)

NamesAbove-put : (j k : List ℕ) (d : Data) (ms : Members) → slice_cmp nat_cmp j k ≡ Less → NamesAbove j ms → NamesAbove j (put k d ms)
NamesAbove-put j k d no_members less h = (less, tt)
NamesAbove-put j k d (member l e ms) less h = NamesAbove-put_at (slice_cmp nat_cmp k l) j k l d e ms less h (NamesAbove-put j k d ms less h.1)

InOrder-put_at : (o : Ordering) (k l : List ℕ) (d e : Data) (ms : Members) → slice_cmp nat_cmp k l ≡ o → InOrder (member l e ms) → InOrder (put k d ms)
    → InOrder (match_ordering o (member k d (member l e ms)) (member l d ms) (member l e (put k d ms)))
InOrder-put_at Less k l d e ms is h later = ((is, lower k l ms is h.0), h)
InOrder-put_at Equal k l d e ms is h later = h
InOrder-put_at Greater k l d e ms is h later = (NamesAbove-put l k d ms (greater_less k l is) h.0, later)

pub InOrder-put : (k : List ℕ) (d : Data) (ms : Members) → InOrder ms → InOrder (put k d ms)
InOrder-put k d no_members h = (tt, tt)
InOrder-put k d (member l e ms) h = InOrder-put_at (slice_cmp nat_cmp k l) k l d e ms refl h (InOrder-put k d ms h.1)

-- ---- the members that no row takes

NamesAbove-others : (rows : Rows) (k : List ℕ) (ms : Members) → NamesAbove k ms → NamesAbove k (others rows ms)
NamesAbove-others rows k no_members h = tt
NamesAbove-others rows k (member l e ms) h = at (has_row l rows) h (NamesAbove-others rows k ms h.1)
  where
    at : (t : Bool) → NamesAbove k (member l e ms) → NamesAbove k (others rows ms) → NamesAbove k (if t then others rows ms else member l e (others rows ms))
    at true h later = later
    at false h later = (h.0, later)

pub kept_put_row : (keeps : Bool) (rows : Rows) (k : List ℕ) (d : Data) (ms : Members) → has_row k rows ≡ true → kept keeps rows (put k d ms) ≡ kept keeps rows ms
kept_put_row true rows k d ms named = others_put rows k d ms named
kept_put_row false rows k d ms named = refl

-- the three places at which put may stand, and what is left there
leave_before : (t : Bool) (k l : List ℕ) (d e : Data) (left : Members) → slice_cmp nat_cmp k l ≡ Less → NamesAbove k left
    → member k d (if t then left else member l e left) ≡ put k d (if t then left else member l e left)
leave_before true k l d e left less above = sym (put_before k d left above)
leave_before false k l d e left less above = rw less refl

leave_in_place : (t : Bool) (k l : List ℕ) (d e : Data) (left : Members) → t ≡ false → slice_cmp nat_cmp k l ≡ Equal
    → (if t then left else member l d left) ≡ put k d (if t then left else member l e left)
leave_in_place true k l d e left apart tied = absurd (true≢false apart)
leave_in_place false k l d e left apart tied = rw tied refl

leave_behind : (t : Bool) (k l : List ℕ) (d e : Data) (left : Members) → slice_cmp nat_cmp k l ≡ Greater
    → (if t then put k d left else member l e (put k d left)) ≡ put k d (if t then left else member l e left)
leave_behind true k l d e left is = refl
leave_behind false k l d e left is = rw is refl

other_at : (o : Ordering) (rows : Rows) (k l : List ℕ) (d e : Data) (ms : Members) → slice_cmp nat_cmp k l ≡ o → has_row k rows ≡ false → InOrder (member l e ms) → others rows (put k d ms) ≡ put k d (others rows ms)
    → others rows (match_ordering o (member k d (member l e ms)) (member l d ms) (member l e (put k d ms))) ≡ put k d (others rows (member l e ms))
other_at Less rows k l d e ms is apart h later =
    rw apart (leave_before (has_row l rows) k l d e (others rows ms) is (NamesAbove-others rows k ms (lower k l ms is h.0)))
other_at Equal rows k l d e ms is apart h later =
    let tied : k ≡ l = same_name k l is in
    leave_in_place (has_row l rows) k l d e (others rows ms) (subst (λ x. has_row x rows ≡ false) tied apart) is
other_at Greater rows k l d e ms is apart h later =
    ap (λ x. if has_row l rows then x else member l e x) later ∙ leave_behind (has_row l rows) k l d e (others rows ms) is

-- what is put under another name stays
pub others_put_other : (rows : Rows) (k : List ℕ) (d : Data) (ms : Members) → has_row k rows ≡ false → InOrder ms → others rows (put k d ms) ≡ put k d (others rows ms)
others_put_other rows k d no_members apart h = rw apart refl
others_put_other rows k d (member l e ms) apart h = other_at (slice_cmp nat_cmp k l) rows k l d e ms refl apart h (others_put_other rows k d ms apart h.1)
