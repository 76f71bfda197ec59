-- A member put into an object, and what stays of the others.
use Rattle.std.proofs.Common.{◌≡◌, ℕ, List, Bool, true, false, ◌||◌, not, cond, None, bytes_eq, is_eq, nat_cmp, refl, sym, ap, ◌∙◌, true≢false, Ordering, Less, Equal, Greater}
use Rattle.std.proofs.lemmas.Bool.{false≢true, and_parts, or_parts, or_left, not-true, false_from_ne_true}
use Rattle.std.proofs.lemmas.Map.Text.{is_eq-slice_cmp}
use Rattle.std.proofs.lemmas.Slice.Eq.{bytes_eq-Decides}
use Rattle.std.specs.Cmp.Lexicographic.{slice_cmp}
use Rattle.std.specs.Ordering.{match_ordering}
use Rattle.serde_json.specs.Data.{Data, Members, no_members, member, put}
use Rattle.serde_json.specs.Find.{get_member}
use Rattle.gltf_schema.specs.Kind.{Mark, Kind, Rows, row, has_row}
use Rattle.gltf_schema.specs.Read.{others, kept}
use Rattle.gltf_schema.specs.Plain.{none_named, are_none}
use Rattle.gltf_schema.proofs.TakingOut.{skips}

-- ---- names

pub other_name : (q n : List ℕ) → bytes_eq q n ≡ false → q ≡ n → ⊥
other_name q n apart same = false≢true (sym apart ∙ (bytes_eq-Decides q n).1 same)

pub same_name : (q n : List ℕ) → slice_cmp nat_cmp q n ≡ Equal → q ≡ n
same_name q n is = (bytes_eq-Decides q n).0 (sym (is_eq-slice_cmp q n) ∙ ap is_eq is)

-- a row has its own name
pub has_own : (n : List ℕ) (mark : Mark) (kind : Kind) (rows : Rows) → has_row n (row n mark kind rows) ≡ true
has_own n mark kind rows = or_left (bytes_eq n n) (has_row n rows) ((bytes_eq-Decides n n).1 refl)

-- ---- members of which none has a row's name

-- a row's name is none of theirs
pub unnamed_missing : (n : List ℕ) (rows : Rows) (ms : Members) → none_named rows ms ≡ true → has_row n rows ≡ true → get_member n ms ≡ None
unnamed_missing n rows no_members h has = refl
unnamed_missing n rows (member m d ms) h has =
    let off = not-true _ (and_parts _ (none_named rows ms) h).0 in
    let other = λ (same : n ≡ m). true≢false (sym has ∙ ap (λ k. has_row k rows) same ∙ off) in
    skips n m d ms (false_from_ne_true (bytes_eq n m) (λ h. other ((bytes_eq-Decides n m).0 h))) ∙ unnamed_missing n rows ms (and_parts (not (has_row m rows)) _ h).1 has

-- nor is one of fewer rows
pub unnamed_fewer : (n : List ℕ) (mark : Mark) (kind : Kind) (rows : Rows) (ms : Members) → none_named (row n mark kind rows) ms ≡ true → none_named rows ms ≡ true
unnamed_fewer n mark kind rows no_members h = refl
unnamed_fewer n mark kind rows (member m d ms) h =
    let off = or_parts (bytes_eq n m) (has_row m rows) (not-true _ (and_parts _ (none_named (row n mark kind rows) ms) h).0) in
    rw (off.1, unnamed_fewer n mark kind rows ms (and_parts (not (bytes_eq n m || has_row m rows)) _ h).1) refl

unnamed_put_at : (o : Ordering) (rows : Rows) (n l : List ℕ) (d e : Data) (ms : Members) → has_row n rows ≡ false → has_row l rows ≡ false → none_named rows ms ≡ true → none_named rows (put n d ms) ≡ true
    → none_named rows (match_ordering o (member n d (member l e ms)) (member l d ms) (member l e (put n d ms))) ≡ true
unnamed_put_at Less rows n l d e ms new old tail later = rw (new, old) tail
unnamed_put_at Equal rows n l d e ms new old tail later = rw old tail
unnamed_put_at Greater rows n l d e ms new old tail later = rw old later

pub unnamed_put : (rows : Rows) (n : List ℕ) (d : Data) (ms : Members) → has_row n rows ≡ false → none_named rows ms ≡ true → none_named rows (put n d ms) ≡ true
unnamed_put rows n d no_members new h = rw new refl
unnamed_put rows n d (member l e ms) new h =
    let tail = (and_parts (not (has_row l rows)) _ h).1 in
    unnamed_put_at (slice_cmp nat_cmp n l) rows n l d e ms new (not-true _ (and_parts _ (none_named rows ms) h).0) tail (unnamed_put rows n d ms new tail)

-- ---- the members whose names are no row's

others_put_at : (o : Ordering) (rows : Rows) (n l : List ℕ) (d e : Data) (ms : Members) → slice_cmp nat_cmp n l ≡ o → has_row n rows ≡ true → others rows (put n d ms) ≡ others rows ms
    → others rows (match_ordering o (member n d (member l e ms)) (member l d ms) (member l e (put n d ms))) ≡ others rows (member l e ms)
others_put_at Less rows n l d e ms is has later = rw has refl
others_put_at Equal rows n l d e ms is has later =
    let also : has_row l rows ≡ true = ap (λ k. has_row k rows) (sym (same_name n l is)) ∙ has in
    rw also refl
others_put_at Greater rows n l d e ms is has later = ap (λ x. cond (has_row l rows) x (member l e x)) later

-- stay, whatever is put under a row's name
pub others_put : (rows : Rows) (n : List ℕ) (d : Data) (ms : Members) → has_row n rows ≡ true → others rows (put n d ms) ≡ others rows ms
others_put rows n d no_members has = rw has refl
others_put rows n d (member l e ms) has = others_put_at _ rows n l d e ms refl has (others_put rows n d ms has)

-- are all, where none has a row's name
pub others_all : (rows : Rows) (ms : Members) → none_named rows ms ≡ true → others rows ms ≡ ms
others_all rows no_members h = refl
others_all rows (member n d ms) h =
    rw (not-true _ (and_parts _ (none_named rows ms) h).0, others_all rows ms (and_parts (not (has_row n rows)) _ h).1) refl

-- are kept, or are none
pub kept_all : (keeps : Bool) (rows : Rows) (ms rest : Members) → others rows ms ≡ rest → (keeps || are_none rest) ≡ true → kept keeps rows ms ≡ rest
kept_all true rows ms rest is h = is
kept_all false rows ms no_members is h = refl
kept_all false rows ms (member n d rest) is h = absurd (false≢true h)
