-- A member taken out of an object, and rows that take theirs out one after another.
use Rattle.std.proofs.Common.{◌≡◌, ℕ, List, [], ◌∷◌, Bool, true, false, ◌&&◌, ◌||◌, not, cond, Option, Some, None, option_map, String, Global, string_bytes, bytes_eq, is_eq, nat_cmp, refl, sym, ap, ◌∙◌, true≢false, subst, Ordering, Less, Equal, Greater, Result, Ok, Err}
use Rattle.std.proofs.lemmas.Bool.{and_parts, or_parts, not-true}
use Rattle.std.specs.Ordering.{match_ordering}
use Rattle.gltf_base.specs.declared.error.Error.{Error}
use Rattle.gltf_base.specs.declared.error.Error.TheVariants as errors
use Rattle.gltf_schema.specs.Outcome.{Reads, Refuses}
use Rattle.std.proofs.lemmas.Map.Text.{is_eq-slice_cmp}
use Rattle.std.proofs.lemmas.Slice.Eq.{bytes_eq-Decides}
use Rattle.std.specs.BTreeMap.{is_at}
use Rattle.std.specs.Cmp.Lexicographic.{slice_cmp}
use Rattle.std.specs.Map.{lookup, remove_entry}
use Rattle.serde_json.specs.Data.{Data, Members, no_members, member}
use Rattle.serde_json.specs.Find.{get_member}
use Rattle.serde_json.specs.View.{members_view, view}
use Rattle.serde_json.specs.declared.value.Value.{Value}
use Rattle.serde_json.proofs.Views.{Entry, view-lookup}
use Rattle.gltf_schema.specs.Tree.{Tree, object, Trees, with_tree}
use Rattle.gltf_schema.specs.Kind.{Mark, Kind, Rows, no_rows, row, has_row, Rule}
use Rattle.gltf_schema.specs.Maybe.{◌>>=◌}
use Rattle.gltf_schema.specs.Read.{read, read_member, read_rows, others, left, kept}
use Rattle.gltf_schema.specs.Sound.{are_sound, has_plain_default, has_written_default, is_sound, suits}
use Rattle.gltf_schema.specs.Taken.{without, take_member, take_rows, take_all}

abbrev finds : List ℕ → String Global → Bool
finds name = is_at (λ k. slice_cmp nat_cmp name (string_bytes k))

gone_at : (b : Bool) (name : List ℕ) (e : Entry) (es : List Entry) → is_eq (slice_cmp nat_cmp name (string_bytes e.0)) ≡ b → cond b (Some e.1) (lookup (finds name) es) ≡ None
    → (lookup (finds name) es ≡ None → without name (members_view es) ≡ members_view es) → without name (members_view (e ∷ es)) ≡ members_view (e ∷ es)
gone_at true name e es is h later = absurd cc
gone_at false name e es is h later =
    let apart : bytes_eq name (string_bytes e.0) ≡ false = sym (is_eq-slice_cmp name (string_bytes e.0)) ∙ is in
    rw apart (ap (member (string_bytes e.0) (view e.1)) (later h))

-- taking out a name that no entry has changes nothing
gone : (name : List ℕ) (es : List Entry) → lookup (finds name) es ≡ None → without name (members_view es) ≡ members_view es
gone name [] h = refl
gone name (e ∷ es) h = gone_at _ name e es refl h (gone name es)

removed_at : (b : Bool) (name : List ℕ) (e : Entry) (es : List Entry) → is_eq (slice_cmp nat_cmp name (string_bytes e.0)) ≡ b → lookup (finds name) (cond b es (e ∷ remove_entry (finds name) es)) ≡ None
    → (lookup (finds name) (remove_entry (finds name) es) ≡ None → members_view (remove_entry (finds name) es) ≡ without name (members_view es))
    → members_view (cond b es (e ∷ remove_entry (finds name) es)) ≡ without name (members_view (e ∷ es))
removed_at true name e es is h later =
    let same : bytes_eq name (string_bytes e.0) ≡ true = sym (is_eq-slice_cmp name (string_bytes e.0)) ∙ is in
    rw same (sym (gone name es h))
removed_at false name e es is h later =
    let apart : bytes_eq name (string_bytes e.0) ≡ false = sym (is_eq-slice_cmp name (string_bytes e.0)) ∙ is in
    let missed : cond (is_eq (slice_cmp nat_cmp name (string_bytes e.0))) (Some e.1) (lookup (finds name) (remove_entry (finds name) es)) ≡ None = h in
    rw apart (ap (member (string_bytes e.0) (view e.1)) (later (rw is at missed)))

-- a map without the name's entry has the members without the name
pub removed : (name : List ℕ) (es : List Entry) → lookup (finds name) (remove_entry (finds name) es) ≡ None → members_view (remove_entry (finds name) es) ≡ without name (members_view es)
removed name [] h = refl
removed name (e ∷ es) h = removed_at _ name e es refl h (removed name es)

-- the value that is found under a name is the member of that name
pub looked_up : (name : List ℕ) (es : List Entry) (r : Option Value) → r ≡ lookup (finds name) es → option_map view r ≡ get_member name (members_view es)
looked_up name es r is = ap (option_map view) is ∙ view-lookup name es

-- ---- rows

-- where two names differ, it is the same whichever comes first
either : (o : Ordering) (a b : Option Data) → is_eq o ≡ false → match_ordering o a b a ≡ a
either Less a b e = refl
either Equal a b e = absurd (true≢false e)
either Greater a b e = refl

-- a member of another name is not the one that is looked for
pub skips : (q m : List ℕ) (d : Data) (ms : Members) → bytes_eq q m ≡ false → get_member q (member m d ms) ≡ get_member q ms
skips q m d ms apart = either (slice_cmp nat_cmp q m) _ _ (is_eq-slice_cmp q m ∙ apart)

get_without_at : (b : Bool) (q n m : List ℕ) (d : Data) (ms : Members) → bytes_eq n m ≡ b → bytes_eq q n ≡ false → get_member q (without n ms) ≡ get_member q ms
    → get_member q (cond b (without n ms) (member m d (without n ms))) ≡ get_member q (member m d ms)
get_without_at true q n m d ms is apart later =
    let same : n ≡ m = (bytes_eq-Decides n m).0 is in
    later ∙ sym (skips q m d ms (rw (← same) apart))
get_without_at false q n m d ms is apart later = ap (λ r. match_ordering (slice_cmp nat_cmp q m) r (Some d) r) later

pub get_without : (q n : List ℕ) (ms : Members) → bytes_eq q n ≡ false → get_member q (without n ms) ≡ get_member q ms
get_without q n no_members apart = refl
get_without q n (member m d ms) apart = get_without_at _ q n m d ms refl apart (get_without q n ms apart)

-- what a sound line of the table says
pub record IsSoundRow (n : List ℕ) (mark : Mark) (kind : Kind) (rows : Rows) : Type 0 where
  pub apart : has_row n rows ≡ false
  pub default : has_plain_default mark kind ≡ true
  pub written : has_written_default mark kind ≡ true
  pub inner : is_sound kind ≡ true
  pub rest : are_sound rows ≡ true

-- each line of a sound table says it
pub sound_row : (n : List ℕ) (mark : Mark) (kind : Kind) (rows : Rows) → are_sound (row n mark kind rows) ≡ true → IsSoundRow n mark kind rows
sound_row n mark kind rows h =
    let apart = not (has_row n rows) in
    let plain = has_plain_default mark kind in
    let written = has_written_default mark kind in
    let four = (and_parts (apart && plain && written && is_sound kind) (are_sound rows) h).0 in
    let three = (and_parts (apart && plain && written) (is_sound kind) four).0 in
    let two = (and_parts (apart && plain) written three).0 in
    record {
      apart = not-true _ (and_parts apart plain two).0;
      default = (and_parts apart plain two).1;
      written = (and_parts (apart && plain) written three).1;
      inner = (and_parts (apart && plain && written) (is_sound kind) four).1;
      rest = (and_parts (apart && plain && written && is_sound kind) (are_sound rows) h).1;
    }

-- the rows of a sound object are sound
pub sound_rows : (rule : Rule) (rows : Rows) → (suits rule rows && are_sound rows) ≡ true → are_sound rows ≡ true
sound_rows rule rows h = (and_parts (suits rule rows) (are_sound rows) h).1

rows_without : (rows : Rows) (n : List ℕ) (ms : Members) → has_row n rows ≡ false → read_rows rows (without n ms) ≡ read_rows rows ms
rows_without no_rows n ms h = refl
rows_without (row m mark kind rows) n ms h =
    let apart = or_parts (bytes_eq m n) (has_row n rows) h in
    rw (get_without m n ms apart.0, rows_without rows n ms apart.1) refl

others_none : (ms : Members) → others no_rows ms ≡ ms
others_none no_members = refl
others_none (member n d ms) = ap (member n d) (others_none ms)

others_without_at : (b : Bool) (n m : List ℕ) (mark : Mark) (kind : Kind) (rows : Rows) (d : Data) (ms : Members) → others rows (without n ms) ≡ others (row n mark kind rows) ms
    → others rows (cond b (without n ms) (member m d (without n ms))) ≡ cond (b || has_row m rows) (others (row n mark kind rows) ms) (member m d (others (row n mark kind rows) ms))
others_without_at true n m mark kind rows d ms later = later
others_without_at false n m mark kind rows d ms later = ap (λ x. cond (has_row m rows) x (member m d x)) later

others_without : (n : List ℕ) (mark : Mark) (kind : Kind) (rows : Rows) (ms : Members) → others rows (without n ms) ≡ others (row n mark kind rows) ms
others_without n mark kind rows no_members = refl
others_without n mark kind rows (member m d ms) = others_without_at (bytes_eq n m) n m mark kind rows d ms (others_without n mark kind rows ms)

abbrev with_kept : Members → Trees → Trees × Members
with_kept ms ts = (ts, ms)

abbrev then_tree : Tree → Trees × Members → Trees × Members
then_tree t r = (with_tree t r.0, r.1)

abbrev and_left : Members → Tree → Tree × Members
and_left ms t = (t, ms)

joined : (read : Option Trees) (t : Tree) (ms : Members) → option_map (then_tree t) (option_map (with_kept ms) read) ≡ option_map (with_kept ms) (option_map (with_tree t) read)
joined None t ms = refl
joined (Some ts) t ms = refl

head_read : (head : Option Tree) (n : List ℕ) (mark : Mark) (kind : Kind) (rows : Rows) (ms : Members)
    → take_rows rows (without n ms) ≡ option_map (with_kept (others (row n mark kind rows) ms)) (read_rows rows ms)
    → (option_map (and_left (without n ms)) head >>= λ x. option_map (then_tree x.0) (take_rows rows x.1))
    ≡ option_map (with_kept (others (row n mark kind rows) ms)) (head >>= λ t. option_map (with_tree t) (read_rows rows ms))
head_read None n mark kind rows ms later = refl
head_read (Some t) n mark kind rows ms later = rw later (joined (read_rows rows ms) t _)

-- rows that are taken in turn are the rows that are read
taken_is_read : (rows : Rows) (ms : Members) → are_sound rows ≡ true → take_rows rows ms ≡ option_map (with_kept (others rows ms)) (read_rows rows ms)
unfolding take_rows take_member
taken_is_read no_rows ms sound = rw others_none refl
taken_is_read (row n mark kind rows) ms sound =
    let line = sound_row n mark kind rows sound in
    let later = taken_is_read rows (without n ms) line.rest ∙ rw (rows_without rows n ms line.apart, others_without n mark kind rows ms) refl in
    head_read (read_member mark (read kind) (get_member n ms)) n mark kind rows ms later

left_kept : (keeps : Bool) (read : Option Trees) (ms : Members) → option_map (λ (r : Trees × Members). (r.0, left keeps r.1)) (option_map (with_kept ms) read) ≡ option_map (with_kept (left keeps ms)) read
left_kept keeps None ms = refl
left_kept keeps (Some ts) ms = refl

all_is_read : (rows : Rows) (keeps : Bool) (ms : Members) → are_sound rows ≡ true → take_all rows keeps ms ≡ option_map (with_kept (kept keeps rows ms)) (read_rows rows ms)
unfolding take_all
all_is_read rows keeps ms sound = rw (taken_is_read rows ms sound, left_kept keeps (read_rows rows ms) (others rows ms)) refl

made : (read : Option Trees) (ms : Members) → option_map (λ ts. object ts ms) read ≡ option_map (λ p. object p.0 p.1) (option_map (with_kept ms) read)
made None ms = refl
made (Some ts) ms = refl

-- what is made of something refused is refused
pub refused_through : {A B : Type 0} (e : Error) (r : Option A) (s : Option B) → (r ≡ None → s ≡ None) → Refuses e r → Refuses e s
refused_through (errors.Memory e) r s through h = tt
refused_through errors.Schema r s through h = through h
refused_through errors.Json r s through h = h
refused_through errors.InvalidItem r s through h = h
refused_through errors.Read r s through h = h
refused_through errors.Write r s through h = h
refused_through errors.TooLong r s through h = h

-- so is what a function makes of it
pub refused : {A B : Type 0} (e : Error) (f : A → B) (read : Option A) → Refuses e read → Refuses e (option_map f read)
refused e f read h = refused_through e read (option_map f read) (ap (option_map f)) h

-- an object is read as its rows are taken
pub decoded : {X : Type 0} (r : Result X Error) (f : X → Trees) (g : X → Members) (rows : Rows) (keeps : Bool) (ms : Members) → are_sound rows ≡ true
    → Reads (λ x. (f x, g x)) r (take_all rows keeps ms) → Reads (λ x. object (f x) (g x)) r (option_map (λ ts. object ts (kept keeps rows ms)) (read_rows rows ms))
decoded (Ok x) f g rows keeps ms sound h =
    made (read_rows rows ms) (kept keeps rows ms) ∙ ap (option_map (λ (p : Trees × Members). object p.0 p.1)) (sym (all_is_read rows keeps ms sound) ∙ h)
decoded (Err e) f g rows keeps ms sound h =
    subst (Refuses e) (sym (made (read_rows rows ms) (kept keeps rows ms))) (refused e (λ (p : Trees × Members). object p.0 p.1) _ (subst (Refuses e) (all_is_read rows keeps ms sound) h))
