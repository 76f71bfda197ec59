-- What is read is plain.
use Rattle.std.proofs.Common.{◌≡◌, ℕ, List, [], Bool, true, false, ◌||◌, not, cond, Option, Some, None, option_map, is_some, refl, length, nat_eq, Result, Ok, Err, IfOk}
use Rattle.std.proofs.lemmas.Bool.{and_from}
use Rattle.std.specs.List.{list_any}
use Rattle.serde_json.specs.Data.{Num, Data, null, boolean, number, string, array, object as json_object, Items, no_items, item, Members, no_members, member}
use Rattle.serde_json.specs.Find.{get_member, as_null, as_bool, as_number, as_str, as_array, as_object}
use Rattle.gltf_base.specs.Spelling.{Spelling, by_number, by_name, is_spelled}
use Rattle.gltf_base.specs.declared.choice.Form.{Form}
use Rattle.gltf_base.specs.declared.choice.Form.TheVariants as form
use Rattle.gltf_base.specs.declared.error.Error.{Error}
use Rattle.gltf_schema.specs.Outcome.{Reads}
use Rattle.gltf_schema.specs.Maybe.{◌>>=◌}
use Rattle.gltf_schema.specs.Tree as tree
use Rattle.gltf_schema.specs.Tree.{Tree, Trees, end, with_tree}
use Rattle.gltf_schema.specs.Kind.{Mark, required, optional, always, unless, sometimes, or_null, Kind, IndexInto, SourceImage, ChannelSampler, U32, U64, Stride, Number, Numbers, Text, Truth, Any, Choice, Attributes, ListOf, Object, Rows, no_rows, row, has_row}
use Rattle.gltf_schema.specs.Read.{read, read_rows, read_items, read_member, read_entries, choice_among, spelling_in, small_number, whole_number, all_numbers, others, kept}
use Rattle.gltf_schema.specs.Plain.{is_of_form, is_plain, are_plain, none_named, are_none, all_trees, is_null, is_null_kept}
use Rattle.gltf_schema.specs.Sound.{is_sound, are_sound, has_plain_default}
use Rattle.gltf_schema.proofs.TakingOut.{sound_row, sound_rows}

-- ---- what an optional step gave

pub mapped : {A B : Type 0} (f : A → B) (r : Option A) (y : B) → option_map f r ≡ Some y → (x : A) × (r ≡ Some x) × (f x ≡ y)
mapped f None y h = absurd cc
mapped f (Some x) y h = (x, refl, cc)

pub bound : {A B : Type 0} (r : Option A) (f : A → Option B) (y : B) → (r >>= f) ≡ Some y → (x : A) × (r ≡ Some x) × (f x ≡ Some y)
bound None f y h = absurd cc
bound (Some x) f y h = (x, refl, h)

-- ---- members

none_named_kept : (b : Bool) (rows : Rows) (n : List ℕ) (d : Data) (ms : Members) → has_row n rows ≡ b → none_named rows ms ≡ true → none_named rows (cond b ms (member n d ms)) ≡ true
none_named_kept true rows n d ms is h = h
none_named_kept false rows n d ms is h = rw is h

-- the others have no row's name
others_unnamed : (rows : Rows) (ms : Members) → none_named rows (others rows ms) ≡ true
others_unnamed rows no_members = refl
others_unnamed rows (member n d ms) = none_named_kept _ rows n d (others rows ms) refl (others_unnamed rows ms)

kept_unnamed : (keeps : Bool) (rows : Rows) (ms : Members) → none_named rows (kept keeps rows ms) ≡ true
kept_unnamed true rows ms = others_unnamed rows ms
kept_unnamed false rows ms = refl

kept_or_none : (keeps : Bool) (rows : Rows) (ms : Members) → (keeps || are_none (kept keeps rows ms)) ≡ true
kept_or_none true rows ms = refl
kept_or_none false rows ms = refl

-- ---- marks and leaves

spelled_of_form : (f : Form) (d : Data) (s : Spelling) → spelling_in f d ≡ Some s → is_of_form f s ≡ true
spelled_of_form form.Number d s h = let n = mapped by_number (whole_number d) s h in rw (← n.2) refl
spelled_of_form form.Name d s h = let t = mapped by_name (as_str d) s h in rw (← t.2) refl

choice_plain_at : (b : Bool) (f : Form) (spellings : List Spelling) (s : Spelling) → is_of_form f s ≡ true → list_any (λ t. is_spelled t s) spellings ≡ b
    → is_plain (Choice f spellings) (cond b (tree.chosen s) tree.invalid) ≡ true
choice_plain_at true f spellings s of_form is = rw of_form is
choice_plain_at false f spellings s of_form is = refl

choice_plain : (f : Form) (spellings : List Spelling) (d : Data) (s : Spelling) → spelling_in f d ≡ Some s → is_plain (Choice f spellings) (choice_among spellings s) ≡ true
choice_plain f spellings d s h = choice_plain_at _ f spellings s (spelled_of_form f d s h) refl

absent_plain : (kind : Kind) → is_plain kind tree.absent ≡ true
absent_plain (Choice form spellings) = refl
absent_plain (ListOf kind) = refl
absent_plain (Object rule rows keeps) = refl
absent_plain (IndexInto named) = refl
absent_plain SourceImage = refl
absent_plain ChannelSampler = refl
absent_plain U32 = refl
absent_plain U64 = refl
absent_plain Stride = refl
absent_plain Number = refl
absent_plain (Numbers n) = refl
absent_plain Text = refl
absent_plain Truth = refl
absent_plain Any = refl
absent_plain (Attributes named) = refl

-- ---- a null that is read is kept nowhere

not_null_from : {A : Type 0} (make : A → Tree) → ((x : A) → is_null (make x) ≡ false) → (r : Option A) (t : Tree) → option_map make r ≡ Some t → is_null t ≡ false
not_null_from make h r t e = let x = mapped make r t e in rw (← x.2) (h x.0)

choice_not_null_at : (b : Bool) (s : Spelling) → is_null (cond b (tree.chosen s) tree.invalid) ≡ false
choice_not_null_at true s = refl
choice_not_null_at false s = refl

some_not_null : (d : Data) → is_some (as_null d) ≡ false → is_null (tree.any d) ≡ false
some_not_null null h = absurd cc
some_not_null (boolean b) h = refl
some_not_null (number x) h = refl
some_not_null (string s) h = refl
some_not_null (array ds) h = refl
some_not_null (json_object ms) h = refl

numbers_not_null : (b : Bool) (xs : List Num) (t : Tree) → cond b (Some (tree.numbers xs)) None ≡ Some t → is_null t ≡ false
numbers_not_null true xs t h = let e : tree.numbers xs ≡ t = cc in rw (← e) refl
numbers_not_null false xs t h = absurd cc

not_null : (kind : Kind) (d : Data) (t : Tree) → is_some (as_null d) ≡ false → read kind d ≡ Some t → is_null t ≡ false
not_null (IndexInto named) d t some h = not_null_from tree.index (λ x. refl) (small_number d) t h
not_null SourceImage d t some h = not_null_from tree.index (λ x. refl) (small_number d) t h
not_null ChannelSampler d t some h = not_null_from tree.index (λ x. refl) (small_number d) t h
not_null U32 d t some h = not_null_from tree.whole (λ x. refl) (small_number d) t h
not_null U64 d t some h = not_null_from tree.whole (λ x. refl) (whole_number d) t h
not_null Stride d t some h = not_null_from tree.whole (λ x. refl) (whole_number d) t h
not_null Number d t some h = not_null_from tree.number (λ x. refl) (as_number d) t h
not_null (Numbers n) d t some h =
    let ds = bound (as_array d) _ t h in
    let xs = bound (all_numbers ds.0) _ t ds.2 in
    numbers_not_null (nat_eq (length xs.0) n) xs.0 t xs.2
not_null Text d t some h = not_null_from tree.text (λ x. refl) (as_str d) t h
not_null Truth d t some h = not_null_from tree.truth (λ x. refl) (as_bool d) t h
not_null Any d t some h = let e : tree.any d ≡ t = cc in rw (← e) (some_not_null d some)
not_null (Choice form spellings) d t some h = not_null_from (choice_among spellings) (λ s. choice_not_null_at _ s) (spelling_in form d) t h
not_null (Attributes named) d t some h =
    let ms = bound (as_object d) _ t h in
    not_null_from tree.attributes (λ x. refl) (read_entries [] ms.0) t ms.2
not_null (ListOf kind) d t some h =
    let ds = bound (as_array d) _ t h in
    not_null_from tree.list (λ x. refl) (read_items (read kind) ds.0) t ds.2
not_null (Object rule rows keeps) d t some h =
    let ms = bound (as_object d) _ t h in
    not_null_from (λ ts. tree.object ts (kept keeps rows ms.0)) (λ x. refl) (read_rows rows ms.0) t ms.2

-- ---- each kind

items_plain : (f : Data → Option Tree) (p : Tree → Bool) → ((d : Data) (t : Tree) → f d ≡ Some t → p t ≡ true) → (ds : Items) (ts : Trees) → read_items f ds ≡ Some ts → all_trees p ts ≡ true
items_plain f p each no_items ts h = let e : end ≡ ts = cc in rw (← e) refl
items_plain f p each (item d ds) ts h =
    let first = bound (f d) _ ts h in
    let later = mapped (with_tree first.0) (read_items f ds) ts first.2 in
    rw (← later.2) (and_from _ _ (each d first.0 first.1) (items_plain f p each ds later.0 later.1))

-- a member that is read is plain, and no null that is kept
record IsPlainMember (mark : Mark) (kind : Kind) (t : Tree) : Type 0 where
  seen : not (is_null_kept mark t) ≡ true
  plain : is_plain kind t ≡ true

absent_member : (mark : Mark) (kind : Kind) (t : Tree) → not (is_null_kept mark tree.absent) ≡ true → Some tree.absent ≡ Some t → IsPlainMember mark kind t
absent_member mark kind t kept h = let e : tree.absent ≡ t = cc in record { seen = rw (← e) kept; plain = rw (← e) (absent_plain kind) }

-- where null is read as absent
present_at : (b : Bool) (mark : Mark) (kind : Kind) (d : Data) (t : Tree) → ((u : Tree) → is_null_kept mark u ≡ is_null u) → is_some (as_null d) ≡ b
    → ((t : Tree) → read kind d ≡ Some t → is_plain kind t ≡ true) → cond b (Some tree.absent) (read kind d) ≡ Some t → IsPlainMember mark kind t
present_at true mark kind d t kept is each h = absent_member mark kind t (rw (kept tree.absent) refl) h
present_at false mark kind d t kept is each h = record { seen = rw (kept t, not_null kind d t is h) refl; plain = each t h }

default_member : (kind : Kind) (default t : Tree) → is_plain kind default ≡ true → Some default ≡ Some t → is_plain kind t ≡ true
default_member kind default t plain h = let e : default ≡ t = cc in rw (← e) plain

member_plain : (mark : Mark) (kind : Kind) (m : Option Data) (t : Tree) → has_plain_default mark kind ≡ true → ((d : Data) (t : Tree) → read kind d ≡ Some t → is_plain kind t ≡ true)
    → read_member mark (read kind) m ≡ Some t → IsPlainMember mark kind t
member_plain required kind None t default each h = absurd cc
member_plain required kind (Some d) t default each h = record { seen = refl; plain = each d t h }
member_plain optional kind None t default each h = absent_member optional kind t refl h
member_plain optional kind (Some d) t default each h = present_at _ optional kind d t (λ u. refl) refl (each d) h
member_plain (always x) kind None t default each h = record { seen = refl; plain = default_member kind x t default h }
member_plain (always x) kind (Some d) t default each h = record { seen = refl; plain = each d t h }
member_plain (unless x) kind None t default each h = record { seen = refl; plain = default_member kind x t default h }
member_plain (unless x) kind (Some d) t default each h = record { seen = refl; plain = each d t h }
member_plain sometimes kind None t default each h = absent_member sometimes kind t refl h
member_plain sometimes kind (Some d) t default each h = record { seen = refl; plain = each d t h }
member_plain or_null kind None t default each h = absent_member or_null kind t refl h
member_plain or_null kind (Some d) t default each h = present_at _ or_null kind d t (λ u. refl) refl (each d) h

mutual
  -- what a sound kind reads is plain
  pub read_plain : (kind : Kind) (d : Data) (t : Tree) → is_sound kind ≡ true → read kind d ≡ Some t → is_plain kind t ≡ true
  read_plain (IndexInto named) d t sound h = refl
  read_plain SourceImage d t sound h = refl
  read_plain ChannelSampler d t sound h = refl
  read_plain U32 d t sound h = refl
  read_plain U64 d t sound h = refl
  read_plain Stride d t sound h = refl
  read_plain Number d t sound h = refl
  read_plain (Numbers n) d t sound h = refl
  read_plain Text d t sound h = refl
  read_plain Truth d t sound h = refl
  read_plain Any d t sound h = refl
  read_plain (Attributes named) d t sound h = refl
  read_plain (Choice f spellings) d t sound h = let s = mapped (choice_among spellings) (spelling_in f d) t h in rw (← s.2) (choice_plain f spellings d s.0 s.1)
  read_plain (ListOf kind) d t sound h =
      let ds = bound (as_array d) _ t h in
      let ts = mapped tree.list (read_items (read kind) ds.0) t ds.2 in
      rw (← ts.2) (items_plain (read kind) (is_plain kind) (λ x u e. read_plain kind x u sound e) ds.0 ts.0 ts.1)
  read_plain (Object rule rows keeps) d t sound h =
      let ms = bound (as_object d) _ t h in
      let ts = mapped (λ us. tree.object us (kept keeps rows ms.0)) (read_rows rows ms.0) t ms.2 in
      rw (← ts.2) (and_from _ _ (and_from _ _ (rows_plain rows ms.0 ts.0 (sound_rows rule rows sound) ts.1) (kept_unnamed keeps rows ms.0)) (kept_or_none keeps rows ms.0))

  rows_plain : (rows : Rows) (ms : Members) (ts : Trees) → are_sound rows ≡ true → read_rows rows ms ≡ Some ts → are_plain rows ts ≡ true
  rows_plain no_rows ms ts sound h = refl
  rows_plain (row n mark kind rows) ms ts sound h =
      let line = sound_row n mark kind rows sound in
      let first = bound (read_member mark (read kind) (get_member n ms)) _ ts h in
      let later = mapped (with_tree first.0) (read_rows rows ms) ts first.2 in
      let member = member_plain mark kind (get_member n ms) first.0 line.default (λ d t e. read_plain kind d t line.inner e) first.1 in
      rw (← later.2) (and_from _ _ (and_from _ _ member.seen member.plain) (rows_plain rows ms later.0 line.rest later.1))

-- an object that was read is plain
pub decoded_plain : {X : Type 0} (kind : Kind) (tree : X → Tree) (r : Result X Error) (d : Data) → is_sound kind ≡ true → Reads tree r (read kind d) → IfOk r (λ x. is_plain kind (tree x) ≡ true)
decoded_plain kind tree (Ok x) d sound h = read_plain kind d (tree x) sound h
decoded_plain kind tree (Err e) d sound h = tt
