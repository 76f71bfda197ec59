-- What was written is read back.
use Rattle.std.proofs.Common.{◌≡◌, ℕ, ◌^◌, List, [], ◌∷◌, length, Bool, true, false, ◌&&◌, ◌||◌, not, cond, nat_lt, nat_eq, Option, Some, None, option_map, is_some, refl, sym, ap, ◌∙◌, true≢false, subst}
use Rattle.std.proofs.lemmas.Bool.{false≢true, eqb-true, and_parts, or_parts, or_right, not-true}
use Rattle.std.proofs.lemmas.Option.{same_Some}
use Rattle.serde_json.specs.Data.{Num, Data, null, boolean, number, string, array, object as json_object, Items, item, Members, no_members, put}
use Rattle.serde_json.specs.Find.{get_member, as_null}
use Rattle.serde_json.proofs.Views.{get_member-put, get_member-put_other}
use Rattle.gltf_base.specs.Spelling.{Spelling, by_number, by_name}
use Rattle.gltf_base.specs.declared.choice.Form.{Form}
use Rattle.gltf_base.specs.declared.choice.Form.TheVariants as form
use Rattle.gltf_base.proofs.ItemLemmas.{same_spelling}
use Rattle.gltf_schema.specs.Tree as tree
use Rattle.gltf_schema.specs.Tree.{Tree, Trees, end, with_tree, is_absent}
use Rattle.gltf_schema.specs.Kind.{Mark, required, optional, always, unless, sometimes, or_null, Kind, IndexInto, SourceImage, ChannelSampler, U32, U64, Stride, Number, Numbers, Text, Truth, Any, Choice, Attributes, ListOf, Object, Rows, no_rows, row, has_row}
use Rattle.gltf_schema.specs.Read.{read, read_rows, read_items, read_member, all_numbers, spelling_in, others}
use Rattle.gltf_schema.specs.Write.{write, write_rows, write_items, write_member, write_entries, written, number_items, small_data, spelled, leaves_out, is_default, are_in_order}
use Rattle.gltf_schema.specs.Plain.{is_plain, are_plain, none_named, are_none, all_trees, is_null, is_null_kept, is_of_form}
use Rattle.gltf_schema.specs.Sound.{is_sound, are_sound}
use Rattle.gltf_schema.proofs.TakingOut.{sound_row, sound_rows}
use Rattle.gltf_schema.proofs.ReadPlain.{mapped, bound}
use Rattle.gltf_schema.proofs.PuttingIn.{other_name, has_own, unnamed_missing, unnamed_fewer, unnamed_put, others_put, others_all, kept_all}
use Rattle.gltf_schema.proofs.AttributesBack.{small_back, attributes_back}

-- ---- what an optional step gave

-- a test held, and then there was a value
pub allowed : {A : Type 0} (b : Bool) (r : Option A) (y : A) → cond b r None ≡ Some y → (b ≡ true) × (r ≡ Some y)
allowed true r y h = (refl, h)
allowed false r y h = absurd cc

-- ---- leaves and items

numbers_back : (xs : List Num) → all_numbers (number_items xs) ≡ Some xs
numbers_back [] = refl
numbers_back (x ∷ xs) = ap (option_map (λ ys. x ∷ ys)) (numbers_back xs)

spelling_back : (f : Form) (s : Spelling) → is_of_form f s ≡ true → spelling_in f (spelled s) ≡ Some s
spelling_back form.Number (by_number n) h = refl
spelling_back form.Name (by_name s) h = refl
spelling_back _ _ h = absurd (false≢true h)

items_back : (write : Tree → Option Data) (read : Data → Option Tree) (p : Tree → Bool) → ((t : Tree) (d : Data) → p t ≡ true → write t ≡ Some d → read d ≡ Some t)
    → (ts : Trees) (ds : Items) → all_trees p ts ≡ true → write_items write ts ≡ Some ds → read_items read ds ≡ Some ts
items_back write read p back end ds plain h = rw (← same_Some _ ds h) refl
items_back write read p back (with_tree t ts) ds plain h =
    let first = bound (write t) (λ d. option_map (item d) (write_items write ts)) ds h in
    let later = mapped (item first.0) (write_items write ts) ds first.2 in
    rw (← later.2, back t first.0 (and_parts _ (all_trees p ts) plain).0 first.1, items_back write read p back ts later.0 (and_parts (p t) _ plain).1 later.1) refl

-- ---- only a null that is kept is written as null

index_some : (n : ℕ) (d : Data) → small_data n ≡ Some d → is_some (as_null d) ≡ false
index_some n d h = let w = allowed (nat_lt n (2 ^ 32)) _ d h in rw (← same_Some _ d w.1) refl

spelling_some : (s : Spelling) → is_some (as_null (spelled s)) ≡ false
spelling_some (by_number n) = refl
spelling_some (by_name s) = refl

kept_some : (d : Data) → is_null (tree.any d) ≡ false → is_some (as_null d) ≡ false
kept_some null some = absurd (true≢false some)
kept_some (boolean b) some = refl
kept_some (number x) some = refl
kept_some (string s) some = refl
kept_some (array ds) some = refl
kept_some (json_object ms) some = refl

written_some : (kind : Kind) (t : Tree) (d : Data) → write kind t ≡ Some d → is_null t ≡ false → is_some (as_null d) ≡ false
written_some (IndexInto named) (tree.index n) d h some = index_some n d h
written_some SourceImage (tree.index n) d h some = index_some n d h
written_some ChannelSampler (tree.index n) d h some = index_some n d h
written_some U32 (tree.whole n) d h some = index_some n d h
written_some U64 (tree.whole n) d h some = rw (← same_Some _ d h) refl
written_some Stride (tree.whole n) d h some = rw (← same_Some _ d h) refl
written_some Number (tree.number x) d h some = rw (← same_Some _ d h) refl
written_some (Numbers n) (tree.numbers xs) d h some = let w = allowed (nat_eq (length xs) n) _ d h in rw (← same_Some _ d w.1) refl
written_some Text (tree.text s) d h some = rw (← same_Some _ d h) refl
written_some Truth (tree.truth b) d h some = rw (← same_Some _ d h) refl
written_some Any (tree.any e) d h some = rw (← same_Some _ d h) (kept_some e some)
written_some (Choice f spellings) (tree.chosen s) d h some = rw (← same_Some _ d h) (spelling_some s)
written_some (Attributes named) (tree.attributes es) d h some =
    let w = allowed (are_in_order es) _ d h in
    let ms = mapped json_object (write_entries es no_members) d w.1 in
    rw (← ms.2) refl
written_some (ListOf kind) (tree.list ts) d h some = let ds = mapped array (write_items (write kind) ts) d h in rw (← ds.2) refl
written_some (Object rule rows keeps) (tree.object ts rest) d h some = let ms = mapped json_object (write_rows rows ts rest) d h in rw (← ms.2) refl
written_some _ _ d h some = absurd cc

-- ---- one row's member

pub absent_is : (t : Tree) → is_absent t ≡ true → t ≡ tree.absent
absent_is tree.absent h = refl
absent_is _ h = absurd (false≢true h)

default_is : (x t : Tree) → is_default x t ≡ true → x ≡ t
default_is (tree.truth true) (tree.truth true) h = refl
default_is (tree.truth false) (tree.truth false) h = refl
default_is (tree.index m) (tree.index n) h = ap tree.index (eqb-true m n h)
default_is (tree.chosen s) (tree.chosen u) h = ap tree.chosen (same_spelling s u h)
default_is (tree.list end) (tree.list end) h = refl
default_is _ _ h = absurd (false≢true h)

-- a member that was left out
left_out_back : (mark : Mark) (read : Data → Option Tree) (t : Tree) → leaves_out mark t ≡ true → read_member mark read None ≡ Some t
left_out_back required read t h = absurd (false≢true h)
left_out_back optional read t h = ap Some (sym (absent_is t h))
left_out_back (always x) read t h = absurd (false≢true h)
left_out_back (unless x) read t h = ap Some (default_is x t h)
left_out_back sometimes read t h = ap Some (sym (absent_is t h))
left_out_back or_null read t h = absurd (false≢true h)

-- what a kind's tree is written as
record IsBack (write : Tree → Option Data) (read : Data → Option Tree) (t : Tree) : Type 0 where
  same : (d : Data) → write t ≡ Some d → read d ≡ Some t
  some : (d : Data) → write t ≡ Some d → is_null t ≡ false → is_some (as_null d) ≡ false

or_null_back : (write : Tree → Option Data) (read : Data → Option Tree) (t : Tree) (d : Data) → IsBack write read t → is_null t ≡ false → written or_null write t ≡ Some d → read_member or_null read (Some d) ≡ Some t
or_null_back write read tree.absent d back some h = rw (← same_Some _ d h) refl
or_null_back write read t d back some h = rw (back.some d h some) (back.same d h)

-- a member that was written
member_back : (mark : Mark) (write : Tree → Option Data) (read : Data → Option Tree) (t : Tree) (d : Data) → IsBack write read t → is_null_kept mark t ≡ false
    → written mark write t ≡ Some d → read_member mark read (Some d) ≡ Some t
member_back required write read t d back some h = back.same d h
member_back optional write read t d back some h = rw (back.some d h some) (back.same d h)
member_back (always x) write read t d back some h = back.same d h
member_back (unless x) write read t d back some h = back.same d h
member_back sometimes write read t d back some h = back.same d h
member_back or_null write read t d back some h = or_null_back write read t d back some h

-- the row's member is read back, other names keep theirs, and the members whose names are no row's
-- stay
record IsPut (n : List ℕ) (mark : Mark) (read : Data → Option Tree) (t : Tree) (old new : Members) : Type 0 where
  reads : get_member n old ≡ None → read_member mark read (get_member n new) ≡ Some t
  elsewhere : (q : List ℕ) → (q ≡ n → ⊥) → get_member q new ≡ get_member q old
  rest : (rows : Rows) → has_row n rows ≡ true → others rows new ≡ others rows old
  unnamed : (rows : Rows) → has_row n rows ≡ false → none_named rows old ≡ true → none_named rows new ≡ true

put_at : (b : Bool) (n : List ℕ) (mark : Mark) (write : Tree → Option Data) (read : Data → Option Tree) (t : Tree) (old new : Members) → IsBack write read t → is_null_kept mark t ≡ false
    → leaves_out mark t ≡ b → cond b (Some old) (option_map (λ d. put n d old) (written mark write t)) ≡ Some new → IsPut n mark read t old new
put_at true n mark write read t old new back some is h =
    subst (λ (ms : Members). IsPut n mark read t old ms) (same_Some old new h) (record {
      reads = λ none. rw none (left_out_back mark read t is);
      elsewhere = λ q other. refl;
      rest = λ rows has. refl;
      unnamed = λ rows off none. none;
    })
put_at false n mark write read t old new back some is h =
    let d = mapped (λ d. put n d old) (written mark write t) new h in
    subst (λ (ms : Members). IsPut n mark read t old ms) d.2 (record {
      reads = λ none. rw (get_member-put n d.0 old) (member_back mark write read t d.0 back some d.1);
      elsewhere = λ q other. get_member-put_other q n d.0 old other;
      rest = λ rows has. others_put rows n d.0 old has;
      unnamed = λ rows off none. unnamed_put rows n d.0 old off none;
    })

-- ---- kinds and rows

-- rows that were written are read back, other names keep their members, and so do members whose
-- names are no row's
record AreBack (rows : Rows) (ts : Trees) (old new : Members) : Type 0 where
  reads : read_rows rows new ≡ Some ts
  elsewhere : (q : List ℕ) → has_row q rows ≡ false → get_member q new ≡ get_member q old
  rest : (all : Rows) → ((q : List ℕ) → has_row q rows ≡ true → has_row q all ≡ true) → others all new ≡ others all old

one_more : (n : List ℕ) (mark : Mark) (kind : Kind) (rows : Rows) (t : Tree) (ts : Trees) (old mid new : Members) → has_row n rows ≡ false → none_named (row n mark kind rows) old ≡ true
    → IsPut n mark (read kind) t old mid → AreBack rows ts mid new → AreBack (row n mark kind rows) (with_tree t ts) old new
one_more n mark kind rows t ts old mid new apart none first later =
    let own = has_own n mark kind rows in
    record {
      reads = rw (later.elsewhere n apart, first.reads (unnamed_missing n (row n mark kind rows) old none own), later.reads) refl;
      elsewhere = λ q off.
          let both = or_parts _ (has_row q rows) off in
          later.elsewhere q both.1 ∙ first.elsewhere q (λ (same : q ≡ n). other_name n q both.0 (sym same));
      rest = λ all sub. later.rest all (λ q has. sub q (or_right _ (has_row q rows) has)) ∙ first.rest all (sub n own);
    }

mutual
  -- what a plain tree is written as is read back as that tree
  pub read_back : (kind : Kind) (t : Tree) (d : Data) → is_sound kind ≡ true → is_plain kind t ≡ true → write kind t ≡ Some d → read kind d ≡ Some t
  read_back (IndexInto named) (tree.index n) d sound plain h = rw (small_back n d h) refl
  read_back SourceImage (tree.index n) d sound plain h = rw (small_back n d h) refl
  read_back ChannelSampler (tree.index n) d sound plain h = rw (small_back n d h) refl
  read_back U32 (tree.whole n) d sound plain h = rw (small_back n d h) refl
  read_back U64 (tree.whole n) d sound plain h = rw (← same_Some _ d h) refl
  read_back Stride (tree.whole n) d sound plain h = rw (← same_Some _ d h) refl
  read_back Number (tree.number x) d sound plain h = rw (← same_Some _ d h) refl
  read_back (Numbers n) (tree.numbers xs) d sound plain h =
      let w = allowed (nat_eq (length xs) n) _ d h in
      rw (← same_Some _ d w.1, numbers_back xs, w.0) refl
  read_back Text (tree.text s) d sound plain h = rw (← same_Some _ d h) refl
  read_back Truth (tree.truth b) d sound plain h = rw (← same_Some _ d h) refl
  read_back Any (tree.any e) d sound plain h = rw (← same_Some _ d h) refl
  read_back (Choice f spellings) (tree.chosen s) d sound plain h =
      let of_form = (and_parts (is_of_form f s) _ plain).0 in
      rw (← same_Some _ d h, spelling_back f s of_form, (and_parts (is_of_form f s) _ plain).1) refl
  read_back (Attributes named) (tree.attributes es) d sound plain h =
      let w = allowed (are_in_order es) _ d h in
      let ms = mapped json_object (write_entries es no_members) d w.1 in
      rw (← ms.2, attributes_back es ms.0 w.0 ms.1) refl
  read_back (ListOf kind) (tree.list ts) d sound plain h =
      let ds = mapped array (write_items (write kind) ts) d h in
      rw (← ds.2, items_back (write kind) (read kind) (is_plain kind) (λ t e p g. read_back kind t e sound p g) ts ds.0 plain ds.1) refl
  read_back (Object rule rows keeps) (tree.object ts rest) d sound plain h =
      let two = (and_parts _ (keeps || are_none rest) plain).0 in
      let none = (and_parts (are_plain rows ts) _ two).1 in
      let ms = mapped json_object (write_rows rows ts rest) d h in
      let back = rows_back rows ts rest ms.0 (sound_rows rule rows sound) (and_parts _ (none_named rows rest) two).0 none ms.1 in
      let same : others rows ms.0 ≡ rest = back.rest rows (λ q has. has) ∙ others_all rows rest none in
      rw (← ms.2, back.reads, kept_all keeps rows ms.0 rest same (and_parts (are_plain rows ts && none_named rows rest) _ plain).1) refl
  read_back _ _ d sound plain h = absurd cc

  rows_back : (rows : Rows) (ts : Trees) (old new : Members) → are_sound rows ≡ true → are_plain rows ts ≡ true → none_named rows old ≡ true → write_rows rows ts old ≡ Some new → AreBack rows ts old new
  rows_back no_rows end old new sound plain none h =
      subst (λ (ms : Members). AreBack no_rows end old ms) (same_Some old new h) (record { reads = refl; elsewhere = λ q off. refl; rest = λ all sub. refl })
  rows_back (row n mark kind rows) (with_tree t ts) old new sound plain none h =
      let line = sound_row n mark kind rows sound in
      let two = (and_parts _ (are_plain rows ts) plain).0 in
      let kept = not-true _ (and_parts _ (is_plain kind t) two).0 in
      let fine = (and_parts (not (is_null_kept mark t)) _ two).1 in
      let mid = bound (write_member n mark (write kind) t old) (write_rows rows ts) new h in
      let back : IsBack (write kind) (read kind) t = record { same = λ d g. read_back kind t d line.inner fine g; some = λ d g some. written_some kind t d g some } in
      let first = put_at _ n mark (write kind) (read kind) t old mid.0 back kept refl mid.1 in
      let unnamed = first.unnamed rows line.apart (unnamed_fewer n mark kind rows old none) in
      one_more n mark kind rows t ts old mid.0 new line.apart none first
      (rows_back rows ts mid.0 new line.rest (and_parts (not (is_null_kept mark t) && is_plain kind t) _ plain).1 unnamed mid.2)
  rows_back _ _ old new sound plain none h = absurd cc
