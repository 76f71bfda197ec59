-- What was read is refused for writing exactly where something in it is invalid.
use Rattle.std.proofs.Common.{◌≡◌, ◌↔◌, ℕ, List, [], ◌∷◌, length, Bool, true, false, ◌||◌, cond, nat_eq, Option, Some, None, option_map, is_some, refl, sym, ap, ◌∙◌, true≢false}
use Rattle.std.proofs.lemmas.Bool.{false≢true, or_parts, or_from, or_right}
use Rattle.std.proofs.lemmas.Option.{same_Some}
use Rattle.std.specs.List.{list_any}
use Rattle.serde_json.specs.Data.{Data, array, object as json_object, Items, no_items, item, Members, no_members, put}
use Rattle.serde_json.specs.Find.{get_member, as_null, as_bool, as_number, as_str, as_array, as_object}
use Rattle.gltf_base.specs.Keys.{Key, unknown}
use Rattle.gltf_base.specs.Spelling.{Spelling, is_spelled}
use Rattle.gltf_base.specs.declared.choice.Form.{Form}
use Rattle.gltf_base.specs.Names.{is_named}
use Rattle.gltf_schema.specs.Maybe.{◌>>=◌}
use Rattle.gltf_schema.specs.Tree as tree
use Rattle.gltf_schema.specs.Tree.{Tree, Trees, end, with_tree}
use Rattle.gltf_schema.specs.Kind.{Mark, required, optional, always, unless, sometimes, or_null, Kind, IndexInto, SourceImage, ChannelSampler, U32, U64, Stride, Number, Numbers, Text, Truth, Any, Choice, Attributes, ListOf, Object, Rows, no_rows, row}
use Rattle.gltf_schema.specs.Read.{read, read_rows, read_items, read_member, read_entries, all_numbers, spelling_in, choice_among, small_number, whole_number, kept}
use Rattle.gltf_schema.specs.Write.{write, write_rows, write_items, write_member, write_entries, written, leaves_out, is_default, key_name, small_data, are_in_order}
use Rattle.gltf_schema.specs.Invalid.{is_unknown, any_unknown, holds_invalid, any_holds_invalid}
use Rattle.gltf_schema.specs.Sound.{has_written_default, is_sound, are_sound}
use Rattle.gltf_schema.proofs.TakingOut.{sound_row, sound_rows}
use Rattle.gltf_schema.proofs.ReadPlain.{mapped, bound}
use Rattle.gltf_schema.proofs.ReadBack.{allowed, absent_is}
use Rattle.gltf_schema.proofs.AttributesRead.{small_is, attributes_written}

-- ---- what is written holds nothing invalid

named_known : (k : Key) → is_named k ≡ true → is_unknown k ≡ false
named_known unknown h = absurd (false≢true h)
named_known _ h = refl

entries_known : (es : List (Key × ℕ)) (old new : Members) → write_entries es old ≡ Some new → any_unknown es ≡ false
entries_known [] old new h = refl
entries_known (e ∷ es) old new h =
    let name = bound (key_name e.0) (λ n. small_data e.1 >>= λ d. write_entries es (put n d old)) new h in
    let value = bound (small_data e.1) (λ d. write_entries es (put name.0 d old)) new name.2 in
    let named = allowed (is_named e.0) _ name.0 name.1 in
    or_from (is_unknown e.0) _ (named_known e.0 named.0) (entries_known es (put name.0 value.0 old) new value.2)

items_valid : (write : Tree → Option Data) → ((t : Tree) (d : Data) → write t ≡ Some d → holds_invalid t ≡ false)
    → (ts : Trees) (ds : Items) → write_items write ts ≡ Some ds → any_holds_invalid ts ≡ false
items_valid write each end ds h = refl
items_valid write each (with_tree t ts) ds h =
    let first = bound (write t) (λ d. option_map (item d) (write_items write ts)) ds h in
    let later = mapped (item first.0) (write_items write ts) ds first.2 in
    or_from (holds_invalid t) _ (each t first.0 first.1) (items_valid write each ts later.0 later.1)

default_valid : (x t : Tree) → is_default x t ≡ true → holds_invalid t ≡ false
default_valid (tree.truth true) (tree.truth b) h = refl
default_valid (tree.truth false) (tree.truth b) h = refl
default_valid (tree.index m) (tree.index n) h = refl
default_valid (tree.chosen s) (tree.chosen u) h = refl
default_valid (tree.list end) (tree.list end) h = refl
default_valid _ _ h = absurd (false≢true h)

-- a member that is left out
left_out_valid : (mark : Mark) (t : Tree) → leaves_out mark t ≡ true → holds_invalid t ≡ false
left_out_valid optional t h = rw (absent_is t h) refl
left_out_valid (unless x) t h = default_valid x t h
left_out_valid sometimes t h = rw (absent_is t h) refl
left_out_valid _ t h = absurd (false≢true h)

-- a member that is written
put_valid : (mark : Mark) (write : Tree → Option Data) (t : Tree) (d : Data) → ((d : Data) → write t ≡ Some d → holds_invalid t ≡ false) → written mark write t ≡ Some d → holds_invalid t ≡ false
put_valid or_null write tree.absent d each h = refl
put_valid _ write t d each h = each d h

member_valid : (b : Bool) (n : List ℕ) (mark : Mark) (write : Tree → Option Data) (t : Tree) (old new : Members) → ((d : Data) → write t ≡ Some d → holds_invalid t ≡ false)
    → leaves_out mark t ≡ b → cond b (Some old) (option_map (λ d. put n d old) (written mark write t)) ≡ Some new → holds_invalid t ≡ false
member_valid true n mark write t old new each is h = left_out_valid mark t is
member_valid false n mark write t old new each is h =
    let d = mapped (λ d. put n d old) (written mark write t) new h in
    put_valid mark write t d.0 each d.1

mutual
  -- whatever tree it is
  pub written_valid : (kind : Kind) (t : Tree) (d : Data) → write kind t ≡ Some d → holds_invalid t ≡ false
  written_valid (Attributes named) (tree.attributes es) d h =
      let w = allowed (are_in_order es) _ d h in
      let ms = mapped json_object (write_entries es no_members) d w.1 in
      entries_known es no_members ms.0 ms.1
  written_valid (ListOf kind) (tree.list ts) d h =
      let ds = mapped array (write_items (write kind) ts) d h in
      items_valid (write kind) (λ t e g. written_valid kind t e g) ts ds.0 ds.1
  written_valid (Object rule rows keeps) (tree.object ts rest) d h =
      let ms = mapped json_object (write_rows rows ts rest) d h in
      rows_valid rows ts rest ms.0 ms.1
  written_valid _ tree.invalid d h = absurd cc
  written_valid _ _ d h = cc

  rows_valid : (rows : Rows) (ts : Trees) (old new : Members) → write_rows rows ts old ≡ Some new → any_holds_invalid ts ≡ false
  rows_valid no_rows end old new h = refl
  rows_valid (row n mark kind rows) (with_tree t ts) old new h =
      let mid = bound (write_member n mark (write kind) t old) (write_rows rows ts) new h in
      or_from (holds_invalid t) _ (member_valid _ n mark (write kind) t old mid.0 (λ d g. written_valid kind t d g) refl mid.1) (rows_valid rows ts mid.0 new mid.2)
  rows_valid _ _ old new h = absurd cc

-- ---- what was read is written where it holds nothing invalid

pub some_mapped : {A B : Type 0} (f : A → B) (r : Option A) → is_some r ≡ true → is_some (option_map f r) ≡ true
some_mapped f None h = h
some_mapped f (Some x) h = refl

pub some_bound : {A B : Type 0} (f : A → Option B) (r : Option A) → is_some r ≡ true → ((x : A) → is_some (f x) ≡ true) → is_some (r >>= f) ≡ true
some_bound f None h each = absurd (false≢true h)
some_bound f (Some x) h each = each x

items_written : (read : Data → Option Tree) (write : Tree → Option Data) → ((d : Data) (t : Tree) → read d ≡ Some t → holds_invalid t ≡ false → is_some (write t) ≡ true)
    → (ds : Items) (ts : Trees) → read_items read ds ≡ Some ts → any_holds_invalid ts ≡ false → is_some (write_items write ts) ≡ true
items_written read write each no_items ts h valid = rw (← same_Some end ts h) refl
items_written read write each (item d ds) ts h valid =
    let first = bound (read d) _ ts h in
    let later = mapped (with_tree first.0) (read_items read ds) ts first.2 in
    let apart = or_parts (holds_invalid first.0) (any_holds_invalid later.0) (ap any_holds_invalid later.2 ∙ valid) in
    rw (← later.2) (some_bound (λ e. option_map (item e) (write_items write later.0)) (write first.0) (each d first.0 first.1 apart.0)
    (λ e. some_mapped (item e) (write_items write later.0) (items_written read write each ds later.0 later.1 apart.1)))

-- the row's member is left out or written
abbrev pub is_done : Mark → (Tree → Option Data) → Tree → Bool
is_done mark write t = leaves_out mark t || is_some (written mark write t)

pub done_written : (mark : Mark) (write : Tree → Option Data) (t : Tree) → is_some (write t) ≡ true → is_done mark write t ≡ true
done_written or_null write tree.absent h = refl
done_written mark write t h = or_right (leaves_out mark t) _ h

-- where null is read as absent
present_done : (b : Bool) (mark : Mark) (write : Tree → Option Data) (r : Option Tree) (t : Tree) → is_done mark write tree.absent ≡ true → (r ≡ Some t → is_some (write t) ≡ true)
    → cond b (Some tree.absent) r ≡ Some t → is_done mark write t ≡ true
present_done true mark write r t absent each h = rw (← same_Some tree.absent t h) absent
present_done false mark write r t absent each h = done_written mark write t (each h)

-- a member that was read
member_done : (mark : Mark) (kind : Kind) (m : Option Data) (t : Tree) → has_written_default mark kind ≡ true → ((d : Data) → read kind d ≡ Some t → is_some (write kind t) ≡ true)
    → read_member mark (read kind) m ≡ Some t → is_done mark (write kind) t ≡ true
member_done required kind None t default each h = absurd cc
member_done optional kind None t default each h = rw (← same_Some tree.absent t h) refl
member_done optional kind (Some d) t default each h = present_done (is_some (as_null d)) optional (write kind) (read kind d) t refl (each d) h
member_done (always x) kind None t default each h = rw (← same_Some x t h) default
member_done (unless x) kind None t default each h = rw (← same_Some x t h) (done_written (unless x) (write kind) x default)
member_done sometimes kind None t default each h = rw (← same_Some tree.absent t h) refl
member_done or_null kind None t default each h = rw (← same_Some tree.absent t h) refl
member_done or_null kind (Some d) t default each h = present_done (is_some (as_null d)) or_null (write kind) (read kind d) t refl (each d) h
member_done mark kind (Some d) t default each h = done_written mark (write kind) t (each d h)

pub done_put : (left : Bool) (n : List ℕ) (d : Option Data) (ms : Members) → (left || is_some d) ≡ true → is_some (cond left (Some ms) (option_map (λ e. put n e ms) d)) ≡ true
done_put true n d ms h = refl
done_put false n d ms h = some_mapped (λ e. put n e ms) d h

choice_written : (b : Bool) (f : Form) (spellings : List Spelling) (s : Spelling) → holds_invalid (cond b (tree.chosen s) tree.invalid) ≡ false
    → is_some (write (Choice f spellings) (cond b (tree.chosen s) tree.invalid)) ≡ true
choice_written true f spellings s valid = refl
choice_written false f spellings s valid = absurd (true≢false valid)

index_written : (d : Data) (n : ℕ) → small_number d ≡ Some n → is_some (small_data n) ≡ true
index_written d n h = rw (small_is d n h) refl

mutual
  -- by any sound kind
  valid_written : (kind : Kind) (d : Data) (t : Tree) → is_sound kind ≡ true → read kind d ≡ Some t → holds_invalid t ≡ false → is_some (write kind t) ≡ true
  valid_written (IndexInto named) d t sound h valid = let n = mapped tree.index (small_number d) t h in rw (← n.2) (index_written d n.0 n.1)
  valid_written SourceImage d t sound h valid = let n = mapped tree.index (small_number d) t h in rw (← n.2) (index_written d n.0 n.1)
  valid_written ChannelSampler d t sound h valid = let n = mapped tree.index (small_number d) t h in rw (← n.2) (index_written d n.0 n.1)
  valid_written U32 d t sound h valid = let n = mapped tree.whole (small_number d) t h in rw (← n.2) (index_written d n.0 n.1)
  valid_written U64 d t sound h valid = let n = mapped tree.whole (whole_number d) t h in rw (← n.2) refl
  valid_written Stride d t sound h valid = let n = mapped tree.whole (whole_number d) t h in rw (← n.2) refl
  valid_written Number d t sound h valid = let x = mapped tree.number (as_number d) t h in rw (← x.2) refl
  valid_written (Numbers n) d t sound h valid =
      let ds = bound (as_array d) _ t h in
      let xs = bound (all_numbers ds.0) _ t ds.2 in
      let w = allowed (nat_eq (length xs.0) n) _ t xs.2 in
      rw (← same_Some (tree.numbers xs.0) t w.1, w.0) refl
  valid_written Text d t sound h valid = let s = mapped tree.text (as_str d) t h in rw (← s.2) refl
  valid_written Truth d t sound h valid = let b = mapped tree.truth (as_bool d) t h in rw (← b.2) refl
  valid_written Any d t sound h valid = rw (← same_Some (tree.any d) t h) refl
  valid_written (Choice f spellings) d t sound h valid =
      let s = mapped (choice_among spellings) (spelling_in f d) t h in
      rw (← s.2) (choice_written (list_any (λ u. is_spelled u s.0) spellings) f spellings s.0 (ap holds_invalid s.2 ∙ valid))
  valid_written (Attributes named) d t sound h valid =
      let ms = bound (as_object d) _ t h in
      let es = mapped tree.attributes (read_entries [] ms.0) t ms.2 in
      let done = attributes_written ms.0 es.0 es.1 (ap holds_invalid es.2 ∙ valid) in
      rw (← es.2, done.0) (some_mapped json_object (write_entries es.0 no_members) done.1)
  valid_written (ListOf kind) d t sound h valid =
      let ds = bound (as_array d) _ t h in
      let ts = mapped tree.list (read_items (read kind) ds.0) t ds.2 in
      rw (← ts.2) (some_mapped array (write_items (write kind) ts.0)
      (items_written (read kind) (write kind) (λ e u g fine. valid_written kind e u sound g fine) ds.0 ts.0 ts.1 (ap holds_invalid ts.2 ∙ valid)))
  valid_written (Object rule rows keeps) d t sound h valid =
      let ms = bound (as_object d) _ t h in
      let ts = mapped (λ us. tree.object us (kept keeps rows ms.0)) (read_rows rows ms.0) t ms.2 in
      rw (← ts.2) (some_mapped json_object (write_rows rows ts.0 (kept keeps rows ms.0))
      (rows_written rows ms.0 ts.0 (sound_rows rule rows sound) ts.1 (ap holds_invalid ts.2 ∙ valid) (kept keeps rows ms.0)))

  rows_written : (rows : Rows) (ms : Members) (ts : Trees) → are_sound rows ≡ true → read_rows rows ms ≡ Some ts → any_holds_invalid ts ≡ false → (old : Members) → is_some (write_rows rows ts old) ≡ true
  rows_written no_rows ms ts sound h valid old = rw (← same_Some end ts h) refl
  rows_written (row n mark kind rows) ms ts sound h valid old =
      let first = bound (read_member mark (read kind) (get_member n ms)) _ ts h in
      let later = mapped (with_tree first.0) (read_rows rows ms) ts first.2 in
      let apart = or_parts (holds_invalid first.0) (any_holds_invalid later.0) (ap any_holds_invalid later.2 ∙ valid) in
      let line = sound_row n mark kind rows sound in
      let done = member_done mark kind (get_member n ms) first.0 line.written (λ d g. valid_written kind d first.0 line.inner g apart.0) first.1 in
      rw (← later.2) (some_bound (write_rows rows later.0) (write_member n mark (write kind) first.0 old)
      (done_put (leaves_out mark first.0) n (written mark (write kind) first.0) old done)
      (λ new. rows_written rows ms later.0 line.rest later.1 apart.1 new))

-- ---- both ways

pub refused_at : (b : Bool) (r : Option Data) (t : Tree) → holds_invalid t ≡ b → (holds_invalid t ≡ false → is_some r ≡ true) → r ≡ None → b ≡ true
refused_at true r t is each none = refl
refused_at false r t is each none = absurd (false≢true (ap is_some (sym none) ∙ each is))

pub invalid_at : (r : Option Data) (t : Tree) → ((d : Data) → r ≡ Some d → holds_invalid t ≡ false) → holds_invalid t ≡ true → r ≡ None
invalid_at None t each invalid = refl
invalid_at (Some d) t each invalid = absurd (true≢false (sym invalid ∙ each d refl))

-- what was read is refused exactly where something in it is invalid
pub refused_where_invalid : (kind : Kind) (d : Data) (t : Tree) → is_sound kind ≡ true → read kind d ≡ Some t → (write kind t ≡ None) ↔ (holds_invalid t ≡ true)
refused_where_invalid kind d t sound h = (
  λ none. refused_at _ (write kind t) t refl (λ valid. valid_written kind d t sound h valid) none,
  λ invalid. invalid_at (write kind t) t (λ e g. written_valid kind t e g) invalid,
)
