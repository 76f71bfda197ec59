-- A tree of a kind is refused for writing exactly where something in it is invalid.
use Rattle.std.proofs.Common.{◌≡◌, ◌↔◌, Bool, true, false, ◌||◌, ◌&&◌, Option, None, option_map, is_some, refl}
use Rattle.std.proofs.lemmas.Bool.{false≢true, and_parts, or_parts}
use Rattle.std.specs.List.{list_all}
use Rattle.serde_json.specs.Data.{Data, array, object as json_object, item, Members, no_members}
use Rattle.gltf_schema.specs.Tree as tree
use Rattle.gltf_schema.specs.Tree.{Tree, Trees, end, with_tree, is_absent}
use Rattle.gltf_schema.specs.Kind.{Mark, optional, sometimes, or_null, Kind, IndexInto, SourceImage, ChannelSampler, U32, U64, Stride, Number, Numbers, Text, Truth, Any, Choice, Attributes, ListOf, Object, Rows, no_rows, row}
use Rattle.gltf_schema.specs.Write.{write, write_rows, write_items, write_member, write_entries, written, leaves_out, are_in_order}
use Rattle.gltf_schema.specs.Plain.{are_none, all_trees}
use Rattle.gltf_schema.specs.Invalid.{holds_invalid, any_holds_invalid}
use Rattle.gltf_schema.specs.OfKind.{is_attribute, may_be_absent, is_of_kind, are_of_kinds}
use Rattle.gltf_schema.proofs.ReadBack.{absent_is}
use Rattle.gltf_schema.proofs.AttributesRead.{entries_written}
use Rattle.gltf_schema.proofs.RefusedWhereInvalid.{written_valid, some_mapped, some_bound, is_done, done_written, done_put, refused_at, invalid_at}

-- ---- a tree of a kind is written where it holds nothing invalid

all_written : (p : Tree → Bool) (write : Tree → Option Data) → ((t : Tree) → p t ≡ true → holds_invalid t ≡ false → is_some (write t) ≡ true)
    → (ts : Trees) → all_trees p ts ≡ true → any_holds_invalid ts ≡ false → is_some (write_items write ts) ≡ true
all_written p write each end all valid = refl
all_written p write each (with_tree t ts) all valid =
    let apart = or_parts (holds_invalid t) (any_holds_invalid ts) valid in
    some_bound (λ d. option_map (item d) (write_items write ts)) (write t) (each t (and_parts (p t) (all_trees p ts) all).0 apart.0)
    (λ d. some_mapped (item d) (write_items write ts) (all_written p write each ts (and_parts (p t) (all_trees p ts) all).1 apart.1))

-- a member that is absent
absent_done : (mark : Mark) (write : Tree → Option Data) (t : Tree) → (may_be_absent mark && is_absent t) ≡ true → is_done mark write t ≡ true
absent_done optional write t h = rw h refl
absent_done sometimes write t h = rw h refl
absent_done or_null write t h = rw (absent_is t h) refl
absent_done _ write t h = absurd (false≢true h)

-- a member that is absent, or of its kind
either_done : (absent of_kind : Bool) (mark : Mark) (write : Tree → Option Data) (t : Tree) → (may_be_absent mark && is_absent t) ≡ absent → (absent || of_kind) ≡ true
    → (of_kind ≡ true → is_some (write t) ≡ true) → is_done mark write t ≡ true
either_done true of_kind mark write t is h each = absent_done mark write t is
either_done false of_kind mark write t is h each = done_written mark write t (each h)

mutual
  of_kind_written : (kind : Kind) (t : Tree) → is_of_kind kind t ≡ true → holds_invalid t ≡ false → is_some (write kind t) ≡ true
  of_kind_written (IndexInto named) (tree.index n) of_kind valid = rw of_kind refl
  of_kind_written SourceImage (tree.index n) of_kind valid = rw of_kind refl
  of_kind_written ChannelSampler (tree.index n) of_kind valid = rw of_kind refl
  of_kind_written U32 (tree.whole n) of_kind valid = rw of_kind refl
  of_kind_written U64 (tree.whole n) of_kind valid = refl
  of_kind_written Stride (tree.whole n) of_kind valid = refl
  of_kind_written Number (tree.number x) of_kind valid = refl
  of_kind_written (Numbers n) (tree.numbers xs) of_kind valid = rw of_kind refl
  of_kind_written Text (tree.text s) of_kind valid = refl
  of_kind_written Truth (tree.truth b) of_kind valid = refl
  of_kind_written Any (tree.any d) of_kind valid = refl
  of_kind_written (Choice form spellings) (tree.chosen s) of_kind valid = refl
  of_kind_written (Attributes named) (tree.attributes es) of_kind valid =
      rw (and_parts (are_in_order es) (list_all is_attribute es) of_kind).0 (some_mapped json_object (write_entries es no_members)
      (entries_written es no_members (and_parts (are_in_order es) (list_all is_attribute es) of_kind).1 valid))
  of_kind_written (ListOf kind) (tree.list ts) of_kind valid =
      some_mapped array (write_items (write kind) ts) (all_written (is_of_kind kind) (write kind) (λ t all fine. of_kind_written kind t all fine) ts of_kind valid)
  of_kind_written (Object rule rows keeps) (tree.object ts others) of_kind valid =
      some_mapped json_object (write_rows rows ts others) (of_kinds_written rows ts (and_parts (are_of_kinds rows ts) (keeps || are_none others) of_kind).0 valid others)
  of_kind_written _ _ of_kind valid = absurd cc

  of_kinds_written : (rows : Rows) (ts : Trees) → are_of_kinds rows ts ≡ true → any_holds_invalid ts ≡ false → (old : Members) → is_some (write_rows rows ts old) ≡ true
  of_kinds_written no_rows end of_kind valid old = refl
  of_kinds_written (row n mark kind rows) (with_tree t ts) of_kind valid old =
      let apart = or_parts (holds_invalid t) (any_holds_invalid ts) valid in
      let first = (and_parts (may_be_absent mark && is_absent t || is_of_kind kind t) (are_of_kinds rows ts) of_kind).0 in
      let rest = (and_parts (may_be_absent mark && is_absent t || is_of_kind kind t) (are_of_kinds rows ts) of_kind).1 in
      let done = either_done _ (is_of_kind kind t) mark (write kind) t refl first (λ one. of_kind_written kind t one apart.0) in
      some_bound (write_rows rows ts) (write_member n mark (write kind) t old)
      (done_put (leaves_out mark t) n (written mark (write kind) t) old done)
      (λ new. of_kinds_written rows ts rest apart.1 new)
  of_kinds_written _ _ of_kind valid old = absurd cc

-- ---- both ways

-- a tree of a kind is refused exactly where something in it is invalid
pub of_kind_refused_where_invalid : (kind : Kind) (t : Tree) → is_of_kind kind t ≡ true → (write kind t ≡ None) ↔ (holds_invalid t ≡ true)
of_kind_refused_where_invalid kind t of_kind = (
  λ none. refused_at _ (write kind t) t refl (λ valid. of_kind_written kind t of_kind valid) none,
  λ invalid. invalid_at (write kind t) t (λ d g. written_valid kind t d g) invalid,
)
