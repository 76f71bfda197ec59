-- Kinds without nulls read the same, and are as sound.
use Rattle.std.proofs.Common.{◌≡◌, ℕ, List, Bool, true, false, if◌then◌else◌, not, ◌&&◌, ◌||◌, Option, Some, None, option_map, is_some, bytes_eq, refl, sym, ap, ap₂, ◌∙◌}
use Rattle.serde_json.specs.Data.{Data, Items, no_items, item, null, Members, no_members, member, put}
use Rattle.serde_json.specs.Data as json
use Rattle.serde_json.specs.Find.{as_object, as_array, as_null, get_member}
use Rattle.gltf_base.specs.Lists.{ListName}
use Rattle.gltf_schema.specs.Maybe.{◌>>=◌}
use Rattle.gltf_schema.specs.Tree.{Tree, absent, list, object, Trees, end, with_tree}
use Rattle.gltf_schema.specs.Kind.{Mark, required, optional, always, unless, sometimes, or_null, Kind, Attributes, ListOf, Object, Rows, no_rows, row, has_row, Rule, needs_positions}
use Rattle.gltf_schema.specs.Nulls.{mark_without_null, without_nulls, rows_without_nulls}
use Rattle.gltf_schema.specs.Plain.{is_plain, are_plain, none_named, are_none, is_null_kept, all_trees}
use Rattle.gltf_schema.specs.Read.{read, read_rows, read_items, read_member, others, kept, left}
use Rattle.gltf_schema.specs.Sound.{is_sound, are_sound, suits, has_attributes, has_plain_default, has_written_default}
use Rattle.gltf_schema.specs.Write.{write, write_rows, write_items, write_member, leaves_out, written}
use Rattle.gltf_schema.proofs.ByName.{are_distinct}
use Rattle.gltf_schema.proofs.ReadBack.{read_back}

-- ---- names

-- the rows have the same names
pub same_names : (n : List ℕ) (rows : Rows) → has_row n (rows_without_nulls rows) ≡ has_row n rows
same_names n no_rows = refl
same_names n (row m mark kind rows) = ap (λ b. bytes_eq m n || b) (same_names n rows)

same_distinct : (rows : Rows) → are_distinct (rows_without_nulls rows) ≡ are_distinct rows
same_distinct no_rows = refl
same_distinct (row n mark kind rows) = ap₂ (λ a b. not a && b) (same_names n rows) (same_distinct rows)

pub distinct_without_nulls : (rows : Rows) → are_distinct rows ≡ true → are_distinct (rows_without_nulls rows) ≡ true
distinct_without_nulls rows h = same_distinct rows ∙ h

-- ---- reading

same_others : (rows : Rows) (ms : Members) → others (rows_without_nulls rows) ms ≡ others rows ms
same_others rows no_members = refl
same_others rows (member n d ms) = rw (same_names n rows, same_others rows ms) refl

same_kept : (keeps : Bool) (rows : Rows) (ms : Members) → kept keeps (rows_without_nulls rows) ms ≡ kept keeps rows ms
same_kept keeps rows ms = ap (left keeps) (same_others rows ms)

-- the marks differ in what is written alone
same_member : (mark : Mark) (f g : Data → Option Tree) → ((d : Data) → f d ≡ g d) → (m : Option Data) → read_member (mark_without_null mark) f m ≡ read_member mark g m
same_member required f g same None = refl
same_member required f g same (Some d) = same d
same_member optional f g same None = refl
same_member optional f g same (Some d) = rw (same d) refl
same_member (always t) f g same None = refl
same_member (always t) f g same (Some d) = same d
same_member (unless t) f g same None = refl
same_member (unless t) f g same (Some d) = same d
same_member sometimes f g same None = refl
same_member sometimes f g same (Some d) = same d
same_member or_null f g same None = refl
same_member or_null f g same (Some d) = rw (same d) refl

same_items : (f g : Data → Option Tree) → ((d : Data) → f d ≡ g d) → (ds : Items) → read_items f ds ≡ read_items g ds
same_items f g same no_items = refl
same_items f g same (item d ds) = rw (same d, same_items f g same ds) refl

list_of : (f g : Items → Option Trees) → ((ds : Items) → f ds ≡ g ds) → (o : Option Items) → (o >>= λ ds. option_map list (f ds)) ≡ (o >>= λ ds. option_map list (g ds))
list_of f g same None = refl
list_of f g same (Some ds) = ap (option_map list) (same ds)

object_of : (f g : Members → Option Trees) (k l : Members → Members) → ((ms : Members) → f ms ≡ g ms) → ((ms : Members) → k ms ≡ l ms) → (o : Option Members)
    → (o >>= λ ms. option_map (λ ts. object ts (k ms)) (f ms)) ≡ (o >>= λ ms. option_map (λ ts. object ts (l ms)) (g ms))
object_of f g k l same rest None = refl
object_of f g k l same rest (Some ms) = rw (same ms, rest ms) refl

mutual
  -- what is read is the same
  pub same_read : (kind : Kind) (d : Data) → read (without_nulls kind) d ≡ read kind d
  same_read (ListOf kind) d = list_of (read_items (read (without_nulls kind))) (read_items (read kind)) (same_items (read (without_nulls kind)) (read kind) (λ x. same_read kind x)) (as_array d)
  same_read (Object rule rows keeps) d =
      object_of (read_rows (rows_without_nulls rows)) (read_rows rows) (kept keeps (rows_without_nulls rows)) (kept keeps rows) (λ ms. same_rows rows ms) (same_kept keeps rows) (as_object d)
  same_read _ d = refl

  same_rows : (rows : Rows) (ms : Members) → read_rows (rows_without_nulls rows) ms ≡ read_rows rows ms
  same_rows no_rows ms = refl
  same_rows (row n mark kind rows) ms =
      rw (same_member mark (read (without_nulls kind)) (read kind) (λ x. same_read kind x) (get_member n ms), same_rows rows ms) refl

-- ---- plain trees

same_null : (mark : Mark) (t : Tree) → is_null_kept (mark_without_null mark) t ≡ is_null_kept mark t
same_null or_null t = refl
same_null _ t = refl

all_same : (p q : Tree → Bool) → ((t : Tree) → p t ≡ q t) → (ts : Trees) → all_trees p ts ≡ all_trees q ts
all_same p q same end = refl
all_same p q same (with_tree t ts) = ap₂ (λ a b. a && b) (same t) (all_same p q same ts)

none_same : (rows : Rows) (ms : Members) → none_named (rows_without_nulls rows) ms ≡ none_named rows ms
none_same rows no_members = refl
none_same rows (member n d ms) = ap₂ (λ a b. not a && b) (same_names n rows) (none_same rows ms)

mutual
  -- a tree is plain of both kinds
  pub same_plain : (kind : Kind) (t : Tree) → is_plain (without_nulls kind) t ≡ is_plain kind t
  same_plain (ListOf kind) (list ts) = all_same (is_plain (without_nulls kind)) (is_plain kind) (λ t. same_plain kind t) ts
  same_plain (Object rule rows keeps) (object ts rest) = ap₂ (λ a b. a && b && (keeps || are_none rest)) (same_plains rows ts) (none_same rows rest)
  same_plain _ _ = refl

  same_plains : (rows : Rows) (ts : Trees) → are_plain (rows_without_nulls rows) ts ≡ are_plain rows ts
  same_plains (row n mark kind rows) (with_tree t ts) = rw (same_null mark t, same_plain kind t, same_plains rows ts) refl
  same_plains _ _ = refl

-- ---- trees that are written

some_map : {A B : Type 0} (f : A → B) (o : Option A) → is_some (option_map f o) ≡ is_some o
some_map {A} {B} f None = refl
some_map {A} {B} f (Some x) = refl

maps_some : {A B C D : Type 0} (f : A → B) (g : C → D) (o : Option A) (p : Option C) → is_some o ≡ is_some p → is_some (option_map f o) ≡ is_some (option_map g p)
maps_some f g o p same = some_map f o ∙ same ∙ sym (some_map g p)

then_some : {A B C D : Type 0} (f : A → Option B) (g : C → Option D) (o : Option A) (p : Option C) → is_some o ≡ is_some p → ((x : A) (y : C) → is_some (f x) ≡ is_some (g y))
    → is_some (o >>= f) ≡ is_some (p >>= g)
then_some f g None None same both = refl
then_some f g None (Some y) same both = absurd cc
then_some f g (Some x) None same both = absurd cc
then_some f g (Some x) (Some y) same both = both x y

items_some : (f g : Tree → Option Data) → ((t : Tree) → is_some (f t) ≡ is_some (g t)) → (ts : Trees) → is_some (write_items f ts) ≡ is_some (write_items g ts)
items_some f g same end = refl
items_some f g same (with_tree t ts) =
    then_some (λ d. option_map (item d) (write_items f ts)) (λ d. option_map (item d) (write_items g ts)) (f t) (g t) (same t)
    (λ x y. maps_some (item x) (item y) (write_items f ts) (write_items g ts) (items_some f g same ts))

put_some : (left : Bool) (n : List ℕ) (o p : Option Data) (ms ms' : Members) → is_some o ≡ is_some p
    → is_some (if left then Some ms else option_map (λ d. put n d ms) o) ≡ is_some (if left then Some ms' else option_map (λ d. put n d ms') p)
put_some true n o p ms ms' same = refl
put_some false n o p ms ms' same = maps_some (λ d. put n d ms) (λ d. put n d ms') o p same

null_some : (n : List ℕ) (f g : Tree → Option Data) → ((t : Tree) → is_some (f t) ≡ is_some (g t)) → (t : Tree) (ms ms' : Members)
    → is_some (write_member n optional f t ms) ≡ is_some (write_member n or_null g t ms')
null_some n f g same absent ms ms' = refl
null_some n f g same t ms ms' = maps_some (λ d. put n d ms) (λ d. put n d ms') (f t) (g t) (same t)

member_some : (n : List ℕ) (mark : Mark) (f g : Tree → Option Data) → ((t : Tree) → is_some (f t) ≡ is_some (g t)) → (t : Tree) (ms ms' : Members)
    → is_some (write_member n (mark_without_null mark) f t ms) ≡ is_some (write_member n mark g t ms')
member_some n or_null f g same t ms ms' = null_some n f g same t ms ms'
member_some n required f g same t ms ms' = put_some false n (f t) (g t) ms ms' (same t)
member_some n (always x) f g same t ms ms' = put_some false n (f t) (g t) ms ms' (same t)
member_some n optional f g same t ms ms' = put_some (leaves_out optional t) n (f t) (g t) ms ms' (same t)
member_some n (unless x) f g same t ms ms' = put_some (leaves_out (unless x) t) n (f t) (g t) ms ms' (same t)
member_some n sometimes f g same t ms ms' = put_some (leaves_out sometimes t) n (f t) (g t) ms ms' (same t)

mutual
  -- a tree is written by both kinds, or by neither
  pub same_written : (kind : Kind) (t : Tree) → is_some (write (without_nulls kind) t) ≡ is_some (write kind t)
  same_written (ListOf kind) (list ts) =
      maps_some json.array json.array (write_items (write (without_nulls kind)) ts) (write_items (write kind) ts)
      (items_some (write (without_nulls kind)) (write kind) (λ t. same_written kind t) ts)
  same_written (Object rule rows keeps) (object ts rest) =
      maps_some json.object json.object (write_rows (rows_without_nulls rows) ts rest) (write_rows rows ts rest) (same_rows_written rows ts rest rest)
  same_written _ _ = refl

  same_rows_written : (rows : Rows) (ts : Trees) (ms ms' : Members) → is_some (write_rows (rows_without_nulls rows) ts ms) ≡ is_some (write_rows rows ts ms')
  same_rows_written no_rows end ms ms' = refl
  same_rows_written no_rows (with_tree t ts) ms ms' = refl
  same_rows_written (row n mark kind rows) end ms ms' = refl
  same_rows_written (row n mark kind rows) (with_tree t ts) ms ms' =
      then_some (write_rows (rows_without_nulls rows) ts) (write_rows rows ts) (write_member n (mark_without_null mark) (write (without_nulls kind)) t ms) (write_member n mark (write kind) t ms')
      (member_some n mark (write (without_nulls kind)) (write kind) (λ x. same_written kind x) t ms ms')
      (λ x y. same_rows_written rows ts x y)

none_too : {A : Type 0} (o p : Option A) → is_some o ≡ is_some p → o ≡ None → p ≡ None
none_too None None same h = refl
none_too None (Some y) same h = absurd cc
none_too (Some x) p same h = absurd cc

-- what is withheld without nulls is withheld with them
pub none_with_nulls : (kind : Kind) (t : Tree) → write (without_nulls kind) t ≡ None → write kind t ≡ None
none_with_nulls kind t h = none_too (write (without_nulls kind) t) (write kind t) (same_written kind t) h

pub none_without_nulls : (kind : Kind) (t : Tree) → write kind t ≡ None → write (without_nulls kind) t ≡ None
none_without_nulls kind t h = none_too (write kind t) (write (without_nulls kind) t) (sym (same_written kind t)) h

-- ---- sound kinds

plain_default : (mark : Mark) (kind : Kind) → has_plain_default (mark_without_null mark) (without_nulls kind) ≡ has_plain_default mark kind
plain_default (always t) kind = same_plain kind t
plain_default (unless t) kind = same_plain kind t
plain_default required kind = refl
plain_default optional kind = refl
plain_default sometimes kind = refl
plain_default or_null kind = refl

written_default : (mark : Mark) (kind : Kind) → has_written_default (mark_without_null mark) (without_nulls kind) ≡ has_written_default mark kind
written_default (always t) kind = same_written kind t
written_default (unless t) kind = same_written kind t
written_default required kind = refl
written_default optional kind = refl
written_default sometimes kind = refl
written_default or_null kind = refl

same_attributes : (rows : Rows) → has_attributes (rows_without_nulls rows) ≡ has_attributes rows
same_attributes (row n mark (Attributes ListName.accessors) rows) = refl
same_attributes _ = refl

same_suits : (rule : Rule) (rows : Rows) → suits rule (rows_without_nulls rows) ≡ suits rule rows
same_suits needs_positions rows = same_attributes rows
same_suits _ rows = refl

mutual
  same_sound : (kind : Kind) → is_sound (without_nulls kind) ≡ is_sound kind
  same_sound (ListOf kind) = same_sound kind
  same_sound (Object rule rows keeps) = ap₂ (λ a b. a && b) (same_suits rule rows) (same_sounds rows)
  same_sound _ = refl

  same_sounds : (rows : Rows) → are_sound (rows_without_nulls rows) ≡ are_sound rows
  same_sounds no_rows = refl
  same_sounds (row n mark kind rows) =
      rw (same_names n rows, plain_default mark kind, written_default mark kind, same_sound kind, same_sounds rows) refl

-- a plain tree is read back
pub back_without_nulls : (kind : Kind) (t : Tree) (d : Data) → is_sound kind ≡ true → is_plain kind t ≡ true → write (without_nulls kind) t ≡ Some d → read kind d ≡ Some t
back_without_nulls kind t d sound plain h =
    sym (same_read kind d) ∙ read_back (without_nulls kind) t d (same_sound kind ∙ sound) (same_plain kind t ∙ plain) h
