-- Which JSON each kind reads, and as which tree.
use Rattle.std.specs.Prelude.{ℕ, ◌^◌, ◌==◌, List, [], ◌∷◌, length, Bool, true, false, is_some, nat_lt, Option, Some, None, option_map, if◌then◌else◌}
use Rattle.std.specs.List.{list_any}
use Rattle.std.specs.BTreeMap.{insert_entry}
use Rattle.serde_json.specs.Data.{Num, Data, Items, no_items, item, Members, no_members, member}
use Rattle.serde_json.specs.Find.{get_member, as_null, as_bool, as_number, as_str, as_array, as_object, as_u64}
use Rattle.gltf_base.specs.Keys.{Key, key_cmp}
use Rattle.gltf_base.specs.Names.{key_named}
use Rattle.gltf_base.specs.Spelling.{Spelling, by_number, by_name, is_spelled}
use Rattle.gltf_base.specs.declared.choice.Form.{Form}
use Rattle.gltf_base.specs.declared.choice.Form.TheVariants as form
use Rattle.gltf_schema.specs.Maybe.{◌>>=◌}
use Rattle.gltf_schema.specs.Tree.{Tree, absent, whole, number, numbers, text, truth, any, chosen, invalid, index, list, attributes, object, Trees, end, with_tree}
use Rattle.gltf_schema.specs.Kind.{Mark, required, optional, always, unless, sometimes, or_null, Kind, IndexInto, SourceImage, ChannelSampler, U32, U64, Stride, Number, Numbers, Text, Truth, Any, Choice, Attributes, ListOf, Object, Rows, no_rows, row, has_row}

abbrev pub whole_number : Data → Option ℕ
whole_number d = as_number d >>= as_u64

-- a whole number of 32 bits
abbrev pub small_number : Data → Option ℕ
small_number d = whole_number d >>= λ n. if nat_lt n (2 ^ 32) then Some n else None

abbrev pub all_numbers : Items → Option (List Num)
all_numbers no_items = Some []
all_numbers (item d ds) = as_number d >>= λ x. option_map (λ xs. x ∷ xs) (all_numbers ds)

-- a numeric choice is spelled by any whole number, a named one by any text
abbrev pub spelling_in : Form → Data → Option Spelling
spelling_in form.Number d = option_map by_number (whole_number d)
spelling_in form.Name d = option_map by_name (as_str d)

abbrev pub choice_among : List Spelling → Spelling → Tree
choice_among spellings s = if list_any (λ t. is_spelled t s) spellings then chosen s else invalid

-- each item, in order
abbrev pub read_items : (Data → Option Tree) → Items → Option Trees
read_items f no_items = Some end
read_items f (item d ds) = f d >>= λ t. option_map (with_tree t) (read_items f ds)

-- a member that may be missing, by its row's mark
abbrev pub read_member : Mark → (Data → Option Tree) → Option Data → Option Tree
read_member required f None = None
read_member required f (Some d) = f d
read_member optional f None = Some absent
read_member optional f (Some d) = if is_some (as_null d) then Some absent else f d
read_member (always t) f None = Some t
read_member (always t) f (Some d) = f d
read_member (unless t) f None = Some t
read_member (unless t) f (Some d) = f d
read_member sometimes f None = Some absent
read_member sometimes f (Some d) = f d
read_member or_null f None = Some absent
read_member or_null f (Some d) = if is_some (as_null d) then Some absent else f d

-- the members whose names are no row's
abbrev pub others : Rows → Members → Members
others rows no_members = no_members
others rows (member n d ms) = if has_row n rows then others rows ms else member n d (others rows ms)

-- the members left are an object's others, or are dropped
abbrev pub left : Bool → Members → Members
left true ms = ms
left false ms = no_members

abbrev pub kept : Bool → Rows → Members → Members
kept keeps rows ms = left keeps (others rows ms)

-- the entries, and then those of the members, whose names are in byte order: a key has the index of
-- its last name
abbrev pub read_entries : List (Key × ℕ) → Members → Option (List (Key × ℕ))
read_entries es no_members = Some es
read_entries es (member n d ms) = small_number d >>= λ i. read_entries (insert_entry key_cmp es (key_named n) i) ms

abbrev mutual
  pub read : Kind → Data → Option Tree
  read (IndexInto named) d = option_map index (small_number d)
  read SourceImage d = option_map index (small_number d)
  read ChannelSampler d = option_map index (small_number d)
  read U32 d = option_map whole (small_number d)
  read U64 d = option_map whole (whole_number d)
  read Stride d = option_map whole (whole_number d)
  read Number d = option_map number (as_number d)
  read (Numbers n) d = as_array d >>= λ ds. all_numbers ds >>= λ xs. if length xs == n then Some (numbers xs) else None
  read Text d = option_map text (as_str d)
  read Truth d = option_map truth (as_bool d)
  read Any d = Some (any d)
  read (Choice form spellings) d = option_map (choice_among spellings) (spelling_in form d)
  read (Attributes named) d = as_object d >>= λ ms. option_map attributes (read_entries [] ms)
  read (ListOf kind) d = as_array d >>= λ ds. option_map list (read_items (read kind) ds)
  read (Object rule rows keeps) d = as_object d >>= λ ms. option_map (λ ts. object ts (kept keeps rows ms)) (read_rows rows ms)

  -- each row's member, in the rows' order
  pub read_rows : Rows → Members → Option Trees
  read_rows no_rows ms = Some end
  read_rows (row n mark kind rows) ms = read_member mark (read kind) (get_member n ms) >>= λ t. option_map (with_tree t) (read_rows rows ms)
