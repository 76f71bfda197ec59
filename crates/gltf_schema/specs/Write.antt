-- The JSON that each tree is written as. There is none if an item or a key in it is invalid, if its
-- shape isn't that of the kind, or if a number of 32 bits is larger. Nothing asks whether a
-- choice has the item that is written, or whether a `U64` or a stride has 64 bits.
use Rattle.std.specs.Prelude.{ℕ, ◌^◌, ◌==◌, nat_lt, length, List, [], ◌∷◌, Bool, true, false, not, ◌&&◌, Option, Some, None, option_map, if◌then◌else◌}
use Rattle.std.specs.Ordering.{is_lt}
use Rattle.serde_json.specs.Data as json
use Rattle.serde_json.specs.Data.{Num, unsigned, Data, Items, Members, no_members, put}
use Rattle.gltf_base.specs.Keys.{Key, key_text, key_cmp}
use Rattle.gltf_base.specs.Names.{is_named}
use Rattle.gltf_base.specs.Spelling.{Spelling, by_number, by_name, is_spelled}
use Rattle.gltf_schema.specs.Maybe.{◌>>=◌}
use Rattle.gltf_schema.specs.Tree.{Tree, absent, whole, number, numbers, text, truth, any, chosen, index, list, attributes, object, Trees, end, with_tree, is_absent}
use Rattle.gltf_schema.specs.Kind.{Mark, optional, unless, sometimes, or_null, Kind, IndexInto, SourceImage, ChannelSampler, U32, U64, Stride, Number, Numbers, Text, Truth, Any, Choice, Attributes, ListOf, Object, Rows, no_rows, row}

-- a whole number of 32 bits
abbrev pub small_data : ℕ → Option Data
small_data n = if nat_lt n (2 ^ 32) then Some (json.number (unsigned n)) else None

abbrev pub number_items : List Num → Items
number_items [] = json.no_items
number_items (x ∷ xs) = json.item (json.number x) (number_items xs)

-- an item of a choice, by its number or its name
abbrev pub spelled : Spelling → Data
spelled (by_number n) = json.number (unsigned n)
spelled (by_name s) = json.string s

-- the name of a key, if it has one
abbrev pub key_name : Key → Option (List ℕ)
key_name k = if is_named k then Some (key_text k) else None

-- each attribute under the name of its key
abbrev pub write_entries : List (Key × ℕ) → Members → Option Members
write_entries [] ms = Some ms
write_entries (e ∷ es) ms = key_name e.0 >>= λ n. small_data e.1 >>= λ d. write_entries es (put n d ms)

-- the keys are in their order, each once, as a map holds them
abbrev pub are_in_order : List (Key × ℕ) → Bool
are_in_order [] = true
are_in_order (e ∷ []) = true
are_in_order (e ∷ f ∷ es) = is_lt (key_cmp e.0 f.0) && are_in_order (f ∷ es)

-- each item, in order
abbrev pub write_items : (Tree → Option Data) → Trees → Option Items
write_items f end = Some json.no_items
write_items f (with_tree t ts) = f t >>= λ d. option_map (json.item d) (write_items f ts)

-- whether a tree is the default under which a member is left out; the table leaves out only truths,
-- indexes, items of choices and empty lists
abbrev pub is_default : Tree → Tree → Bool
is_default (truth true) (truth b) = b
is_default (truth false) (truth b) = not b
is_default (index m) (index n) = m == n
is_default (chosen s) (chosen t) = is_spelled s t
is_default (list end) (list end) = true
is_default _ _ = false

-- whether a row's member stays unwritten
abbrev pub leaves_out : Mark → Tree → Bool
leaves_out optional t = is_absent t
leaves_out (unless x) t = is_default x t
leaves_out sometimes t = is_absent t
leaves_out _ t = false

-- a row's member that is written
abbrev pub written : Mark → (Tree → Option Data) → Tree → Option Data
written or_null f absent = Some json.null
written _ f t = f t

-- the members with the row's, which takes the place of one of its name
abbrev pub write_member : List ℕ → Mark → (Tree → Option Data) → Tree → Members → Option Members
write_member n mark f t ms = if leaves_out mark t then Some ms else option_map (λ d. put n d ms) (written mark f t)

abbrev mutual
  pub write : Kind → Tree → Option Data
  write (IndexInto named) (index n) = small_data n
  write SourceImage (index n) = small_data n
  write ChannelSampler (index n) = small_data n
  write U32 (whole n) = small_data n
  write U64 (whole n) = Some (json.number (unsigned n))
  write Stride (whole n) = Some (json.number (unsigned n))
  write Number (number x) = Some (json.number x)
  write (Numbers n) (numbers xs) = if length xs == n then Some (json.array (number_items xs)) else None
  write Text (text s) = Some (json.string s)
  write Truth (truth b) = Some (json.boolean b)
  write Any (any d) = Some d
  write (Choice form spellings) (chosen s) = Some (spelled s)
  write (Attributes named) (attributes es) = if are_in_order es then option_map json.object (write_entries es no_members) else None
  write (ListOf kind) (list ts) = option_map json.array (write_items (write kind) ts)
  write (Object rule rows keeps) (object ts others) = option_map json.object (write_rows rows ts others)
  write _ _ = None

  -- each row's member, in the rows' order, onto the others
  pub write_rows : Rows → Trees → Members → Option Members
  write_rows no_rows end ms = Some ms
  write_rows (row n mark kind rows) (with_tree t ts) ms = write_member n mark (write kind) t ms >>= write_rows rows ts
  write_rows _ _ ms = None
