-- Attributes that were read are written where each key means something.
use Rattle.std.proofs.Common.{◌≡◌, ℕ, ◌^◌, List, [], ◌∷◌, Bool, true, false, ◌&&◌, ◌||◌, cond, nat_lt, length, codes, unwrap_or, Option, Some, None, option_map, option_and_then, is_some, bytes_eq, refl, sym, ap, ◌∙◌, subst, Ordering, Less, Equal, Greater}
use Rattle.std.proofs.lemmas.Bool.{and_parts, and_from, or_parts}
use Rattle.std.proofs.lemmas.Option.{same_Some}
use Rattle.std.specs.List.{list_all}
use Rattle.std.specs.Str.{all_ascii_digits}
use Rattle.std.specs.Str.Parse.{digits_value, without_leading_plus}
use Rattle.std.specs.BTreeMap.{insert_entry}
use Rattle.std.specs.Ordering.{match_ordering, ordering_reverse, is_lt}
use Rattle.serde_json.specs.Data.{Data, Members, no_members, member}
use Rattle.gltf_base.specs.Keys.{Key, extras, colors, tex_coords, joints, weights, unknown, key_cmp}
use Rattle.gltf_base.specs.Names.{behind, set_number, set_or, plain_key, key_named, is_named}
use Rattle.gltf_schema.specs.Read.{read_entries, small_number, whole_number}
use Rattle.gltf_schema.specs.Write.{write_entries, are_in_order}
use Rattle.gltf_schema.specs.Invalid.{is_unknown, any_unknown}
use Rattle.gltf_schema.specs.OfKind.{is_nameable, is_attribute}
use Rattle.gltf_schema.proofs.ReadPlain.{bound}
use Rattle.gltf_schema.proofs.ReadBack.{allowed}
use Rattle.gltf_schema.proofs.AttributesBack.{keys_total, tail_in_order}

-- ---- keys that are read

set_at : (written : Option ℕ) (key : ℕ → Key) (other : Key) → ((set : ℕ) → written ≡ Some set → is_nameable (key set) ≡ true) → is_nameable other ≡ true
    → is_nameable (unwrap_or (option_map key written) other) ≡ true
set_at None key other each rest = rest
set_at (Some set) key other each rest = each set refl

-- the number of a set has 32 bits
small_set : (text : Option (List ℕ)) (set : ℕ) → option_and_then set_number text ≡ Some set → nat_lt set (2 ^ 32) ≡ true
small_set None set h = absurd cc
small_set (Some text) set h =
    let digits = without_leading_plus text in
    let w = allowed (nat_lt 0 (length digits) && all_ascii_digits digits && nat_lt (digits_value 10 digits) (2 ^ 32)) (Some (digits_value 10 digits)) set h in
    rw (← same_Some _ set w.1) (and_parts (nat_lt 0 (length digits) && all_ascii_digits digits) _ w.0).1

set_nameable : (prefix : List ℕ) (key : ℕ → Key) (text : List ℕ) (other : Key) → ((set : ℕ) → nat_lt set (2 ^ 32) ≡ true → is_nameable (key set) ≡ true) → is_nameable other ≡ true
    → is_nameable (set_or prefix key text other) ≡ true
set_nameable prefix key text other each rest = set_at (option_and_then set_number (behind prefix text)) key other (λ set h. each set (small_set (behind prefix text) set h)) rest

either_nameable : (b : Bool) (k l : Key) → is_nameable k ≡ true → is_nameable l ≡ true → is_nameable (cond b k l) ≡ true
either_nameable true k l first second = first
either_nameable false k l first second = second

plain_nameable : (text : List ℕ) → is_nameable (plain_key text) ≡ true
plain_nameable text =
    either_nameable (bytes_eq text (codes "POSITION")) _ _ refl
    (either_nameable (bytes_eq text (codes "NORMAL")) _ _ refl
    (either_nameable (bytes_eq text (codes "TANGENT")) _ _ refl
    (set_nameable (codes "COLOR_") colors text _ (λ set h. h)
    (set_nameable (codes "TEXCOORD_") tex_coords text _ (λ set h. h)
    (set_nameable (codes "JOINTS_") joints text _ (λ set h. h)
    (set_nameable (codes "WEIGHTS_") weights text unknown (λ set h. h) refl))))))

extras_or : (name : Option (List ℕ)) (other : Key) → is_nameable other ≡ true → is_nameable (unwrap_or (option_map extras name) other) ≡ true
extras_or None other h = h
extras_or (Some name) other h = refl

-- whatever the name
named_nameable : (n : List ℕ) → is_nameable (key_named n) ≡ true
unfolding key_named
named_nameable n = extras_or (behind (codes "_") n) (plain_key n) (plain_nameable n)

-- ---- entries that are read stand in order, and each may be written

-- a number that is read as one of 32 bits has 32 bits
pub small_is : (d : Data) (n : ℕ) → small_number d ≡ Some n → nat_lt n (2 ^ 32) ≡ true
small_is d n h =
    let m = bound (whole_number d) _ n h in
    let w = allowed (nat_lt m.0 (2 ^ 32)) (Some m.0) n m.2 in
    rw (← same_Some m.0 n w.1) w.0

-- the key is before the first of the entries
abbrev comes_before : Key → List (Key × ℕ) → Bool
comes_before k [] = true
comes_before k (e ∷ es) = is_lt (key_cmp k e.0)

head_and_tail : (e : Key × ℕ) (es : List (Key × ℕ)) → are_in_order (e ∷ es) ≡ (comes_before e.0 es && are_in_order es)
head_and_tail e [] = refl
head_and_tail e (f ∷ es) = refl

before_at : (o : Ordering) (j k : Key) (v : ℕ) (e : Key × ℕ) (es later : List (Key × ℕ)) → is_lt (key_cmp j k) ≡ true → is_lt (key_cmp j e.0) ≡ true
    → comes_before j (match_ordering o ((k, v) ∷ e ∷ es) ((e.0, v) ∷ es) (e ∷ later)) ≡ true
before_at Less j k v e es later new old = new
before_at Equal j k v e es later new old = old
before_at Greater j k v e es later new old = old

before_inserted : (j k : Key) (v : ℕ) (es : List (Key × ℕ)) → is_lt (key_cmp j k) ≡ true → comes_before j es ≡ true → comes_before j (insert_entry key_cmp es k v) ≡ true
before_inserted j k v [] new old = new
before_inserted j k v (e ∷ es) new old = before_at (key_cmp k e.0) j k v e es (insert_entry key_cmp es k v) new old

order_at : (o : Ordering) (k : Key) (v : ℕ) (e : Key × ℕ) (es : List (Key × ℕ)) → key_cmp k e.0 ≡ o → are_in_order (e ∷ es) ≡ true → are_in_order (insert_entry key_cmp es k v) ≡ true
    → are_in_order (match_ordering o ((k, v) ∷ e ∷ es) ((e.0, v) ∷ es) (e ∷ insert_entry key_cmp es k v)) ≡ true
order_at Less k v e es is h later = rw is h
order_at Equal k v e es is h later = head_and_tail (e.0, v) es ∙ sym (head_and_tail e es) ∙ h
order_at Greater k v e es is h later =
    let first = (and_parts (comes_before e.0 es) (are_in_order es) (sym (head_and_tail e es) ∙ h)).0 in
    let below = keys_total.antisymm e.0 k ∙ ap ordering_reverse is in
    head_and_tail e (insert_entry key_cmp es k v) ∙ and_from _ _ (before_inserted e.0 k v es (ap is_lt below) first) later

-- an entry that is inserted leaves them in order
order_inserted : (k : Key) (v : ℕ) (es : List (Key × ℕ)) → are_in_order es ≡ true → are_in_order (insert_entry key_cmp es k v) ≡ true
order_inserted k v [] h = refl
order_inserted k v (e ∷ es) h = order_at _ k v e es refl h (order_inserted k v es (tail_in_order e es h))

each_at : (o : Ordering) (k : Key) (v : ℕ) (e : Key × ℕ) (es later : List (Key × ℕ)) → is_attribute (k, v) ≡ true → is_attribute e ≡ true → list_all is_attribute es ≡ true → list_all is_attribute later ≡ true
    → list_all is_attribute (match_ordering o ((k, v) ∷ e ∷ es) ((e.0, v) ∷ es) (e ∷ later)) ≡ true
each_at Less k v e es later new old rest all = and_from _ _ new (and_from _ _ old rest)
each_at Equal k v e es later new old rest all =
    and_from _ _ (and_from _ _ (and_parts (is_nameable e.0) _ old).0 (and_parts (is_nameable k) _ new).1) rest
each_at Greater k v e es later new old rest all = and_from _ _ old all

each_inserted : (k : Key) (v : ℕ) (es : List (Key × ℕ)) → is_attribute (k, v) ≡ true → list_all is_attribute es ≡ true → list_all is_attribute (insert_entry key_cmp es k v) ≡ true
each_inserted k v [] new h = and_from _ _ new refl
each_inserted k v (e ∷ es) new h =
    let rest = (and_parts (is_attribute e) (list_all is_attribute es) h).1 in
    each_at (key_cmp k e.0) k v e es (insert_entry key_cmp es k v) new (and_parts (is_attribute e) (list_all is_attribute es) h).0 rest (each_inserted k v es new rest)

record AreRead (es : List (Key × ℕ)) : Type 0 where
  ordered : are_in_order es ≡ true
  each : list_all is_attribute es ≡ true

entries_read : (es fs : List (Key × ℕ)) (ms : Members) → AreRead es → read_entries es ms ≡ Some fs → AreRead fs
entries_read es fs no_members before h = subst (λ (l : List (Key × ℕ)). AreRead l) (same_Some es fs h) before
entries_read es fs (member n d ms) before h =
    let i = bound (small_number d) (λ i. read_entries (insert_entry key_cmp es (key_named n) i) ms) fs h in
    let new = and_from (is_nameable (key_named n)) _ (named_nameable n) (small_is d i.0 i.1) in
    entries_read (insert_entry key_cmp es (key_named n) i.0) fs ms (record {
      ordered = order_inserted (key_named n) i.0 es before.ordered;
      each = each_inserted (key_named n) i.0 es new before.each;
    }) i.2

-- ---- writing

named_from_nameable : (k : Key) → is_nameable k ≡ true → is_unknown k ≡ false → is_named k ≡ true
named_from_nameable k nameable known = ap (λ b. b || is_named k) (sym known) ∙ nameable

-- attributes are written where each key is known
pub entries_written : (es : List (Key × ℕ)) (ms : Members) → list_all is_attribute es ≡ true → any_unknown es ≡ false → is_some (write_entries es ms) ≡ true
entries_written [] ms each known = refl
entries_written (e ∷ es) ms each known =
    let first = (and_parts (is_attribute e) (list_all is_attribute es) each).0 in
    let apart = or_parts (is_unknown e.0) (any_unknown es) known in
    let named = named_from_nameable e.0 (and_parts (is_nameable e.0) _ first).0 apart.0 in
    let small = (and_parts (is_nameable e.0) _ first).1 in
    rw (named, small) (entries_written es _ (and_parts (is_attribute e) (list_all is_attribute es) each).1 apart.1)

-- attributes that were read are in order, and are written where each key is known
pub attributes_written : (ms : Members) (es : List (Key × ℕ)) → read_entries [] ms ≡ Some es → any_unknown es ≡ false
    → (are_in_order es ≡ true) × (is_some (write_entries es no_members) ≡ true)
attributes_written ms es h known =
    let done = entries_read [] es ms (record { ordered = refl; each = refl }) h in
    (done.ordered, entries_written es no_members done.each known)
