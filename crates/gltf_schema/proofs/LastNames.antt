-- Attributes that were read have the index of each key's last name.
use Rattle.std.proofs.Common.{◌≡◌, ℕ, List, [], ◌∷◌, Bool, true, false, cond, Option, Some, None, option_map, unwrap_or, refl, sym, ap, ◌∙◌, Ordering, Less, Equal, Greater, true≢false}
use Rattle.std.specs.BTreeMap.{insert_entry, is_at}
use Rattle.std.specs.Cmp.{IsTotalOrder, alike_right, Equal-is}
use Rattle.std.specs.Map.{lookup}
use Rattle.std.specs.Option.{option_or}
use Rattle.std.specs.Ordering.{is_eq, match_ordering}
use Rattle.serde_json.specs.Data.{Members, no_members, member, object}
use Rattle.gltf_base.specs.Lists.{ListName}
use Rattle.gltf_base.specs.Keys.{Key, key_cmp}
use Rattle.gltf_base.specs.Names.{key_named}
use Rattle.gltf_schema.specs.Attributes.{index_at, last_index}
use Rattle.gltf_schema.specs.Kind.{Attributes}
use Rattle.gltf_schema.specs.Maybe.{◌>>=◌}
use Rattle.gltf_schema.specs.Read.{read, read_entries, small_number}
use Rattle.gltf_schema.specs.Tree.{attributes, entries_in}
use Rattle.gltf_schema.proofs.AttributesBack.{keys_total}

-- ---- an entry that is inserted is found

twice : {V : Type 0} (b : Bool) (v w r : Option V) → cond b v r ≡ cond b v (cond b w r)
twice true v w r = refl
twice false v w r = refl

either_first : {V : Type 0} (b c : Bool) (v w r : Option V) → (b ≡ true → c ≡ true → ⊥) → cond b v (cond c w r) ≡ cond c w (cond b v r)
either_first true true v w r apart = absurd (apart refl refl)
either_first true false v w r apart = refl
either_first false c v w r apart = refl

apart : {K : Type 0} {R : K → K → Ordering} → IsTotalOrder R → (q k l : K) → R k l ≡ Greater → is_eq (R q l) ≡ true → is_eq (R q k) ≡ true → ⊥
apart {K} {R} o q k l above at_l at_k = true≢false (sym at_l ∙ ap is_eq (o.congr q k l ((Equal-is (R q k)).0 at_k) ∙ above))

module _ {K V : Type 0} {R : K → K → Ordering} (o : IsTotalOrder R) (q : K) where
  found_at : (r : Ordering) (k : K) (v : V) (e : K × V) (es : List (K × V)) → R k e.0 ≡ r
      → lookup (is_at (R q)) (insert_entry R es k v) ≡ cond (is_eq (R q k)) (Some v) (lookup (is_at (R q)) es)
      → lookup (is_at (R q)) (match_ordering r ((k, v) ∷ e ∷ es) ((e.0, v) ∷ es) (e ∷ insert_entry R es k v))
      ≡ cond (is_eq (R q k)) (Some v) (lookup (is_at (R q)) (e ∷ es))
  found_at Less k v e es is later = refl
  found_at Equal k v e es is later = rw (alike_right o k e.0 q is) (twice (is_eq (R q e.0)) (Some v) (Some e.1) (lookup (is_at (R q)) es))
  found_at Greater k v e es is later = rw later (either_first (is_eq (R q e.0)) (is_eq (R q k)) (Some e.1) (Some v) (lookup (is_at (R q)) es) (apart o q k e.0 is))

  pub found : (es : List (K × V)) (k : K) (v : V) → lookup (is_at (R q)) (insert_entry R es k v) ≡ cond (is_eq (R q k)) (Some v) (lookup (is_at (R q)) es)
  found [] k v = refl
  found (e ∷ es) k v = found_at (R k e.0) k v e es refl (found es k v)

-- ---- member by member

or_at : {V : Type 0} (b : Bool) (last : Option V) (v : V) (before : Option V) → option_or last (cond b (Some v) before) ≡ option_or (option_or last (cond b (Some v) None)) before
or_at b (Some w) v before = refl
or_at true None v before = refl
or_at false None v before = refl

-- what entries have after the members are read: that of the last name, else what they had before
kept : (key : Key) (ms : Members) (es fs : List (Key × ℕ)) → read_entries es ms ≡ Some fs → index_at key fs ≡ option_or (last_index key ms) (index_at key es)
kept key no_members es fs h = ap (λ o. index_at key (unwrap_or o [])) (sym h)
kept key (member n d ms) es fs h = by (small_number d) h (λ v. kept key ms (insert_entry key_cmp es (key_named n) v) fs)
  where
    by : (i : Option ℕ) → (i >>= λ v. read_entries (insert_entry key_cmp es (key_named n) v) ms) ≡ Some fs
        → ((v : ℕ) → read_entries (insert_entry key_cmp es (key_named n) v) ms ≡ Some fs → index_at key fs ≡ option_or (last_index key ms) (index_at key (insert_entry key_cmp es (key_named n) v)))
        → index_at key fs ≡ option_or (option_or (last_index key ms) (cond (is_at (key_cmp key) (key_named n)) i None)) (index_at key es)
    by None none later = absurd cc
    by (Some v) read later =
        later v read
        ∙ ap (option_or (last_index key ms)) (found keys_total key es (key_named n) v)
        ∙ or_at (is_at (key_cmp key) (key_named n)) (last_index key ms) v (index_at key es)

none_before : {V : Type 0} (o : Option V) → option_or o None ≡ o
none_before None = refl
none_before (Some v) = refl

-- of an object that is read as attributes
pub last_names : (named : ListName) (ms : Members) (es : List (Key × ℕ)) → read (Attributes named) (object ms) ≡ Some (attributes es) → (key : Key) → index_at key es ≡ last_index key ms
last_names named ms es h key = by (read_entries [] ms) refl h
  where
    by : (r : Option (List (Key × ℕ))) → read_entries [] ms ≡ r → option_map attributes r ≡ Some (attributes es) → index_at key es ≡ last_index key ms
    by None is none = absurd cc
    by (Some fs) is read_as =
        ap (λ o. index_at key (unwrap_or (option_map entries_in o) [])) (sym read_as)
        ∙ kept key ms [] fs is ∙ none_before (last_index key ms)
