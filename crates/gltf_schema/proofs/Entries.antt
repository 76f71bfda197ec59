-- Entries of attributes, read in turn.
use Rattle.std.proofs.Common.{◌≡◌, ℕ, List, [], ◌∷◌, map, true, Option, Some, None, option_map, refl, sym, ap, ◌∙◌, Ordering, Less, Equal, Greater}
use Rattle.std.proofs.lemmas.Bool.{and_from}
use Rattle.std.specs.BTreeMap.{insert_entry}
use Rattle.std.specs.List.Sorted.{IsStrictlySortedBy}
use Rattle.std.specs.Ordering.{match_ordering, is_lt}
use Rattle.serde_json.specs.Data.{Data, Members, member}
use Rattle.gltf_base.specs.Keys.{Key, key_cmp}
use Rattle.gltf_base.specs.Names.{key_named}
use Rattle.gltf_schema.specs.Tree.{Tree, index}
use Rattle.gltf_schema.specs.Read.{read_entries, small_number}
use Rattle.gltf_schema.specs.Write.{are_in_order}

-- entries by what their keys and values mean
abbrev pub meant : {K V L W : Type 0} → (K → L) → (V → W) → List (K × V) → List (L × W)
meant key value = map (λ e. (key e.0, value e.1))

meant_at : {K V L W : Type 0} (o : Ordering) (key : K → L) (value : V → W) (before at after : List (K × V))
    → meant key value (match_ordering o before at after) ≡ match_ordering o (meant key value before) (meant key value at) (meant key value after)
meant_at Less key value before at after = refl
meant_at Equal key value before at after = refl
meant_at Greater key value before at after = refl

-- an entry goes where the entry that it means does, where keys are ordered as what they mean
pub inserted : {K V L W : Type 0} (cmp : K → K → Ordering) (cmp' : L → L → Ordering) (key : K → L) (value : V → W) → ((a b : K) → cmp a b ≡ cmp' (key a) (key b))
    → (es : List (K × V)) (k : K) (v : V) → meant key value (insert_entry cmp es k v) ≡ insert_entry cmp' (meant key value es) (key k) (value v)
inserted cmp cmp' key value same [] k v = refl
inserted cmp cmp' key value same (e ∷ es) k v =
    meant_at (cmp k e.0) key value _ _ _
    ∙ rw (same k e.0, inserted cmp cmp' key value same es k v) refl

-- entries whose keys ascend mean entries in the order of their keys
pub in_order : {K V : Type 0} (cmp : K → K → Ordering) (key : K → Key) (value : V → ℕ) → ((a b : K) → cmp a b ≡ key_cmp (key a) (key b))
    → (es : List (K × V)) → IsStrictlySortedBy cmp (map (λ e. e.0) es) → are_in_order (meant key value es) ≡ true
unfolding IsStrictlySortedBy
in_order cmp key value same [] h = refl
in_order cmp key value same (e ∷ []) h = refl
in_order cmp key value same (e ∷ f ∷ es) h =
    and_from (is_lt (key_cmp (key e.0) (key f.0))) (are_in_order (meant key value (f ∷ es)))
    (ap is_lt (sym (same e.0 f.0) ∙ h.0.0))
    (in_order cmp key value same (f ∷ es) h.1)

abbrev number_in : Tree → ℕ
number_in (index n) = n
number_in _ = 0

-- an index's tree has the number that was read
number_back : (read : Option ℕ) → option_map number_in (option_map index read) ≡ read
number_back None = refl
number_back (Some n) = refl

-- what is read as an index has its number
pub small_of : (d : Data) (n : ℕ) → option_map index (small_number d) ≡ Some (index n) → small_number d ≡ Some n
small_of d n h = sym (number_back (small_number d)) ∙ ap (option_map number_in) h

-- one member, and those after it
pub entry_read : (es : List (Key × ℕ)) (name : List ℕ) (d : Data) (ms : Members) (n : ℕ) → option_map index (small_number d) ≡ Some (index n)
    → read_entries (insert_entry key_cmp es (key_named name) n) ms ≡ read_entries es (member name d ms)
entry_read es name d ms n h =
    let number = small_of d n h in
    rw number refl
