-- Each key of attributes that were read is what the name of a member means.
use Rattle.std.proofs.Common.{◌≡◌, ℕ, List, [], true, Option, Some, Ordering, Less, Equal, Greater, nat_cmp, is_eq, refl, sym, ◌∙◌, subst}
use Rattle.std.proofs.lemmas.List.Elements.{All-nil}
use Rattle.std.proofs.lemmas.Map.Text.{is_eq-slice_cmp}
use Rattle.std.proofs.lemmas.Map.Views.{All-keys-insert_entry}
use Rattle.std.proofs.lemmas.Slice.Eq.{bytes_eq-Decides}
use Rattle.std.specs.BTreeMap.{insert_entry}
use Rattle.std.specs.Cmp.Lexicographic.{slice_cmp}
use Rattle.std.specs.List.{All}
use Rattle.std.specs.Map.{keys_of}
use Rattle.std.specs.Ordering.{match_ordering}
use Rattle.serde_json.specs.Data as json
use Rattle.serde_json.specs.Data.{Data, Items, Members, no_members, member}
use Rattle.serde_json.specs.Find.{as_array, as_object, get_member}
use Rattle.gltf_base.specs.Keys.{Key, key_cmp}
use Rattle.gltf_base.specs.Names.{key_named}
use Rattle.gltf_base.specs.Lists.{ListName}
use Rattle.gltf_schema.specs.Kind.{Attributes}
use Rattle.gltf_schema.specs.Read.{read, read_entries, small_number}
use Rattle.gltf_schema.specs.Tree.{Tree, attributes, entries_in}
use Rattle.gltf_schema.proofs.ReadPlain.{bound, mapped}
use Rattle.gltf_validation_rules.proofs.Leading.{Has}

pub is_array : (d : Data) (ds : Items) → as_array d ≡ Some ds → d ≡ json.array ds
is_array (json.array ds) es h = cc
is_array d ds h = absurd cc

pub is_object : (d : Data) (ms : Members) → as_object d ≡ Some ms → d ≡ json.object ms
is_object (json.object ms) ns h = cc
is_object d ms h = absurd cc

-- ---- members of a name

abbrev Held : List ℕ → Members → Type 0
Held n ms = (d : Data) × (get_member n ms ≡ Some d)

equal_taken : {A : Type 0} (o : Ordering) (a b c : A) → is_eq o ≡ true → match_ordering o a b c ≡ b
equal_taken Less a b c h = absurd cc
equal_taken Equal a b c h = refl
equal_taken Greater a b c h = absurd cc

first_held : (n : List ℕ) (d : Data) (ms : Members) → Held n (member n d ms)
first_held n d ms = (
  d,
  equal_taken (slice_cmp nat_cmp n n) (get_member n ms) (Some d) (get_member n ms) (is_eq-slice_cmp n n ∙ (bytes_eq-Decides n n).1 refl),
)

over : (o : Ordering) (m : Option Data) (d e : Data) → m ≡ Some d → (x : Data) × (match_ordering o m (Some e) m ≡ Some x)
over Less m d e h = (d, h)
over Equal m d e h = (e, refl)
over Greater m d e h = (d, h)

later_held : (q n : List ℕ) (d : Data) (ms : Members) → Held q ms → Held q (member n d ms)
later_held q n d ms h = over (slice_cmp nat_cmp q n) (get_member q ms) h.0 d h.1

-- ---- the entries

-- each name in some members is one in all
abbrev Within : Members → Members → Type 0
Within ms all = (q : List ℕ) → Held q ms → Held q all

entries_there : (all ms : Members) (es fs : List (Key × ℕ)) → Within ms all → All (Has (json.object all)) (keys_of es) → read_entries es ms ≡ Some fs
    → All (Has (json.object all)) (keys_of fs)
entries_there all no_members es fs within has h = let e : es ≡ fs = cc in rw (← e) has
entries_there all (member n d ms) es fs within has h =
    let i = bound (small_number d) _ fs h in
    let own = within n (first_held n d ms) in
    let named : Has (json.object all) (key_named n) = record { name = n; value = own.0; there = own.1; means = refl } in
    entries_there all ms (insert_entry key_cmp es (key_named n) i.0) fs (λ q held. within q (later_held q n d ms held))
    (All-keys-insert_entry key_cmp (key_named n) i.0 (Has (json.object all)) es has named) i.2

pub keys_there : (named : ListName) (d : Data) (t : Tree) → read (Attributes named) d ≡ Some t → All (Has d) (keys_of (entries_in t))
keys_there named d t h =
    let ms = bound (as_object d) _ t h in
    let es = mapped attributes (read_entries [] ms.0) t ms.2 in
    rw (← es.2) (subst (λ x. All (Has x) (keys_of es.0)) (sym (is_object d ms.0 ms.1))
    (entries_there ms.0 ms.0 [] es.0 (λ q held. held) (All-nil (Has (json.object ms.0))) es.1))
