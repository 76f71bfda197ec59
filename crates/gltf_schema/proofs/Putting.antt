-- Items, entries and members written in turn.
use Rattle.std.proofs.lemmas.Bool.{false≢true, or_left, or_right}
use Rattle.std.specs.List.{AllZip}
use Rattle.std.specs.declared.alloc.Global.{Global}
use Rattle.serde_json.specs.declared.value.Value.{Value}
use Rattle.std.proofs.Common.{◌≡◌, ℕ, zero, suc, drop, Bool, true, false, if◌then◌else◌, String, string_bytes, List, [], ◌∷◌, ◌++◌, Option, Some, None, option_map, map, refl, ap, ◌∙◌}
use Rattle.serde_json.specs.Data as json
use Rattle.serde_json.specs.Data.{Data, Members, put}
use Rattle.serde_json.specs.View.{items_of, view, members_view}
use Rattle.gltf_base.specs.Keys.{Key, key_text}
use Rattle.gltf_base.specs.Names.{is_named}
use Rattle.gltf_base.specs.declared.error.Error.{Error}
use Rattle.gltf_base.specs.declared.error.Error.TheVariants as errors
use Rattle.gltf_schema.specs.Maybe.{◌>>=◌}
use Rattle.gltf_schema.specs.Outcome.{Withholds}
use Rattle.gltf_schema.specs.Invalid.{is_unknown, any_unknown, holds_invalid, any_holds_invalid}
use Rattle.gltf_schema.specs.Tree.{Tree, trees}
use Rattle.gltf_schema.specs.Write.{write_items, write_entries, key_name, small_data}
use Rattle.gltf_schema.proofs.Items.{onto, onto_push, onto_none}

-- what is made of something withheld
pub withheld_through : {A B : Type 0} (e : Error) (w : Option A) (v : Option B) (b c : Bool)
    → ((w ≡ None) × (b ≡ true) → (v ≡ None) × (c ≡ true)) → Withholds e w b → Withholds e v c
withheld_through (errors.Memory e) w v b c through h = tt
withheld_through errors.InvalidItem w v b c through h = through h
withheld_through errors.Json w v b c through h = h
withheld_through errors.Schema w v b c through h = h
withheld_through errors.Read w v b c through h = h
withheld_through errors.Write w v b c through h = h
withheld_through errors.TooLong w v b c through h = h

-- a step that is withheld withholds what comes after it
pub withheld_then : {A B : Type 0} (e : Error) (f : A → Option B) (written : Option A) (b c : Bool) → (b ≡ true → c ≡ true)
    → Withholds e written b → Withholds e (written >>= f) c
withheld_then e f written b c wider h = withheld_through e written (written >>= f) b c (λ g. (ap (λ o. o >>= f) g.0, wider g.1)) h

-- and what is made of it
pub withheld : {A B : Type 0} (e : Error) (f : A → B) (written : Option A) (b : Bool) → Withholds e written b → Withholds e (option_map f written) b
withheld e f written b h = withheld_through e written (option_map f written) b b (λ g. (ap (option_map f) g.0, g.1)) h

-- if nothing is invalid, only a refused growth withholds what is put
pub withheld_anyway : {A B : Type 0} (e : Error) (v : Option A) (written : Option B) (b : Bool) → Withholds e v false → Withholds e written b
withheld_anyway e v written b h = withheld_through e v written false b (λ g. absurd (false≢true g.1)) h

-- no item comes behind
pub onto_no_items : (ds : List Data) → onto json.item ds (Some json.no_items) ≡ Some (items_of ds)
onto_no_items [] = refl
onto_no_items (x ∷ ds) = ap (option_map (json.item x)) (onto_no_items ds)

pub write_next : (f : Tree → Option Data) (ds : List Data) (d : Data) (t : Tree) (ts : List Tree) → f t ≡ Some d → onto json.item (ds ++ d ∷ []) (write_items f (trees ts)) ≡ onto json.item ds (write_items f (trees (t ∷ ts)))
write_next f ds d t ts h = onto_push json.item ds d (write_items f (trees ts)) ∙ ap (onto json.item ds) (rw h refl)

pub write_stops : (e : Error) (f : Tree → Option Data) (ds : List Data) (t : Tree) (ts : List Tree) (b c : Bool) → (b ≡ true → c ≡ true)
    → Withholds e (f t) b → Withholds e (onto json.item ds (write_items f (trees (t ∷ ts)))) c
write_stops e f ds t ts b c wider h =
    withheld_through e (f t) (onto json.item ds (write_items f (trees (t ∷ ts)))) b c (λ g. (ap (onto json.item ds) (rw (g.0) refl) ∙ onto_none json.item ds, wider g.1)) h

-- what is invalid in an item behind others is invalid in the list
pub some_behind : {X : Type 0} (f : X → Tree) (i : ℕ) (xs : List X) → any_holds_invalid (trees (map f (drop i xs))) ≡ true → any_holds_invalid (trees (map f xs)) ≡ true
some_behind f zero xs h = h
some_behind f (suc i) [] h = h
some_behind f (suc i) (x ∷ xs) h = or_right (holds_invalid (f x)) _ (some_behind f i xs h)

-- a copy of members says what they say
pub copied : (es fs : List (String Global × Value)) → AllZip (λ (p q : String Global × Value). (string_bytes q.0 ≡ string_bytes p.0) × (view q.1 ≡ view p.1)) es fs → members_view fs ≡ members_view es
copied [] [] h = refl
copied [] (f ∷ fs) h = absurd h
copied (e ∷ es) [] h = absurd h
copied (e ∷ es) (f ∷ fs) h = rw (h.0.0, h.0.1, copied es fs h.1) refl

-- entries in order are written
pub in_order_written : (in_order : Bool) (written : Option Data) (d : Data) → in_order ≡ true → written ≡ Some d → (if in_order then written else None) ≡ Some d
in_order_written true written d is h = h
in_order_written false written d is h = absurd (false≢true is)

-- and are withheld as they are by themselves
pub in_order_withheld : (e : Error) (in_order : Bool) (written : Option Data) (b : Bool) → Withholds e written b → Withholds e (if in_order then written else None) b
in_order_withheld e true written b h = h
in_order_withheld e false written b h = withheld_through e written None b b (λ g. (refl, g.1)) h

-- what a semantic means has a name
pub named : (k : Key) → is_named k ≡ true → key_name k ≡ Some (key_text k)
named k h = rw h refl

-- one attribute, and those after it
pub entry_written : (e : Key × ℕ) (es : List (Key × ℕ)) (ms : Members) (n : List ℕ) (d : Data) → key_name e.0 ≡ Some n → small_data e.1 ≡ Some d
    → write_entries (e ∷ es) ms ≡ write_entries es (put n d ms)
entry_written e es ms n d name value = rw (name, value) refl

-- an attribute whose key is invalid is not written
pub key_withheld : (error : Error) (e : Key × ℕ) (es : List (Key × ℕ)) (ms : Members) (c : Bool) → (any_unknown (e ∷ es) ≡ true → c ≡ true)
    → Withholds error (key_name e.0) (is_unknown e.0) → Withholds error (write_entries (e ∷ es) ms) c
key_withheld error e es ms c wider h = withheld_then error _ (key_name e.0) (is_unknown e.0) c (λ g. wider (or_left (is_unknown e.0) _ g)) h
