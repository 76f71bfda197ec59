-- What a node shows of the value that begins at it.
use Rattle.std.proofs.Common.{◌≡◌, ℕ, ◌+◌, ◌<◌, List, ◌∷◌, map, length, drop, get_or, Option, Some, None, refl, sym, ap, ◌∙◌, arith}
use Rattle.std.proofs.lemmas.List.{drop_more, get_or-map, length-map}
use Rattle.std.specs.Borrow.{Bor}
use Rattle.json.specs.Token.{Token}
use Rattle.json.specs.Json.{Json, null, boolean, number, string, array, object, Items, Members, parse_map, after_end_array, value}
use Rattle.json.specs.Tape.{node_token, Passes}
use Rattle.json.specs.Find.{BeginsWith}
use Rattle.json.specs.declared.tape.Node.{Node}
use Rattle.json.specs.declared.tape.Node.TheVariants.{Object, EndObject, Array, EndArray, Key, String, Number, Bool, Null}
use Rattle.json.proofs.Grammar.{value_is, left_some}
use Rattle.json.proofs.Found.{one_reading, not_found, Some_inj, IsKey}

pub here : (ns : List Node) (i : ℕ) (d : Node) → i < length ns → drop i (map node_token ns) ≡ node_token (get_or ns i d) ∷ drop (i + 1) (map node_token ns)
here ns i d h =
    drop_more (map node_token ns) i (node_token d) (omega (arith, length-map ns node_token)) ∙ ap (λ t. t ∷ drop (i + 1) (map node_token ns)) (get_or-map node_token ns i d (node_token d) h)

-- the value, and what is behind it, by the first node
abbrev Shape : Node → List Token → Json → List Token → Type 0
Shape (Object a) ts j rest = (ms : Members) × (j ≡ object ms)
Shape EndObject ts j rest = ⊥
Shape (Array a) ts j rest = (js : Items) × (j ≡ array js)
Shape EndArray ts j rest = ⊥
Shape (Key s) ts j rest = ⊥
Shape (String s) ts j rest = (j ≡ string s.now) × (rest ≡ ts)
Shape (Number s) ts j rest = (j ≡ number s.now) × (rest ≡ ts)
Shape (Bool b) ts j rest = (j ≡ boolean b) × (rest ≡ ts)
Shape Null ts j rest = (j ≡ null) × (rest ≡ ts)

mapped : {A : Type 0} (f : A → Json) (o : Option (A × List Token)) (j : Json) (rest : List Token) → parse_map f o ≡ Some (j, rest) → (a : A) × (j ≡ f a)
mapped f None j rest e = not_found (j, rest) e
mapped f (Some x) j rest e = (x.0, sym (ap (λ z. z.0) (Some_inj _ _ e)))

both : (k j : Json) (ts rest : List Token) → ◌≡◌ {A = Option (Json × List Token)} (Some (k, ts)) (Some (j, rest)) → (j ≡ k) × (rest ≡ ts)
both k j ts rest e = let pair = Some_inj _ _ e in (sym (ap (λ z. z.0) pair), sym (ap (λ z. z.1) pair))

pub shape : (n : Node) (ts : List Token) (j : Json) (d : ℕ) (rest : List Token) → value d (node_token n ∷ ts) ≡ Some (j, rest) → Shape n ts j rest
shape (Object a) ts j d rest e = mapped object _ j rest (sym (value_is d _) ∙ e)
shape EndObject ts j d rest e = not_found (j, rest) (sym (value_is d _) ∙ e)
shape (Array a) ts j d rest e = mapped array _ j rest (sym (value_is d _) ∙ e)
shape EndArray ts j d rest e = not_found (j, rest) (sym (value_is d _) ∙ e)
shape (Key s) ts j d rest e = not_found (j, rest) (sym (value_is d _) ∙ e)
shape (String s) ts j d rest e = both (string s.now) j ts rest (sym (value_is d _) ∙ e)
shape (Number s) ts j d rest e = both (number s.now) j ts rest (sym (value_is d _) ∙ e)
shape (Bool b) ts j d rest e = both (boolean b) j ts rest (sym (value_is d _) ∙ e)
shape Null ts j d rest e = both null j ts rest (sym (value_is d _) ∙ e)

pub one_token : (n : Node) (ts : List Token) (j : Json) (d : ℕ) (rest : List Token) → ((a : ℕ) → n ≡ Object a → ⊥) → ((a : ℕ) → n ≡ Array a → ⊥) → value d (node_token n ∷ ts) ≡ Some (j, rest) → rest ≡ ts
one_token (Object a) ts j d rest p q e = absurd (p a refl)
one_token EndObject ts j d rest p q e = absurd (shape EndObject ts j d rest e)
one_token (Array a) ts j d rest p q e = absurd (q a refl)
one_token EndArray ts j d rest p q e = absurd (shape EndArray ts j d rest e)
one_token (Key s) ts j d rest p q e = absurd (shape (Key s) ts j d rest e)
one_token (String s) ts j d rest p q e = (shape (String s) ts j d rest e).1
one_token (Number s) ts j d rest p q e = (shape (Number s) ts j d rest e).1
one_token (Bool b) ts j d rest p q e = (shape (Bool b) ts j d rest e).1
one_token Null ts j d rest p q e = (shape Null ts j d rest e).1

pub by_link : (all : List Token) (i end d : ℕ) (j : Json) (rest : List Token) → Passes all i end → value d (drop i all) ≡ Some (j, rest) → rest ≡ drop end all
by_link all i end d j rest link e =
    let other = left_some (value link.0 (drop i all)) (drop end all) link.1 in
    ap (λ z. z.1) (Some_inj _ _ (one_reading d link.0 (drop i all) _ _ e other.1))

pub no_close : (n : Node) (ts : List Token) → (n ≡ EndArray → ⊥) → after_end_array (node_token n ∷ ts) ≡ None
no_close (Object a) ts never = refl
no_close EndObject ts never = refl
no_close (Array a) ts never = refl
no_close EndArray ts never = absurd (never refl)
no_close (Key s) ts never = refl
no_close (String s) ts never = refl
no_close (Number s) ts never = refl
no_close (Bool b) ts never = refl
no_close Null ts never = refl

pub no_key : (n : Node) → ((s : Bor (List ℕ)) → n ≡ Key s → ⊥) → IsKey (node_token n) → ⊥
no_key (Object a) never h = h
no_key EndObject never h = h
no_key (Array a) never h = h
no_key EndArray never h = h
no_key (Key s) never h = never s refl
no_key (String s) never h = h
no_key (Number s) never h = h
no_key (Bool b) never h = h
no_key Null never h = h

pub an_object : (a : ℕ) (ts : List Token) (j : Json) → BeginsWith (node_token (Object a) ∷ ts) j → (ms : Members) × (j ≡ object ms)
an_object a ts j h = shape (Object a) ts j h.0 h.1 h.2

pub an_array : (a : ℕ) (ts : List Token) (j : Json) → BeginsWith (node_token (Array a) ∷ ts) j → (js : Items) × (j ≡ array js)
an_array a ts j h = shape (Array a) ts j h.0 h.1 h.2
