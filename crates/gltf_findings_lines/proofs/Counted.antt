-- What the grammar reads takes as many tokens as the value has.
use Rattle.std.proofs.Common.{◌≡◌, ℕ, zero, suc, ◌+◌, List, [], ◌∷◌, length, Option, Some, None, option_and_then, subst, refl, arith, length-append}
use Rattle.std.specs.Prelude.{⊤}
use Rattle.json.specs.Token.{Token}
use Rattle.json.specs.Json.{Json, array, object, Items, item, Members, member, Parse, parse_map, after_end_array, read_key, items_step, members_step, items, members, value_with, value}
use Rattle.json.specs.Tree.{json_tokens, items_tokens, members_tokens}
use Rattle.json.proofs.Grammar.{closed_array, read_key_is}

abbrev pub size : Json → ℕ
size j = length (json_tokens j)

abbrev items_size : Items → ℕ
items_size js = length (items_tokens js)

abbrev members_size : Members → ℕ
members_size ms = length (members_tokens ms)

-- n tokens were read before, and then these
abbrev Takes : {A : Type 0} → (A → ℕ) → ℕ → Option (A × List Token) → Type 0
Takes f n None = ⊤
Takes f n (Some p) = n ≡ f p.0 + length p.1

abbrev Counts : {A : Type 0} → (A → ℕ) → Parse A → Type 0
Counts f p = (ts : List Token) → Takes f (length ts) (p ts)

mapped : {A B : Type 0} (f : A → ℕ) (g : B → ℕ) (h : A → B) (k n : ℕ) → ((a : A) → g (h a) ≡ k + f a) → (o : Option (A × List Token)) → Takes f n o → Takes g (k + n) (parse_map h o)
mapped f g h k n is None x = tt
mapped f g h k n is (Some p) x = omega (arith, is p.0, x)

and_more : {B : Type 0} (g : B → ℕ) (h : Json → B → B) (k : ℕ) → ((j : Json) (b : B) → g (h j b) ≡ k + size j + g b) → (more : Parse B) → Counts g more
    → (n : ℕ) (o : Option (Json × List Token)) → Takes size n o → Takes g (k + n) (option_and_then (λ q. parse_map (h q.0) (more q.1)) o)
and_more g h k is more again n None x = tt
and_more g h k is more again n (Some q) x =
    let e : k + size q.0 + length q.1 ≡ k + n = omega (arith, x) in
    subst (λ m. Takes g m (parse_map (h q.0) (more q.1))) e (mapped g g (h q.0) (k + size q.0) (length q.1) (is q.0) (more q.1) (again q.1))

item_size : (j : Json) (js : Items) → items_size (item j js) ≡ 0 + size j + items_size js
item_size j js = omega (arith, length-append (json_tokens j) (items_tokens js))

member_size : (k : List ℕ) (j : Json) (ms : Members) → members_size (member k j ms) ≡ 1 + size j + members_size ms
member_size k j ms = omega (arith, length-append (json_tokens j) (members_tokens ms))

zero_more : {A : Type 0} (f : A → ℕ) (n : ℕ) (o : Option (A × List Token)) → Takes f (0 + n) o → Takes f n o
zero_more f n None x = tt
zero_more f n (Some p) x = omega (arith, x)

module _ (p : Parse Json) (read : Counts size p) where
  item_turn : (more : Parse Items) → Counts items_size more → (ts : List Token) (o : Option (List Token)) → after_end_array ts ≡ o → Takes items_size (length ts) (items_step p more ts o)
  item_turn more again ts (Some r) e = let is = closed_array ts r e in rw is (omega arith)
  item_turn more again ts None e = zero_more items_size (length ts) _ (and_more items_size item 0 item_size more again (length ts) (p ts) (read ts))

  Counts-items : (n : ℕ) → Counts items_size (items p n)
  unfolding items
  Counts-items zero ts = tt
  Counts-items (suc n) ts = item_turn (items p n) (Counts-items n) ts (after_end_array ts) refl

  member_turn : (more : Parse Members) → Counts members_size more → (ts : List Token) (o : Option (Option (List ℕ) × List Token)) → read_key ts ≡ o → Takes members_size (length ts) (option_and_then (λ q. members_step p more q.0 q.1) o)
  member_turn more again ts None e = tt
  member_turn more again ts (Some (None, s)) e = let is = read_key_is ts None s e in rw is (omega arith)
  member_turn more again ts (Some (Some k, s)) e =
      let is = read_key_is ts (Some k) s e in
      let longer : 1 + length s ≡ length ts = rw is (omega arith) in
      subst (λ m. Takes members_size m (option_and_then (λ q. parse_map (member k q.0) (more q.1)) (p s))) longer
      (and_more members_size (member k) 1 (member_size k) more again (length s) (p s) (read s))

  Counts-members : (n : ℕ) → Counts members_size (members p n)
  unfolding members
  Counts-members zero ts = tt
  Counts-members (suc n) ts = member_turn (members p n) (Counts-members n) ts (read_key ts) refl

one_more : {A : Type 0} (f : A → ℕ) (g : Json → ℕ) (h : A → Json) (ts : List Token) → ((a : A) → g (h a) ≡ 1 + f a) → (o : Option (A × List Token)) → Takes f (length ts) o → Takes g (suc (length ts)) (parse_map h o)
one_more f g h ts is None x = tt
one_more f g h ts is (Some p) x = omega (arith, is p.0, x)

one_level : (a : Parse Items) (o : Parse Members) → Counts items_size a → Counts members_size o → Counts size (value_with a o)
one_level a o p q [] = tt
one_level a o p q (Token.begin_object ∷ ts) = one_more members_size size object ts (λ ms. omega arith) (o ts) (q ts)
one_level a o p q (Token.end_object ∷ ts) = tt
one_level a o p q (Token.begin_array ∷ ts) = one_more items_size size array ts (λ js. omega arith) (a ts) (p ts)
one_level a o p q (Token.end_array ∷ ts) = tt
one_level a o p q (Token.key s ∷ ts) = tt
one_level a o p q (Token.string s ∷ ts) = omega arith
one_level a o p q (Token.number s ∷ ts) = omega arith
one_level a o p q (Token.boolean b ∷ ts) = omega arith
one_level a o p q (Token.null ∷ ts) = omega arith
one_level a o p q (Token.bad ∷ ts) = tt

Counts-value : (d : ℕ) → Counts size (value d)
unfolding value
Counts-value zero = one_level (λ ts. None) (λ ts. None) (λ ts. tt) (λ ts. tt)
Counts-value (suc d) =
    one_level (λ ts. items (value d) (length ts) ts) (λ ts. members (value d) (length ts) ts)
    (λ ts. Counts-items (value d) (Counts-value d) (length ts) ts) (λ ts. Counts-members (value d) (Counts-value d) (length ts) ts)

-- a value and what is behind it have as many tokens as both together
pub value-size : (d : ℕ) (ts r : List Token) (j : Json) → value d ts ≡ Some (j, r) → length ts ≡ size j + length r
value-size d ts r j e = subst (Takes size (length ts)) e (Counts-value d ts)
