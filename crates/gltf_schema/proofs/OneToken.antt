-- Values of one token.
use Rattle.std.proofs.Common.{◌≡◌, ◌^◌, nat_lt, true, ℕ, List, [], ◌∷◌, Option, Some, None, Bool, length, option_map, Result, Ok, Err, OnOk, refl, false, sym, ap, ◌∙◌, subst}
use Rattle.std.specs.Prelude.{IfOk}
use Rattle.std.specs.Bool.{MatchBool}
use Rattle.std.proofs.lemmas.Bool.{true≢false, false≢true}
use Rattle.json.specs.Token.{Token}
use Rattle.json.specs.Json as json
use Rattle.json.specs.Json.{Parse, parse_map, value, value_with}
use Rattle.json.proofs.Grammar.{value_is}
use Rattle.serde_json.specs.Data.{Data, Num, unsigned, number, string, boolean, null, Items, Members}
use Rattle.serde_json.specs.Find.{as_number}
use Rattle.serde_json.specs.View.{view}
use Rattle.serde_json.specs.declared.value.Value.{Value}
use Rattle.serde_json.specs.Read.{of_json, of_items, of_members, number_of, converted}
use Rattle.gltf_base.specs.Lists.{ListName}
use Rattle.gltf_base.specs.declared.real.Real.{Real}
use Rattle.gltf_base.specs.Spelling.{Spelling, by_number, by_name, item_spelled}
use Rattle.gltf_base.specs.declared.choice.Form.TheVariants as form
use Rattle.gltf_schema.specs.Tree.{Tree, absent, whole, text, truth, index, number as real}
use Rattle.gltf_schema.specs.Fields.{list_tree, real_tree, reals_tree}
use Rattle.gltf_schema.specs.Kind.{Kind, U32, U64, Number, Numbers, Text, Truth, IndexInto, ListOf, optional}
use Rattle.gltf_schema.specs.Leaves.{checked_tree, choice_of}
use Rattle.gltf_schema.specs.Read.{read, read_member, whole_number, small_number}
use Rattle.gltf_schema.specs.Streamed.{HasValue, ReadsAt, ReadsOptional, IsWholeNext}
use Rattle.gltf_schema.specs.Lexemes.{IsNoNull}
use Rattle.gltf_schema.proofs.ArrayOfNumbers.{reals_read, array_of_list}
use Rattle.gltf_schema.proofs.Choosing.{chosen_among}
use Rattle.gltf_schema.proofs.Turns.{converted_some}

-- what follows from the value, if there is one
pub on_ok : {T E : Type 0} {P Q : Type 0} (r : Result T E) → (P → Q) → OnOk r P → OnOk r Q
on_ok (Ok x) f h = f h
on_ok (Err e) f h = tt

pub on_value : {T E : Type 0} {P Q : T → Type 0} (r : Result T E) → ((x : T) → P x → Q x) → IfOk r P → IfOk r Q
on_value (Ok x) f h = f x h
on_value (Err e) f h = tt

pub when_true : (P Q : Type 0) (b : Bool) → b ≡ true → MatchBool b P Q → P
when_true P Q true e m = m
when_true P Q false e m = absurd (false≢true e)

pub when_false : (P Q : Type 0) (b : Bool) → b ≡ false → MatchBool b P Q → Q
when_false P Q true e m = absurd (true≢false e)
when_false P Q false e m = m

pub number_at : (depth : ℕ) (s : List ℕ) (ts : List Token) (x : Num) → number_of s ≡ Some x → HasValue depth (Token.number s ∷ ts) (number x) ts
number_at depth s ts x e = ap (converted of_json) (value_is depth (Token.number s ∷ ts)) ∙ rw e refl

pub string_at : (depth : ℕ) (s : List ℕ) (ts : List Token) → HasValue depth (Token.string s ∷ ts) (string s) ts
string_at depth s ts = ap (converted of_json) (value_is depth (Token.string s ∷ ts))

pub boolean_at : (depth : ℕ) (b : Bool) (ts : List Token) → HasValue depth (Token.boolean b ∷ ts) (boolean b) ts
boolean_at depth b ts = ap (converted of_json) (value_is depth (Token.boolean b ∷ ts))

pub null_at : (depth : ℕ) (ts : List Token) → HasValue depth (Token.null ∷ ts) null ts
null_at depth ts = ap (converted of_json) (value_is depth (Token.null ∷ ts))

pub whole_value : (depth : ℕ) (ts rest : List Token) (n : ℕ) → IsWholeNext ts n rest → (d : Data) × HasValue depth ts d rest × (whole_number d ≡ Some n)
whole_value depth ts rest n w = (number (unsigned n), subst (λ l. HasValue depth l (number (unsigned n)) rest) (sym w.1) (number_at depth w.0 rest (unsigned n) w.2), refl)

pub whole_at : (depth : ℕ) (ts rest : List Token) (n : ℕ) → IsWholeNext ts n rest → ReadsAt U64 (whole n) depth ts rest
whole_at depth ts rest n w = let v = whole_value depth ts rest n w in (v.0, v.1, ap (option_map whole) v.2)

pub small_at : (depth : ℕ) (ts rest : List Token) (n : ℕ) → nat_lt n (2 ^ 32) ≡ true → IsWholeNext ts n rest → ReadsAt U32 (whole n) depth ts rest
small_at depth ts rest n less w = let v = whole_value depth ts rest n w in (v.0, v.1, rw (v.2, less) refl)

abbrev as_index : Tree → Tree
as_index (whole n) = index n
as_index t = t

indexed : (o : Option ℕ) → option_map index o ≡ option_map as_index (option_map whole o)
indexed None = refl
indexed (Some n) = refl

-- a number of 32 bits is an index into any list
pub index_of_number : (named : ListName) (depth : ℕ) (ts rest : List Token) (n : ℕ) → ReadsAt U32 (whole n) depth ts rest → ReadsAt (IndexInto named) (index n) depth ts rest
index_of_number named depth ts rest n r = (r.0, r.1, indexed (small_number r.0) ∙ ap (option_map as_index) r.2)

-- an item of a choice by number
pub choice_number_at : {X : Type 0} (spell : X → Spelling) (items : List X) (depth : ℕ) (ts rest : List Token) (n : ℕ) → IsWholeNext ts n rest
    → ReadsAt (choice_of form.Number spell items) (checked_tree spell (item_spelled spell items (by_number n))) depth ts rest
choice_number_at spell items depth ts rest n w =
    let v = whole_value depth ts rest n w in
    (v.0, v.1, rw v.2 (ap Some (sym (chosen_among spell items (by_number n)))))

-- and by name
pub choice_name_at : {X : Type 0} (spell : X → Spelling) (items : List X) (depth : ℕ) (s : List ℕ) (ts rest : List Token) → ts ≡ Token.string s ∷ rest
    → ReadsAt (choice_of form.Name spell items) (checked_tree spell (item_spelled spell items (by_name s))) depth ts rest
choice_name_at spell items depth s ts rest is =
    subst (λ l. ReadsAt (choice_of form.Name spell items) (checked_tree spell (item_spelled spell items (by_name s))) depth l rest) (sym is)
    (string s, string_at depth s rest, ap Some (sym (chosen_among spell items (by_name s))))

-- a number, as the value that holds it
pub real_at : (depth : ℕ) (s : List ℕ) (ts rest : List Token) (x : Num) (v : Value) (y : Num) → ts ≡ Token.number s ∷ rest → number_of s ≡ Some x → view v ≡ number x → as_number (view v) ≡ Some y → ReadsAt Number (real y) depth ts rest
real_at depth s ts rest x v y first e is h =
    subst (λ l. ReadsAt Number (real y) depth l rest) (sym first) (number x, number_at depth s rest x e, ap (option_map real) (ap as_number (sym is) ∙ h))

array_of : (d : Data) (xs : List Real) (n : ℕ) → read (ListOf Number) d ≡ Some (list_tree real_tree xs) → length xs ≡ n → read (Numbers n) d ≡ Some (reals_tree xs)
array_of null xs n h long = absurd cc
array_of (Data.boolean b) xs n h long = absurd cc
array_of (Data.number b) xs n h long = absurd cc
array_of (Data.string b) xs n h long = absurd cc
array_of (Data.array ds) xs n h long = array_of_list ds xs n (reals_read ds xs h) long
array_of (Data.object b) xs n h long = absurd cc

-- as many numbers as an array has places
pub array_at : (depth n : ℕ) (ts rest : List Token) (xs ys : List Real) → ys ≡ xs → length xs ≡ n → ReadsAt (ListOf Number) (list_tree real_tree xs) depth ts rest → ReadsAt (Numbers n) (reals_tree ys) depth ts rest
array_at depth n ts rest xs ys same long r = (r.0, r.1, array_of r.0 xs n r.2 long ∙ ap (λ zs. Some (reals_tree zs)) (sym same))

pub truth_next : (depth : ℕ) (b : Bool) (ts rest : List Token) → ts ≡ Token.boolean b ∷ rest → ReadsAt Truth (truth b) depth ts rest
truth_next depth b ts rest is = subst (λ l. ReadsAt Truth (truth b) depth l rest) (sym is) (boolean b, boolean_at depth b rest, refl)

pub text_next : (depth : ℕ) (s t : List ℕ) (ts rest : List Token) → ts ≡ Token.string s ∷ rest → t ≡ s → ReadsAt Text (text t) depth ts rest
text_next depth s t ts rest is same = subst (λ l. ReadsAt Text (text t) depth l rest) (sym is) (string s, string_at depth s rest, ap (λ x. Some (text x)) (sym same))

pub absent_at : (kind : Kind) (depth : ℕ) (ts : List Token) → ReadsOptional kind absent depth (Token.null ∷ ts) ts
absent_at kind depth ts = (null, null_at depth ts, refl)

-- ---- what begins with another token is not null

no_null_number : (x : Option Num) → option_map number x ≡ Some null → ⊥
no_null_number None e = absurd (cc)
no_null_number (Some n) e = absurd (cc)

no_null_array : (x : Option Items) → option_map Data.array x ≡ Some null → ⊥
no_null_array None e = absurd (cc)
no_null_array (Some n) e = absurd (cc)

no_null_object : (x : Option Members) → option_map Data.object x ≡ Some null → ⊥
no_null_object None e = absurd (cc)
no_null_object (Some n) e = absurd (cc)

null_of : (j : json.Json) → of_json j ≡ Some null → j ≡ json.null
null_of json.null e = refl
null_of (json.boolean b) e = absurd (cc)
null_of (json.number s) e = absurd (no_null_number (number_of s) e)
null_of (json.string s) e = absurd (cc)
null_of (json.array js) e = absurd (no_null_array (of_items js) e)
null_of (json.object ms) e = absurd (no_null_object (of_members ms _) e)

abbrev first : Option (json.Json × List Token) → json.Json
first None = json.null
first (Some p) = p.0

no_array : (o : Option (json.Items × List Token)) (r : List Token) → parse_map json.array o ≡ Some (json.null, r) → ⊥
no_array None r e = absurd (cc)
no_array (Some p) r e = let f : json.array p.0 ≡ json.null = ap first e in absurd (cc)

no_object : (o : Option (json.Members × List Token)) (r : List Token) → parse_map json.object o ≡ Some (json.null, r) → ⊥
no_object None r e = absurd (cc)
no_object (Some p) r e = let f : json.object p.0 ≡ json.null = ap first e in absurd (cc)

module _ (a : Parse json.Items) (o : Parse json.Members) where
  null_token : (k : Token) (ts r : List Token) → value_with a o (k ∷ ts) ≡ Some (json.null, r) → k ≡ Token.null
  null_token Token.begin_object ts r e = absurd (no_object (o ts) r e)
  null_token Token.end_object ts r e = absurd (cc)
  null_token Token.begin_array ts r e = absurd (no_array (a ts) r e)
  null_token Token.end_array ts r e = absurd (cc)
  null_token (Token.key s) ts r e = absurd (cc)
  null_token (Token.string s) ts r e = let f : json.string s ≡ json.null = ap first e in absurd (cc)
  null_token (Token.number s) ts r e = let f : json.number s ≡ json.null = ap first e in absurd (cc)
  null_token (Token.boolean b) ts r e = let f : json.boolean b ≡ json.null = ap first e in absurd (cc)
  null_token Token.null ts r e = refl
  null_token Token.bad ts r e = absurd (cc)

with_mark : (kind : Kind) (t : Tree) (d : Data) → (d ≡ null → ⊥) → read kind d ≡ Some t → read_member optional (read kind) (Some d) ≡ Some t
with_mark kind t null h e = absurd (h refl)
with_mark kind t (Data.boolean b) h e = e
with_mark kind t (Data.number b) h e = e
with_mark kind t (Data.string b) h e = e
with_mark kind t (Data.array b) h e = e
with_mark kind t (Data.object b) h e = e

present_at : (kind : Kind) (t : Tree) (depth : ℕ) (k : Token) (ts rest : List Token) → (k ≡ Token.null → ⊥) → ReadsAt kind t depth (k ∷ ts) rest → ReadsOptional kind t depth (k ∷ ts) rest
present_at kind t depth k ts rest h r =
    let j = converted_some of_json (value depth (k ∷ ts)) r.0 rest r.1 in
    let never : r.0 ≡ null → ⊥ = λ e. h (null_token _ _ k ts rest (sym (value_is depth (k ∷ ts)) ∙ j.1 ∙ ap (λ x. Some (x, rest)) (null_of j.0 (j.2 ∙ ap Some e)))) in
    (r.0, r.1, with_mark kind t r.0 never r.2)

pub present_next : (kind : Kind) (t : Tree) (depth : ℕ) (ts rest : List Token) → IsNoNull ts → ReadsAt kind t depth ts rest → ReadsOptional kind t depth ts rest
present_next kind t depth [] rest h r =
    let none : converted of_json (value depth []) ≡ None = ap (converted of_json) (value_is depth []) in
    absurd (none_some (sym none ∙ r.1))
  where
    none_some : {X : Type 0} {x : X} → None ≡ Some x → ⊥
    none_some e = cc
present_next kind t depth (k ∷ ts) rest h r = present_at kind t depth k ts rest (λ e. h ts (ap (λ x. x ∷ ts) e)) r
