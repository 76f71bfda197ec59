-- JSON printed token by token: what a value's tokens are made of.
use Rattle.std.proofs.Common.{◌≡◌, ℕ, ◌<◌, ◌^◌, ◌≤◌, List, [], ◌∷◌, ◌++◌, Bool, Some, option_map, refl, ap, ap₂, ◌∙◌, arith, append_assoc, decimal}
use Rattle.json.specs.Token.{Token, key, begin_object, end_object, begin_array, end_array}
use Rattle.json.specs.Json as json
use Rattle.json.specs.Tree as tree
use Rattle.serde_json.specs.Data.{Data, null, boolean, number, unsigned, string, array, object, Items, no_items, item, Members, no_members, member, put, members_depth}
use Rattle.serde_json.specs.Read.{number_of, of_members}
use Rattle.serde_json.specs.Written.{WritesValue, WritesItems, blank_members, members_outline}
use Rattle.serde_json.proofs.Numbers.{number_of-decimal}
use Rattle.serde_json.proofs.Texts.{unless_float-number_of}
use Rattle.gltf_schema.proofs.InOrder.{put_all, InOrder, put_in_order}

-- ---- values of one token

pub null_printed : (old new : List Token) → new ≡ old ++ Token.null ∷ [] → WritesValue null old new
null_printed old new e = (json.null, e, refl, omega arith, refl)

pub truth_printed : (b : Bool) (old new : List Token) → new ≡ old ++ Token.boolean b ∷ [] → WritesValue (boolean b) old new
truth_printed b old new e = (json.boolean b, e, refl, omega arith, refl)

pub string_printed : (s : List ℕ) (old new : List Token) → new ≡ old ++ Token.string s ∷ [] → WritesValue (string s) old new
string_printed s old new e = (json.string s, e, refl, omega arith, refl)

-- an integer is printed in decimal
pub number_printed : (n : ℕ) (s : List ℕ) (old new : List Token) → n < 2 ^ 64 → s ≡ decimal n → new ≡ old ++ Token.number s ∷ [] → WritesValue (number (unsigned n)) old new
number_printed n s old new fits is e =
    let read : number_of s ≡ Some (unsigned n) = ap number_of is ∙ number_of-decimal n fits in
    (json.number s, e, ap (option_map number) read, omega arith, ap json.number (unless_float-number_of s (unsigned n) read ∙ is))

-- ---- arrays, from the closing bracket to the opening one

pub items_end : (old new : List Token) → new ≡ old ++ end_array ∷ [] → WritesItems no_items old new
items_end old new e = (json.no_items, e, refl, omega arith, refl)

pub item_printed : (d : Data) (ds : Items) (old mid new : List Token) → WritesValue d old mid → WritesItems ds mid new → WritesItems (item d ds) old new
item_printed d ds old mid new first rest = (
  json.item first.0 rest.0,
  rest.1 ∙ ap (λ l. l ++ tree.items_tokens rest.0) first.1 ∙ append_assoc old (tree.json_tokens first.0) (tree.items_tokens rest.0),
  rw (first.2, rest.2) refl,
  omega (arith, first.3, rest.3),
  ap₂ json.item first.4 rest.4,
)

pub array_printed : (ds : Items) (old mid new : List Token) → mid ≡ old ++ begin_array ∷ [] → WritesItems ds mid new → WritesValue (array ds) old new
array_printed ds old mid new e rest = (
  json.array rest.0,
  rest.1 ∙ ap (λ l. l ++ tree.items_tokens rest.0) e ∙ append_assoc old (begin_array ∷ []) (tree.items_tokens rest.0),
  ap (option_map array) rest.2,
  omega (arith, rest.3),
  ap json.array rest.4,
)

-- ---- objects, from the closing bracket to the opening one

-- the members are printed in turn, and the bracket behind them; a reader puts them in in that turn
pub record PrintsMembers (ds : Members) (old new : List Token) : Type 0 where
  pub js : json.Members
  pub tokens : new ≡ old ++ tree.members_tokens js
  pub read : (ms : Members) → of_members js ms ≡ Some (put_all ds ms)
  pub outline : blank_members js ≡ members_outline ds
  pub deep : tree.members_depth js ≤ members_depth ds

pub nothing_printed : (old new : List Token) → new ≡ old ++ end_object ∷ [] → PrintsMembers no_members old new
nothing_printed old new e = record { js = json.no_members; tokens = e; read = λ ms. refl; outline = refl; deep = omega arith }

pub member_printed : (n : List ℕ) (d : Data) (ds : Members) (old mid after new : List Token)
    → mid ≡ old ++ key n ∷ [] → WritesValue d mid after → PrintsMembers ds after new → PrintsMembers (member n d ds) old new
member_printed n d ds old mid after new e value rest = record {
  js = json.member n value.0 rest.js;
  tokens = rest.tokens ∙ ap (λ l. l ++ tree.members_tokens rest.js) (value.1 ∙ ap (λ l. l ++ tree.json_tokens value.0) e ∙ append_assoc old (key n ∷ []) (tree.json_tokens value.0))
      ∙ append_assoc old (key n ∷ tree.json_tokens value.0) (tree.members_tokens rest.js);
  read = λ ms. rw (value.2) (rest.read (put n d ms));
  outline = ap₂ (json.member n) value.4 rest.outline;
  deep = omega (arith, value.3, rest.deep);
}

-- members in order are what their object is read as
pub object_printed : (ds : Members) (old mid new : List Token) → InOrder ds → mid ≡ old ++ begin_object ∷ [] → PrintsMembers ds mid new → WritesValue (object ds) old new
object_printed ds old mid new order e members = (
  json.object members.js,
  members.tokens ∙ ap (λ l. l ++ tree.members_tokens members.js) e ∙ append_assoc old (begin_object ∷ []) (tree.members_tokens members.js),
  ap (option_map object) (members.read no_members ∙ ap Some (put_in_order ds order)),
  omega (arith, members.deep),
  ap json.object members.outline,
)
