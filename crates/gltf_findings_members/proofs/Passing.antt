-- What a token, a value and a turn of a loop take from the tokens.
use Rattle.std.proofs.Common.{◌≡◌, ℕ, ◌<◌, List, length, Bool, true, false, not, Some, option_map, refl, ap}
use Rattle.std.specs.Prelude.{◌&&◌}
use Rattle.json.specs.Token.{Token}
use Rattle.json.specs.Json.{Json, Items, no_items, item, Members, no_members, member, value, skip_value}
use Rattle.json.proofs.Grammar.{left_some, skip_value-shorter}

pub both_of : (a b : Bool) → (a && b) ≡ true → (a ≡ true) × (b ≡ true)
both_of true true h = (refl, refl)
both_of true false h = absurd (cc)
both_of false b h = absurd (cc)

-- a value that is read leaves fewer tokens
pub fewer : (depth : ℕ) (ts r : List Token) (j : Json) → value depth ts ≡ Some (j, r) → length r < length ts
fewer depth ts r j read = skip_value-shorter depth ts r (ap (λ o. option_map (λ p. p.1) o) read)

-- a value that is passed is some value
pub passed : (depth : ℕ) (ts r : List Token) → skip_value depth ts ≡ Some r → (j : Json) × (value depth ts ≡ Some (j, r))
passed depth ts r e = left_some (value depth ts) r e

pub some_item : (j : Json) (js : Items) → item j js ≡ no_items → ⊥
some_item j js e = absurd (cc)

pub some_member : (k : List ℕ) (j : Json) (js : Members) → member k j js ≡ no_members → ⊥
some_member k j js e = absurd (cc)

pub is_not : (b : Bool) → not b ≡ true → b ≡ false
is_not true h = absurd (cc)
is_not false h = refl
