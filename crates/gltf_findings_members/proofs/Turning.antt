-- The loops of json's grammar, a turn at a time: what was read goes in front of what is read next.
use Rattle.std.proofs.Common.{◌≡◌, ℕ, ◌-◌, ◌<◌, ◌≤◌, List, length, Option, Some, None, refl, ap, ◌∙◌, arith}
use Rattle.json.specs.Token.{Token}
use Rattle.json.specs.Json.{Json, Items, no_items, item, Members, no_members, member, Parse, parse_map, after_end_array, read_key, items, members}
use Rattle.json.proofs.Grammar.{items_end, items_more, members_end, members_more, read_key-shorter}

unchanged : {A : Type 0} (r : Option (A × List Token)) → r ≡ parse_map (λ x. x) r
unchanged None = refl
unchanged (Some p) = refl

twice : {A : Type 0} (f g : A → A) (r : Option (A × List Token)) → parse_map f (parse_map g r) ≡ parse_map (λ x. f (g x)) r
twice f g None = refl
twice f g (Some p) = refl

module _ (p : Parse Json) (start : List Token) where
  -- the items at the start are those that before puts in front of the items at ts
  abbrev pub ItemsFrom : List Token → (Items → Items) → Type 0
  ItemsFrom ts before = (n : ℕ) × (length ts ≤ n) × (items p (length start) start ≡ parse_map before (items p n ts))

  pub items_start : ItemsFrom start (λ js. js)
  items_start = (length start, omega arith, unchanged (items p (length start) start))

  pub items_next : (ts r : List Token) (before : Items → Items) (j : Json) → ItemsFrom ts before → after_end_array ts ≡ None → p ts ≡ Some (j, r) → length r < length ts
      → ItemsFrom r (λ js. before (item j js))
  items_next ts r before j from going read less =
      let n = from.0 in (
        n - 1,
        omega (arith, from.1, less),
        from.2 ∙ ap (parse_map before) (items_more p n ts r j (omega (arith, from.1, less)) going read) ∙ twice before (item j) (items p (n - 1) r),
      )

  pub items_close : (ts r : List Token) (before : Items → Items) → ItemsFrom ts before → after_end_array ts ≡ Some r → items p (length start) start ≡ Some (before no_items, r)
  items_close ts r before from over = from.2 ∙ ap (parse_map before) (items_end p from.0 ts r from.1 over)

  -- the same of members
  abbrev pub MembersFrom : List Token → (Members → Members) → Type 0
  MembersFrom ts before = (n : ℕ) × (length ts ≤ n) × (members p (length start) start ≡ parse_map before (members p n ts))

  pub members_start : MembersFrom start (λ js. js)
  members_start = (length start, omega arith, unchanged (members p (length start) start))

  pub members_next : (k : List ℕ) (ts s r : List Token) (before : Members → Members) (j : Json) → MembersFrom ts before → read_key ts ≡ Some (Some k, s) → p s ≡ Some (j, r) → length r < length s
      → MembersFrom r (λ js. before (member k j js))
  members_next k ts s r before j from key read less =
      let n = from.0 in
      let shorter = read_key-shorter ts (Some k) s key in (
        n - 1,
        omega (arith, from.1, less, shorter),
        from.2 ∙ ap (parse_map before) (members_more p n k ts s r j (omega (arith, from.1, shorter)) key read) ∙ twice before (member k j) (members p (n - 1) r),
      )

  pub members_close : (ts r : List Token) (before : Members → Members) → MembersFrom ts before → read_key ts ≡ Some (None, r) → members p (length start) start ≡ Some (before no_members, r)
  members_close ts r before from over = from.2 ∙ ap (parse_map before) (members_end p from.0 ts r from.1 over)
