-- Items printed one after another, between the brackets of an array.
use Rattle.std.proofs.Common.{◌≡◌, List, [], ◌∷◌, ◌++◌, true, Option, Some, None, option_map, IsSomeAnd, refl, ap, ◌∙◌}
use Rattle.std.proofs.lemmas.Bool.{or_left, or_right}
use Rattle.json.specs.Token.{Token, begin_array, end_array}
use Rattle.serde_json.specs.Data.{Data, array, Items, no_items, item}
use Rattle.serde_json.specs.Written.{WritesValue, WritesItems}
use Rattle.gltf_base.specs.declared.error.Error.{Error}
use Rattle.gltf_schema.specs.Invalid.{holds_invalid, any_holds_invalid}
use Rattle.gltf_schema.specs.Outcome.{Withholds}
use Rattle.gltf_schema.specs.Printings.{Printed, GoesOn, PrintsToken, PrintsValue}
use Rattle.gltf_schema.specs.Tree.{Tree, Trees, end, with_tree}
use Rattle.gltf_schema.specs.Write.{write_items}
use Rattle.gltf_schema.proofs.InTokens.{items_end, item_printed, array_printed}
use Rattle.gltf_schema.proofs.Putting.{withheld_through, withheld_anyway}

-- ---- one call after another

goes_on_as : (Adds Both : List Token → List Token → Type 0) (Fails Ends : Error → Type 0) (a b : Printed) (x y : Option Error)
    → (Adds a.tokens b.tokens → Both a.tokens b.tokens) → ((e : Error) → Fails e → Ends e)
    → GoesOn (record a { failed = x }) Adds Fails (record b { failed = y }) → GoesOn (record a { failed = x }) Both Ends (record b { failed = y })
goes_on_as Adds Both Fails Ends a b None None wider ends h = (h.0, h.1, wider h.2)
goes_on_as Adds Both Fails Ends a b None (Some e) wider ends h = ends e h
goes_on_as Adds Both Fails Ends a b (Some e) y wider ends h = h

-- a call that goes on after another goes on as both
then_goes_on : (Adds More Both : List Token → List Token → Type 0) (Fails Stops Ends : Error → Type 0) (a b c : Printed) (x y z : Option Error)
    → (Adds a.tokens b.tokens → More b.tokens c.tokens → Both a.tokens c.tokens) → ((e : Error) → Fails e → Ends e) → ((e : Error) → Adds a.tokens b.tokens → Stops e → Ends e)
    → GoesOn (record a { failed = x }) Adds Fails (record b { failed = y }) → GoesOn (record b { failed = y }) More Stops (record c { failed = z })
    → GoesOn (record a { failed = x }) Both Ends (record c { failed = z })
then_goes_on Adds More Both Fails Stops Ends a b c None None None both first later h k = (k.0 ∙ h.0, k.1 ∙ h.1, both h.2 k.2)
then_goes_on Adds More Both Fails Stops Ends a b c None None (Some e) both first later h k = later e h.2 k
then_goes_on Adds More Both Fails Stops Ends a b c None (Some e) None both first later h k = absurd cc
then_goes_on Adds More Both Fails Stops Ends a b c None (Some e) (Some f) both first later h k = let same : f ≡ e = cc in rw same (first e h)
then_goes_on Adds More Both Fails Stops Ends a b c (Some e) None z both first later h k = absurd cc
then_goes_on Adds More Both Fails Stops Ends a b c (Some e) (Some f) z both first later h k = k ∙ h

-- ---- items

-- what prints the items that are left, and the bracket behind them, prints the whole array
pub record ArrayBehind (f : Tree → Option Data) (left all : Trees) (start here : List Token) : Type 0 where
  pub prints : (new : List Token) (ds : Items) → write_items f left ≡ Some ds → WritesItems ds here new → IsSomeAnd (option_map array (write_items f all)) (λ x. WritesValue x start new)
  pub none : write_items f left ≡ None → write_items f all ≡ None
  pub is_invalid : any_holds_invalid left ≡ true → any_holds_invalid all ≡ true

-- the items before those that are left were printed, or one of them is invalid
pub record ItemsPrinted (f : Tree → Option Data) (left all : Trees) (old new : Printed) : Type 0 where
  pub is : GoesOn old (ArrayBehind f left all) (λ e. Withholds e (option_map array (write_items f all)) (any_holds_invalid all)) new

-- the opening bracket was printed
pub array_begun : (f : Tree → Option Data) (all : Trees) (old new : Printed) → PrintsToken old begin_array new → ItemsPrinted f all all old new
array_begun f all old new h = record {
  is = goes_on_as (λ a b. b ≡ a ++ begin_array ∷ []) (ArrayBehind f all all) _ _ old new old.failed new.failed
      (λ e. record { prints = λ after ds is w. rw is (array_printed ds old.tokens new.tokens after e w); none = λ g. g; is_invalid = λ g. g })
      (λ e. withheld_anyway e (Some begin_array) (option_map array (write_items f all)) (any_holds_invalid all)) h.is;
}

first_behind : (f : Tree → Option Data) (t : Tree) (ts all : Trees) (start here there : List Token) (x : Option Data) → f t ≡ x → ArrayBehind f (with_tree t ts) all start here
    → IsSomeAnd x (λ d. WritesValue d here there) → ArrayBehind f ts all start there
first_behind f t ts all start here there None is h w = absurd w
first_behind f t ts all start here there (Some d) is h w = record {
  prints = λ new ds later rest. h.prints new (item d ds) (rw (is, later) refl) (item_printed d ds here there new w rest);
  none = λ g. h.none (rw (is, g) refl);
  is_invalid = λ g. h.is_invalid (or_right (holds_invalid t) (any_holds_invalid ts) g);
}

-- one item more was printed
pub next_printed : (f : Tree → Option Data) (t : Tree) (ts all : Trees) (old mid new : Printed) → ItemsPrinted f (with_tree t ts) all old mid → PrintsValue mid (f t) (holds_invalid t) new
    → ItemsPrinted f ts all old new
next_printed f t ts all old mid new h k = record {
  is = then_goes_on (ArrayBehind f (with_tree t ts) all) (λ a b. IsSomeAnd (f t) (λ x. WritesValue x a b)) (ArrayBehind f ts all) _ _ _ old mid new old.failed mid.failed new.failed
      (λ g w. first_behind f t ts all old.tokens mid.tokens new.tokens (f t) refl g w)
      (λ e g. g)
      (λ e g. withheld_through e (f t) (option_map array (write_items f all)) (holds_invalid t) (any_holds_invalid all)
      (λ p. (ap (option_map array) (g.none (rw (p.0) refl)), g.is_invalid (or_left (holds_invalid t) (any_holds_invalid ts) p.1))))
      h.is k.is;
}

-- the closing bracket was printed
pub array_ended : (f : Tree → Option Data) (all : Trees) (old mid new : Printed) → ItemsPrinted f end all old mid → PrintsToken mid end_array new
    → PrintsValue old (option_map array (write_items f all)) (any_holds_invalid all) new
array_ended f all old mid new h k = record {
  is = then_goes_on (ArrayBehind f end all) (λ a b. b ≡ a ++ end_array ∷ []) (λ a b. IsSomeAnd (option_map array (write_items f all)) (λ x. WritesValue x a b)) _ _ _ old mid new old.failed mid.failed new.failed
      (λ g e. g.prints new.tokens no_items refl (items_end mid.tokens new.tokens e))
      (λ e g. g)
      (λ e g. withheld_anyway e (Some end_array) (option_map array (write_items f all)) (any_holds_invalid all))
      h.is k.is;
}
