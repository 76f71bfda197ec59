-- What has no notices, level by level: of a tree of JSON, and of the value that it is read as.
use Rattle.std.proofs.Common.{◌≡◌, ℕ, ◌+◌, List, [], ◌∷◌, ◌++◌, true, Option, Some, None, option_map, refl, sym, ap, ◌∙◌, subst, arith}
use Rattle.std.specs.Prelude.{option_and_then}
use Rattle.json.specs.Json as tree
use Rattle.serde_json.specs.Events.{items_len}
use Rattle.serde_json.specs.Data.{Num, Data, number, array, object, Items, no_items, item, Members, no_members}
use Rattle.serde_json.specs.Read.{number_of, of_json, of_items, of_members}
use Rattle.gltf_base.specs.Steps.{item as to_item}
use Rattle.gltf_schema.specs.declared.outline.Shape.{Shape}
use Rattle.gltf_findings_members.specs.Format.{Format}
use Rattle.gltf_findings_members.specs.Quiet.{Reading, IsQuiet, AreQuietItems}
use Rattle.gltf_findings_members.specs.Walk.{notices, item_notices}

-- ---- lists without entries

pub both : {X : Type 0} (xs ys : List X) → xs ≡ [] → ys ≡ [] → xs ++ ys ≡ []
both xs ys none none' = ap (λ zs. zs ++ ys) none ∙ none'

pub first_none : {X : Type 0} (xs ys : List X) → xs ++ ys ≡ [] → xs ≡ []
first_none [] ys none = refl
first_none (x ∷ xs) ys none = absurd (cc)

pub rest_none : {X : Type 0} (xs ys : List X) → xs ++ ys ≡ [] → ys ≡ []
rest_none [] ys none = none
rest_none (x ∷ xs) ys none = absurd (cc)

-- ---- one value

-- a tree that is read as one value
pub reads_as : (j : tree.Json) (e : Data) (Is : Data → Type 0) → of_json j ≡ Some e → Is e → Reading j Is
reads_as j e Is read is d other = let same : e ≡ d = cc in subst Is same is

-- a number
pub number_reads : (s : List ℕ) (Is : Data → Type 0) → ((n : Num) → number_of s ≡ Some n → Is (number n)) → Reading (tree.number s) Is
number_reads s Is is d read = by (number_of s) refl read
  where
    by : (o : Option Num) → number_of s ≡ o → option_map number o ≡ Some d → Is d
    by None e h = absurd (cc)
    by (Some n) e h = let same : number n ≡ d = cc in subst Is same (is n e)

-- a list, and an object
pub array_reads : (js : tree.Items) (Is : Data → Type 0) → ((ds : Items) → of_items js ≡ Some ds → Is (array ds)) → Reading (tree.array js) Is
array_reads js Is is d read = by (of_items js) refl read
  where
    by : (o : Option Items) → of_items js ≡ o → option_map array o ≡ Some d → Is d
    by None e h = absurd (cc)
    by (Some ds) e h = let same : array ds ≡ d = cc in subst Is same (is ds e)

pub object_reads : (js : tree.Members) (Is : Data → Type 0) → ((ms : Members) → of_members js no_members ≡ Some ms → Is (object ms)) → Reading (tree.object js) Is
object_reads js Is is d read = by (of_members js no_members) refl read
  where
    by : (o : Option Members) → of_members js no_members ≡ o → option_map object o ≡ Some d → Is d
    by None e h = absurd (cc)
    by (Some ms) e h = let same : object ms ≡ d = cc in subst Is same (is ms e)

-- ---- the items of a list

pub next_len : (n : ℕ) (o : Option Data) (p : Option Items) (ds : Items) → ((es : Items) → p ≡ Some es → items_len es ≡ n) → option_and_then (λ d. option_map (item d) p) o ≡ Some ds → items_len ds ≡ n + 1
next_len n None p ds len h = absurd (cc)
next_len n (Some d) None ds len h = absurd (cc)
next_len n (Some d) (Some es) ds len h = let same : item d es ≡ ds = cc in ap items_len (sym same) ∙ omega (arith, len es refl)

module _ (f : Format) (s : Option Shape) where
  pub quiet_no_items : AreQuietItems f s tree.no_items
  quiet_no_items at i ds read = let none : no_items ≡ ds = cc in subst (λ x. item_notices f s at i x ≡ []) none refl

  pub quiet_item : (j : tree.Json) (js : tree.Items) → IsQuiet f s j → AreQuietItems f s js → AreQuietItems f s (tree.item j js)
  quiet_item j js here more at i ds read = by (of_json j) (of_items js) refl refl read
    where
      by : (o : Option Data) (p : Option Items) → of_json j ≡ o → of_items js ≡ p → option_and_then (λ d. option_map (item d) p) o ≡ Some ds → item_notices f s at i ds ≡ []
      by None p e e' h = absurd (cc)
      by (Some d) None e e' h = absurd (cc)
      by (Some d) (Some es) e e' h =
          let same : item d es ≡ ds = cc in
          subst (λ x. item_notices f s at i x ≡ []) same (both (notices f true s (at ++ to_item i ∷ []) d) (item_notices f s at (i + 1) es) (here true (at ++ to_item i ∷ []) d e) (more at (i + 1) es e'))
