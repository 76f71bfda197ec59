-- An object printed: its beginning, its rows one after another, and its end. What fails in one of
-- the three stays failed.
use Rattle.std.proofs.Common.{◌≡◌, ◌⊎◌, inl, inr, [], ◌∷◌, ◌++◌, true, false, Option, Some, None, option_map, Result, Ok, Err, MatchOption, IsSomeAnd, refl, sym, ◌∙◌, subst}
use Rattle.std.proofs.lemmas.Option.{MatchOption-at_none, MatchOption-at_some}
use Rattle.json.specs.Token.{begin_object, end_object}
use Rattle.serde_json.specs.Data.{object, Members, no_members}
use Rattle.serde_json.specs.Written.{WritesValue}
use Rattle.serde_json.specs.Written as written
use Rattle.gltf_base.specs.declared.error.Error.{Error}
use Rattle.gltf_schema.specs.ByName.{by_name, trees_by_name}
use Rattle.gltf_schema.specs.Kind.{Rows}
use Rattle.gltf_schema.specs.Outcome.{Withholds}
use Rattle.gltf_schema.specs.Printings.{Printed, printed_or_error, PrintsValue, BeginsObject, EndsObject, RowPrinted, OthersKept}
use Rattle.gltf_schema.specs.Put.{put_rows, some_invalid}
use Rattle.gltf_schema.specs.Rowwise.{RowsOnto, OthersOnto, WritesMembers}
use Rattle.gltf_schema.specs.Tree.{Trees}
use Rattle.gltf_schema.proofs.ByName.{are_distinct}
use Rattle.gltf_schema.proofs.Putting.{withheld, withheld_anyway}
use Rattle.gltf_schema.proofs.RowPrinting.{went_on, failed_with}
use Rattle.gltf_schema.proofs.RowsPrinted.{MembersShown, MembersGathered, ObjectRows, object_rows, shown_whole, gathered_whole}
use Rattle.gltf_schema.proofs.RowsPut.{rows_stay_failed}

-- ---- what failed stays failed

error_met : (p : Printed) (f : Option Error) (e : Error) → p.failed ≡ f → printed_or_error p ≡ Err e → f ≡ Some e
error_met p None e is h = let both = sym (went_on p is) ∙ h in absurd cc
error_met p (Some x) e is h = let both = sym (failed_with p x is) ∙ h in cc

rows_failed : (rows : Rows) (ts : Trees) (others : Members) (e : Error) (begun r : Result Printed Error)
    → ((others ≡ no_members) × (begun ≡ Err e)) ⊎ OthersOnto OthersKept others (Err e) begun → RowsOnto RowPrinted begun rows ts r → r ≡ Err e
rows_failed rows ts others e begun r (inl g) h = rows_stay_failed RowPrinted e rows ts r (subst (λ (x : Result Printed Error). RowsOnto RowPrinted x rows ts r) g.1 h)
rows_failed rows ts others e begun r (inr g) h = rows_stay_failed RowPrinted e rows ts r (subst (λ (x : Result Printed Error). RowsOnto RowPrinted x rows ts r) g h)

members_failed : (rows : Rows) (ts : Trees) (others : Members) (e : Error) (r : Result Printed Error) → WritesMembers OthersKept RowPrinted others rows ts (Err e) r → r ≡ Err e
members_failed rows ts others e r h = rows_failed rows ts others e h.begun r h.begins h.rows_onto

end_failed : (done new : Printed) (outer : Option Members) (e : Error) → done.failed ≡ Some e → EndsObject done outer new → new.failed ≡ Some e
end_failed done new outer e is h = MatchOption-at_some _ _ e is h.is

-- from the beginning to the end
object_failed : (rows : Rows) (ts : Trees) (others : Members) (begun done new : Printed) (outer : Option Members) (e : Error) → begun.failed ≡ Some e
    → WritesMembers OthersKept RowPrinted others rows ts (printed_or_error begun) (printed_or_error done) → EndsObject done outer new → new.failed ≡ Some e
object_failed rows ts others begun done new outer e is h ends =
    let from : WritesMembers OthersKept RowPrinted others rows ts (Err e) (printed_or_error done) =
    subst (λ (x : Result Printed Error). WritesMembers OthersKept RowPrinted others rows ts x (printed_or_error done)) (failed_with begun e is) h in
    end_failed done new outer e (error_met done done.failed e refl (members_failed rows ts others e (printed_or_error done) from)) ends

-- ---- what did not fail before

-- the object was printed, or an error was met
abbrev ObjectPrinted : Rows → Trees → Members → Printed → Printed → Option Error → Type 0
ObjectPrinted rows ts others old new failed =
    MatchOption failed
    ((new.kept ≡ old.kept) × (new.before ≡ old.before) × IsSomeAnd (option_map object (put_rows rows ts others)) (λ d. WritesValue d old.tokens new.tokens))
    (λ e. Withholds e (option_map object (put_rows rows ts others)) (some_invalid ts))

met : (rows : Rows) (ts : Trees) (others : Members) (old new : Printed) (e : Error) → new.failed ≡ Some e
    → Withholds e (option_map object (put_rows rows ts others)) (some_invalid ts) → ObjectPrinted rows ts others old new new.failed
met rows ts others old new e is w = subst (ObjectPrinted rows ts others old new) (sym is) w

-- an object was begun
abbrev Begun : Printed → Option Members → Printed → Type 0
Begun old outer begun = (outer ≡ old.kept) × (begun.kept ≡ None) × (begun.before ≡ old.before) × (begun.tokens ≡ old.tokens ++ begin_object ∷ [])

-- the closing bracket was printed, behind the members that were gathered
abbrev Closed : Printed → Printed → Type 0
Closed done new = MatchOption done.kept (new.tokens ≡ done.tokens ++ end_object ∷ []) (λ ms. written.WritesMembers ms done.tokens new.tokens)

closed_whole : (rows : Rows) (ts : Trees) (others : Members) (old begun done new : Printed) → begun.tokens ≡ old.tokens ++ begin_object ∷ []
    → MembersShown rows ts others begun done ⊎ MembersGathered rows ts others begun done → Closed done new
    → IsSomeAnd (option_map object (put_rows rows ts others)) (λ d. WritesValue d old.tokens new.tokens)
closed_whole rows ts others old begun done new first (inl h) closed =
    shown_whole rows ts others begun done old.tokens new.tokens first h (MatchOption-at_none _ _ h.kept closed)
closed_whole rows ts others old begun done new first (inr h) closed =
    gathered_whole rows ts others begun done old.tokens new.tokens first h (MatchOption-at_some _ _ h.members h.kept closed)

from_end : (failed : Option Error) (rows : Rows) (ts : Trees) (others : Members) (old begun done new : Printed) (outer : Option Members) → Begun old outer begun
    → ObjectRows rows ts others begun (Ok done) → MatchOption failed ((new.kept ≡ outer) × (new.before ≡ done.before) × Closed done new) (λ e. Withholds e (Some end_object) false)
    → ObjectPrinted rows ts others old new failed
from_end None rows ts others old begun done new outer first h ends =
    (ends.0 ∙ first.0, ends.1 ∙ h.0 ∙ first.2, closed_whole rows ts others old begun done new first.3 h.1 ends.2)
from_end (Some e) rows ts others old begun done new outer first h ends = withheld_anyway e (Some end_object) (option_map object (put_rows rows ts others)) (some_invalid ts) ends

from_rows : (failed : Option Error) (rows : Rows) (ts : Trees) (others : Members) (old begun done new : Printed) (outer : Option Members) → done.failed ≡ failed → Begun old outer begun
    → ObjectRows rows ts others begun (printed_or_error done) → EndsObject done outer new → ObjectPrinted rows ts others old new new.failed
from_rows None rows ts others old begun done new outer is first h ends =
    from_end new.failed rows ts others old begun done new outer first (subst (ObjectRows rows ts others begun) (went_on done is) h) (MatchOption-at_none _ _ is ends.is)
from_rows (Some e) rows ts others old begun done new outer is first h ends =
    met rows ts others old new e (end_failed done new outer e is ends)
    (withheld e object (put_rows rows ts others) (some_invalid ts) (subst (ObjectRows rows ts others begun) (failed_with done e is) h))

from_begun : (failed : Option Error) (rows : Rows) (ts : Trees) (others : Members) (old begun done new : Printed) (outer : Option Members) → begun.failed ≡ failed → are_distinct rows ≡ true
    → MatchOption failed (Begun old outer begun) (λ e. Withholds e (Some begin_object) false)
    → WritesMembers OthersKept RowPrinted others (by_name rows) (trees_by_name rows ts) (printed_or_error begun) (printed_or_error done)
    → EndsObject done outer new → ObjectPrinted rows ts others old new new.failed
from_begun None rows ts others old begun done new outer is distinct first h ends =
    let from : WritesMembers OthersKept RowPrinted others (by_name rows) (trees_by_name rows ts) (Ok begun) (printed_or_error done) =
    subst (λ (x : Result Printed Error). WritesMembers OthersKept RowPrinted others (by_name rows) (trees_by_name rows ts) x (printed_or_error done)) (went_on begun is) h in
    from_rows done.failed rows ts others old begun done new outer refl first (object_rows rows ts others begun (printed_or_error done) distinct first.1 from) ends
from_begun (Some e) rows ts others old begun done new outer is distinct first h ends =
    met rows ts others old new e (object_failed (by_name rows) (trees_by_name rows ts) others begun done new outer e is h ends)
    (withheld_anyway e (Some begin_object) (option_map object (put_rows rows ts others)) (some_invalid ts) first)

from_old : (failed : Option Error) (rows : Rows) (ts : Trees) (others : Members) (old begun done new : Printed) (outer : Option Members) → old.failed ≡ failed → are_distinct rows ≡ true
    → BeginsObject old outer begun → WritesMembers OthersKept RowPrinted others (by_name rows) (trees_by_name rows ts) (printed_or_error begun) (printed_or_error done)
    → EndsObject done outer new → MatchOption failed (ObjectPrinted rows ts others old new new.failed) (λ e. new.failed ≡ Some e)
from_old None rows ts others old begun done new outer is distinct begins h ends =
    from_begun begun.failed rows ts others old begun done new outer refl distinct (MatchOption-at_none _ _ is begins.is) h ends
from_old (Some e) rows ts others old begun done new outer is distinct begins h ends =
    object_failed (by_name rows) (trees_by_name rows ts) others begun done new outer e (MatchOption-at_some _ _ e is begins.is) h ends

-- an object whose rows have different names is printed as its value
pub object_printing : (rows : Rows) (ts : Trees) (others : Members) (old begun done new : Printed) (outer : Option Members) → are_distinct rows ≡ true → BeginsObject old outer begun
    → WritesMembers OthersKept RowPrinted others (by_name rows) (trees_by_name rows ts) (printed_or_error begun) (printed_or_error done) → EndsObject done outer new
    → PrintsValue old (option_map object (put_rows rows ts others)) (some_invalid ts) new
object_printing rows ts others old begun done new outer distinct begins h ends =
    record { is = from_old old.failed rows ts others old begun done new outer refl distinct begins h ends }
