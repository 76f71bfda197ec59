-- Rows that are printed one after another, or gathered with members that no row names: what an
-- object's printing adds, in the order of the names.
use Rattle.std.proofs.Common.{◌≡◌, ◌⊎◌, inl, inr, ℕ, List, [], ◌∷◌, ◌++◌, true, Option, Some, None, option_map, Result, Ok, Err, MatchOption, IsSomeAnd, refl, sym, ap, ◌∙◌, subst}
use Rattle.std.proofs.lemmas.Bool.{or_left, or_right}
use Rattle.json.specs.Token.{Token, begin_object, end_object}
use Rattle.serde_json.specs.Data.{Data, object, Members, no_members, member, put}
use Rattle.serde_json.specs.Written.{WritesValue}
use Rattle.serde_json.specs.Written as written
use Rattle.gltf_base.specs.declared.error.Error.{Error}
use Rattle.gltf_schema.specs.ByName.{by_name, trees_by_name, row_data, row_members}
use Rattle.gltf_schema.specs.Invalid.{holds_invalid, any_holds_invalid}
use Rattle.gltf_schema.specs.Kind.{Mark, Kind, Rows, no_rows, row}
use Rattle.gltf_schema.specs.Maybe.{◌>>=◌}
use Rattle.gltf_schema.specs.Outcome.{Withholds}
use Rattle.gltf_schema.specs.Printings.{Printed, PrintsMember, RowPrinted, OthersKept}
use Rattle.gltf_schema.specs.Put.{put_rows, some_invalid}
use Rattle.gltf_schema.specs.Rowwise.{RowAdded, RowOnto, RowsOnto, OthersOnto, WritesMembers, PutsIn}
use Rattle.gltf_schema.specs.Tree.{Tree, Trees, end, with_tree}
use Rattle.gltf_schema.proofs.ByName.{are_distinct, maybe_before, row_before, members_by_name, none_by_name, invalid_by_name, put_by_name}
use Rattle.gltf_schema.proofs.InOrder.{InOrder}
use Rattle.gltf_schema.proofs.InTokens.{PrintsMembers, nothing_printed, member_printed, object_printed}
use Rattle.gltf_schema.proofs.PartsPrinted.{object_behind}
use Rattle.gltf_schema.proofs.Putting.{withheld_through, withheld_anyway}
use Rattle.gltf_schema.proofs.RowsPut.{rows_stay_failed, none_put_in, row_put_in, member_put}

-- ---- rows of which one is refused

same_failure : {S : Type 0} (r : Result S Error) (e f : Error) → r ≡ Err e → r ≡ Err f → f ≡ e
same_failure {S} r e f h k = cc

not_both : {S A : Type 0} (s : S) (r : Result S Error) (e : Error) → r ≡ Ok s → r ≡ Err e → A
not_both {S} {A} s r e h k = absurd cc

later_none : (n : List ℕ) (x : Option (Option Data)) (r : Option Members) → r ≡ None → (x >>= λ y. option_map (λ ds. maybe_before n y ds) r) ≡ None
later_none n None r h = refl
later_none n (Some y) r h = rw h refl

first_withheld : {S : Type 0} (Adds : S → List ℕ → Data → S → Type 0) (s : S) (n : List ℕ) (mark : Mark) (kind : Kind) (t : Tree) (rows : Rows) (ts : Trees) (e : Error) (mid : Result S Error)
    → RowOnto Adds (Ok s) n mark kind t mid → RowsOnto Adds mid rows ts (Err e)
    → ((m : S) → RowsOnto Adds (Ok m) rows ts (Err e) → Withholds e (row_members rows ts) (any_holds_invalid ts))
    → Withholds e (row_members (row n mark kind rows) (with_tree t ts)) (any_holds_invalid (with_tree t ts))
first_withheld {S} Adds s n mark kind t rows ts e (Ok m) first rest later =
    withheld_through e (row_members rows ts) (row_members (row n mark kind rows) (with_tree t ts)) (any_holds_invalid ts) (any_holds_invalid (with_tree t ts))
    (λ g. (row_before n mark kind t rows ts (row_data mark kind t) refl ∙ later_none n (row_data mark kind t) (row_members rows ts) g.0, or_right (holds_invalid t) _ g.1))
    (later m rest)
first_withheld {S} Adds s n mark kind t rows ts e (Err f) first rest later =
    let same = same_failure (Err e) e f refl (rows_stay_failed Adds f rows ts (Err e) rest) in
    withheld_through e (row_data mark kind t) (row_members (row n mark kind rows) (with_tree t ts)) (holds_invalid t) (any_holds_invalid (with_tree t ts))
    (λ g. (row_before n mark kind t rows ts None g.0, or_left (holds_invalid t) (any_holds_invalid ts) g.1))
    (subst (λ x. Withholds x (row_data mark kind t) (holds_invalid t)) same first)

each_withheld : {S : Type 0} (Adds : S → List ℕ → Data → S → Type 0) (s : S) (rows : Rows) (ts : Trees) (e : Error)
    → RowsOnto Adds (Ok s) rows ts (Err e) → Withholds e (row_members rows ts) (any_holds_invalid ts)
each_withheld {S} Adds s no_rows end e h = absurd cc
each_withheld {S} Adds s no_rows (with_tree t ts) e h = absurd h
each_withheld {S} Adds s (row n mark kind rows) end e h = absurd h
each_withheld {S} Adds s (row n mark kind rows) (with_tree t ts) e h =
    first_withheld Adds s n mark kind t rows ts e h.0 h.1 h.2 (λ m k. each_withheld Adds m rows ts e k)

-- what is added after a state that goes on is withheld only if something in the rows' trees is invalid
pub rows_withheld : {S : Type 0} (Adds : S → List ℕ → Data → S → Type 0) (s : S) (rows : Rows) (ts : Trees) (e : Error)
    → RowsOnto Adds (Ok s) rows ts (Err e) → Withholds e (row_members rows ts) (some_invalid ts)
unfolding some_invalid
rows_withheld {S} Adds s rows ts e h = each_withheld Adds s rows ts e h

-- ---- rows printed

-- the rows' members stand behind the first tokens, if the closing bracket is printed behind them
abbrev pub InText : Rows → Trees → Printed → Printed → Type 0
InText rows ts s t =
    (t.kept ≡ None) × (t.before ≡ s.before) × ((new : List Token) → new ≡ t.tokens ++ end_object ∷ [] → (ds : Members) × (row_members rows ts ≡ Some ds) × PrintsMembers ds s.tokens new)

none_in_text : (s t : Printed) → s.kept ≡ None → t ≡ s → InText no_rows end s t
none_in_text s t none is = rw is (none, refl, λ new e. (no_members, refl, nothing_printed s.tokens new e))

row_in_text : (x : Option (Option Data)) (n : List ℕ) (mark : Mark) (kind : Kind) (t : Tree) (rows : Rows) (ts : Trees) (s m s' : Printed) → row_data mark kind t ≡ x → s.kept ≡ None
    → RowAdded RowPrinted s n x m → (m.kept ≡ None → InText rows ts m s') → InText (row n mark kind rows) (with_tree t ts) s s'
row_in_text None n mark kind t rows ts s m s' is none first later = absurd first
row_in_text (Some None) n mark kind t rows ts s m s' is none first later =
    let rest : InText rows ts s s' = subst (λ (p : Printed). InText rows ts p s') first (later (ap (λ (p : Printed). p.kept) first ∙ none)) in
    (rest.0, rest.1, λ new e. let r = rest.2 new e in (r.0, row_before n mark kind t rows ts (Some None) is ∙ ap (option_map (λ ds. maybe_before n None ds)) r.1, r.2))
row_in_text (Some (Some d)) n mark kind t rows ts s m s' is none first later =
    let shown : (m.kept ≡ None) × PrintsMember n d s.tokens m.tokens =
    subst (λ (o : Option Members). MatchOption o ((m.kept ≡ None) × PrintsMember n d s.tokens m.tokens) (λ ms. (m.kept ≡ Some (put n d ms)) × (m.tokens ≡ s.tokens))) none first.shown in
    let rest : InText rows ts m s' = later shown.0 in (
      rest.0,
      rest.1 ∙ first.before,
      λ new e. let r = rest.2 new e in (
        member n d r.0,
        row_before n mark kind t rows ts (Some (Some d)) is ∙ ap (option_map (λ ds. maybe_before n (Some d) ds)) r.1,
        member_printed n d r.0 s.tokens shown.1.0 m.tokens new shown.1.1 shown.1.2 r.2,
      ),
    )

first_in_text : (n : List ℕ) (mark : Mark) (kind : Kind) (t : Tree) (rows : Rows) (ts : Trees) (s s' : Printed) (mid : Result Printed Error) → s.kept ≡ None
    → RowOnto RowPrinted (Ok s) n mark kind t mid → RowsOnto RowPrinted mid rows ts (Ok s')
    → ((m : Printed) → m.kept ≡ None → RowsOnto RowPrinted (Ok m) rows ts (Ok s') → InText rows ts m s') → InText (row n mark kind rows) (with_tree t ts) s s'
first_in_text n mark kind t rows ts s s' (Ok m) none first rest later = row_in_text (row_data mark kind t) n mark kind t rows ts s m s' refl none first (λ k. later m k rest)
first_in_text n mark kind t rows ts s s' (Err e) none first rest later =
    not_both s' (Ok s') e refl (rows_stay_failed RowPrinted e rows ts (Ok s') rest)

-- rows that are printed, and not gathered
pub rows_in_text : (rows : Rows) (ts : Trees) (s s' : Printed) → s.kept ≡ None → RowsOnto RowPrinted (Ok s) rows ts (Ok s') → InText rows ts s s'
rows_in_text no_rows end s s' none h = let is : s' ≡ s = cc in none_in_text s s' none is
rows_in_text no_rows (with_tree t ts) s s' none h = absurd h
rows_in_text (row n mark kind rows) end s s' none h = absurd h
rows_in_text (row n mark kind rows) (with_tree t ts) s s' none h =
    first_in_text n mark kind t rows ts s s' h.0 none h.1 h.2 (λ m k g. rows_in_text rows ts m s' k g)

-- ---- rows gathered

-- the rows' members are put into those that are gathered, and nothing is printed
abbrev pub InKept : Rows → Trees → Members → Printed → Printed → Type 0
InKept rows ts ms s t = (t.tokens ≡ s.tokens) × (t.before ≡ s.before) × ((ms' : Members) × (t.kept ≡ Some ms') × (put_rows rows ts ms ≡ Some ms'))

none_in_kept : (ms : Members) (s t : Printed) → s.kept ≡ Some ms → t ≡ s → InKept no_rows end ms s t
none_in_kept ms s t kept is = rw is (refl, refl, (ms, kept, none_put_in ms))

put_first : (x : Option (Option Data)) (n : List ℕ) (mark : Mark) (kind : Kind) (t : Tree) (rows : Rows) (ts : Trees) (ms ms' : Members) → row_data mark kind t ≡ x → RowAdded PutsIn ms n x ms'
    → put_rows (row n mark kind rows) (with_tree t ts) ms ≡ put_rows rows ts ms'
put_first x n mark kind t rows ts ms ms' is h =
    row_put_in n mark kind rows t ts ms ms' (member_put n mark kind t ms ms' (subst (λ o. RowAdded PutsIn ms n o ms') (sym is) h))

row_in_kept : (x : Option (Option Data)) (n : List ℕ) (mark : Mark) (kind : Kind) (t : Tree) (rows : Rows) (ts : Trees) (ms : Members) (s m s' : Printed) → row_data mark kind t ≡ x → s.kept ≡ Some ms
    → RowAdded RowPrinted s n x m → ((ms' : Members) → m.kept ≡ Some ms' → InKept rows ts ms' m s') → InKept (row n mark kind rows) (with_tree t ts) ms s s'
row_in_kept None n mark kind t rows ts ms s m s' is kept first later = absurd first
row_in_kept (Some None) n mark kind t rows ts ms s m s' is kept first later =
    let rest : InKept rows ts ms s s' = subst (λ (p : Printed). InKept rows ts ms p s') first (later ms (ap (λ (p : Printed). p.kept) first ∙ kept)) in
    (rest.0, rest.1, (rest.2.0, rest.2.1, put_first (Some None) n mark kind t rows ts ms ms is refl ∙ rest.2.2))
row_in_kept (Some (Some d)) n mark kind t rows ts ms s m s' is kept first later =
    let shown : (m.kept ≡ Some (put n d ms)) × (m.tokens ≡ s.tokens) =
    subst (λ (o : Option Members). MatchOption o ((m.kept ≡ None) × PrintsMember n d s.tokens m.tokens) (λ xs. (m.kept ≡ Some (put n d xs)) × (m.tokens ≡ s.tokens))) kept first.shown in
    let rest : InKept rows ts (put n d ms) m s' = later (put n d ms) shown.0 in
    (rest.0 ∙ shown.1, rest.1 ∙ first.before, (rest.2.0, rest.2.1, put_first (Some (Some d)) n mark kind t rows ts ms (put n d ms) is refl ∙ rest.2.2))

first_in_kept : (n : List ℕ) (mark : Mark) (kind : Kind) (t : Tree) (rows : Rows) (ts : Trees) (ms : Members) (s s' : Printed) (mid : Result Printed Error) → s.kept ≡ Some ms
    → RowOnto RowPrinted (Ok s) n mark kind t mid → RowsOnto RowPrinted mid rows ts (Ok s')
    → ((xs : Members) (m : Printed) → m.kept ≡ Some xs → RowsOnto RowPrinted (Ok m) rows ts (Ok s') → InKept rows ts xs m s') → InKept (row n mark kind rows) (with_tree t ts) ms s s'
first_in_kept n mark kind t rows ts ms s s' (Ok m) kept first rest later = row_in_kept (row_data mark kind t) n mark kind t rows ts ms s m s' refl kept first (λ xs k. later xs m k rest)
first_in_kept n mark kind t rows ts ms s s' (Err e) kept first rest later =
    not_both s' (Ok s') e refl (rows_stay_failed RowPrinted e rows ts (Ok s') rest)

-- rows that are gathered, and not printed
pub rows_gathered : (rows : Rows) (ts : Trees) (ms : Members) (s s' : Printed) → s.kept ≡ Some ms → RowsOnto RowPrinted (Ok s) rows ts (Ok s') → InKept rows ts ms s s'
rows_gathered no_rows end ms s s' kept h = let is : s' ≡ s = cc in none_in_kept ms s s' kept is
rows_gathered no_rows (with_tree t ts) ms s s' kept h = absurd h
rows_gathered (row n mark kind rows) end ms s s' kept h = absurd h
rows_gathered (row n mark kind rows) (with_tree t ts) ms s s' kept h =
    first_in_kept n mark kind t rows ts ms s s' h.0 kept h.1 h.2 (λ xs m k g. rows_gathered rows ts xs m s' k g)

-- ---- a whole object's rows

-- its members are printed in order, if the closing bracket is printed behind them
pub record MembersShown (rows : Rows) (ts : Trees) (others : Members) (s t : Printed) : Type 0 where
  pub kept : t.kept ≡ None
  pub shown : (new : List Token) → new ≡ t.tokens ++ end_object ∷ [] → (ds : Members) × (put_rows rows ts others ≡ Some ds) × InOrder ds × PrintsMembers ds s.tokens new

-- its members are gathered, and nothing is printed yet
pub record MembersGathered (rows : Rows) (ts : Trees) (others : Members) (s t : Printed) : Type 0 where
  pub members : Members
  pub kept : t.kept ≡ Some members
  pub tokens : t.tokens ≡ s.tokens
  pub put : put_rows rows ts others ≡ Some members

-- one of both, or something in the trees is invalid
abbrev pub ObjectRows : Rows → Trees → Members → Printed → Result Printed Error → Type 0
ObjectRows rows ts others s (Ok t) = (t.before ≡ s.before) × (MembersShown rows ts others s t ⊎ MembersGathered rows ts others s t)
ObjectRows rows ts others s (Err e) = Withholds e (put_rows rows ts others) (some_invalid ts)

object_withheld : (rows : Rows) (ts : Trees) (others : Members) (s : Printed) (e : Error)
    → RowsOnto RowPrinted (Ok s) (by_name rows) (trees_by_name rows ts) (Err e) → Withholds e (put_rows rows ts others) (some_invalid ts)
object_withheld rows ts others s e h =
    withheld_through e (row_members (by_name rows) (trees_by_name rows ts)) (put_rows rows ts others) (some_invalid (trees_by_name rows ts)) (some_invalid ts)
    (λ g. (none_by_name rows ts others g.0, sym (invalid_by_name rows ts) ∙ g.1)) (rows_withheld RowPrinted s (by_name rows) (trees_by_name rows ts) e h)

-- no member comes from elsewhere
object_shown : (rows : Rows) (ts : Trees) (s : Printed) (r : Result Printed Error) → are_distinct rows ≡ true → s.kept ≡ None
    → RowsOnto RowPrinted (Ok s) (by_name rows) (trees_by_name rows ts) r → ObjectRows rows ts no_members s r
object_shown rows ts s (Ok t) distinct none h =
    let rest : InText (by_name rows) (trees_by_name rows ts) s t = rows_in_text (by_name rows) (trees_by_name rows ts) s t none h in (
      rest.1,
      inl (record {
        kept = rest.0;
        shown = λ new e.
            let r = rest.2 new e in
            let both = members_by_name rows ts r.0 distinct r.1 in
            (r.0, both.0, both.1, r.2);
      }),
    )
object_shown rows ts s (Err e) distinct none h = object_withheld rows ts no_members s e h

-- others were gathered before
object_gathered : (rows : Rows) (ts : Trees) (others : Members) (s b : Printed) (r : Result Printed Error) → b.kept ≡ Some others → b.tokens ≡ s.tokens → b.before ≡ s.before
    → RowsOnto RowPrinted (Ok b) (by_name rows) (trees_by_name rows ts) r → ObjectRows rows ts others s r
object_gathered rows ts others s b (Ok t) kept tokens before h =
    let rest : InKept (by_name rows) (trees_by_name rows ts) others b t = rows_gathered (by_name rows) (trees_by_name rows ts) others b t kept h in
    (rest.1 ∙ before, inr (record { members = rest.2.0; kept = rest.2.1; tokens = rest.0 ∙ tokens; put = sym (put_by_name rows ts others) ∙ rest.2.2 }))
object_gathered rows ts others s b (Err e) kept tokens before h = object_withheld rows ts others b e h

object_from : (rows : Rows) (ts : Trees) (others : Members) (s b : Printed) (r : Result Printed Error) → are_distinct rows ≡ true → s.kept ≡ None
    → OthersKept others s b → RowsOnto RowPrinted (Ok b) (by_name rows) (trees_by_name rows ts) r → ObjectRows rows ts others s r
object_from rows ts others s b r distinct none (inl g) h =
    subst (λ ms. ObjectRows rows ts ms s r) (sym g.0) (object_shown rows ts s r distinct none (subst (λ (p : Printed). RowsOnto RowPrinted (Ok p) (by_name rows) (trees_by_name rows ts) r) g.1 h))
object_from rows ts others s b r distinct none (inr g) h = object_gathered rows ts others s b r g.0 g.1 g.2 h

object_begun : (rows : Rows) (ts : Trees) (others : Members) (s : Printed) (begun r : Result Printed Error) → are_distinct rows ≡ true → s.kept ≡ None
    → OthersOnto OthersKept others (Ok s) begun → RowsOnto RowPrinted begun (by_name rows) (trees_by_name rows ts) r → ObjectRows rows ts others s r
object_begun rows ts others s (Ok b) r distinct none g h = object_from rows ts others s b r distinct none g h
object_begun rows ts others s (Err e) r distinct none g h =
    subst (λ (x : Result Printed Error). ObjectRows rows ts others s x) (sym (rows_stay_failed RowPrinted e (by_name rows) (trees_by_name rows ts) r h))
    (withheld_anyway e (Some others) (put_rows rows ts others) (some_invalid ts) g)

object_either : (rows : Rows) (ts : Trees) (others : Members) (s : Printed) (begun r : Result Printed Error) → are_distinct rows ≡ true → s.kept ≡ None
    → ((others ≡ no_members) × (begun ≡ Ok s)) ⊎ OthersOnto OthersKept others (Ok s) begun → RowsOnto RowPrinted begun (by_name rows) (trees_by_name rows ts) r → ObjectRows rows ts others s r
object_either rows ts others s begun r distinct none (inl g) h =
    object_from rows ts others s s r distinct none (inl (g.0, refl)) (subst (λ (x : Result Printed Error). RowsOnto RowPrinted x (by_name rows) (trees_by_name rows ts) r) g.1 h)
object_either rows ts others s begun r distinct none (inr g) h = object_begun rows ts others s begun r distinct none g h

-- what printing an object's rows in the order of their names gives
pub object_rows : (rows : Rows) (ts : Trees) (others : Members) (s : Printed) (r : Result Printed Error) → are_distinct rows ≡ true → s.kept ≡ None
    → WritesMembers OthersKept RowPrinted others (by_name rows) (trees_by_name rows ts) (Ok s) r → ObjectRows rows ts others s r
object_rows rows ts others s r distinct none h = object_either rows ts others s h.begun r distinct none h.begins h.rows_onto

-- ---- the whole object

-- its members were printed, and the closing bracket
pub shown_whole : (rows : Rows) (ts : Trees) (others : Members) (s t : Printed) (old new : List Token) → s.tokens ≡ old ++ begin_object ∷ [] → MembersShown rows ts others s t
    → new ≡ t.tokens ++ end_object ∷ [] → IsSomeAnd (option_map object (put_rows rows ts others)) (λ d. WritesValue d old new)
shown_whole rows ts others s t old new first h e =
    let r = h.shown new e in
    subst (λ (o : Option Members). IsSomeAnd (option_map object o) (λ d. WritesValue d old new)) (sym r.1) (object_printed r.0 old s.tokens new r.2 first r.3)

-- its members were gathered, and are printed with the closing bracket
pub gathered_whole : (rows : Rows) (ts : Trees) (others : Members) (s t : Printed) (old new : List Token) → s.tokens ≡ old ++ begin_object ∷ [] → (h : MembersGathered rows ts others s t)
    → written.WritesMembers h.members t.tokens new → IsSomeAnd (option_map object (put_rows rows ts others)) (λ d. WritesValue d old new)
gathered_whole rows ts others s t old new first h w =
    subst (λ (o : Option Members). IsSomeAnd (option_map object o) (λ d. WritesValue d old new)) (sym h.put) (object_behind h.members old t.tokens new (h.tokens ∙ first) w)
