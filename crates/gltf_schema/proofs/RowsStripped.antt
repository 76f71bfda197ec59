-- Rows and items that are stripped in their places, one after another.
use Rattle.std.proofs.Common.{◌≡◌, ◌<◌, ◌+◌, ℕ, zero, suc, List, [], ◌∷◌, map, length, set, get_or, Bool, true, false, refl, ap₂, ◌∙◌, subst, arith}
use Rattle.std.specs.Prelude.{⊤}
use Rattle.serde_json.specs.Data.{Members, no_members}
use Rattle.gltf_schema.specs.Tree.{Tree, Trees, end, with_tree, trees, object}
use Rattle.gltf_schema.specs.Kind.{Object, Rule, Rows, no_rows, row}
use Rattle.gltf_schema.specs.RowReading.{RowsFrom, OthersFrom, ReadsMembers}
use Rattle.gltf_schema.specs.Stripped.{each_tree, others_left, stripped, stripped_rows}
use Rattle.gltf_schema.specs.RowStripping.{StripsMember, StripsOthers}
use Rattle.gltf_schema.specs.declared.stripping.Strip.{Strip}
use Rattle.gltf_schema.specs.declared.stripping.Strip.TheVariants.{Extras, Unknown}

rows_stripped : (what new : Strip) (rows : Rows) (ts ts' : Trees) → RowsFrom StripsMember what rows ts ts' new → (new ≡ what) × (ts' ≡ stripped_rows what rows ts)
rows_stripped what new no_rows end end h = (h, refl)
rows_stripped what new no_rows end (with_tree t' ts') h = absurd h
rows_stripped what new no_rows (with_tree t ts) ts' h = absurd h
rows_stripped what new (row n mark kind rows) end ts' h = absurd h
rows_stripped what new (row n mark kind rows) (with_tree t ts) end h = absurd h
rows_stripped what new (row n mark kind rows) (with_tree t ts) (with_tree t' ts') h =
    let r = rows_stripped what new rows ts ts' (subst (λ mid. RowsFrom StripsMember mid rows ts ts' new) h.1.0 h.2) in
    (r.0, ap₂ with_tree h.1.1 r.1)

none_left : (what : Strip) (ms : Members) → no_members ≡ others_left what false ms
none_left Extras ms = refl
none_left Unknown ms = refl

others_stripped : (what new : Strip) (keeps : Bool) (ms ms' : Members) → OthersFrom StripsOthers keeps what ms ms' new → ms' ≡ others_left what keeps ms
others_stripped what new true ms ms' h = h.1
others_stripped what new false ms ms' h = h.0 ∙ none_left what ms

-- the rows and the other members of an object
pub object_stripped : (rule : Rule) {rows : Rows} {keeps : Bool} {ts ts' : Trees} {ms ms' : Members} {what new : Strip}
    → ReadsMembers StripsMember StripsOthers rows keeps ts ts' ms ms' what new → object ts' ms' ≡ stripped what (Object rule rows keeps) (object ts ms)
object_stripped rule {rows} {keeps} {ts} {ts'} {ms} {ms'} {what} {new} h =
    let r = rows_stripped what h.mid rows ts ts' h.rows_from in
    ap₂ object r.1 (others_stripped what new keeps ms ms' (subst (λ mid. OthersFrom StripsOthers keeps mid ms ms' new) r.0 h.others_from))

-- ---- items

-- so many items at the front are changed, and those behind them are as they were
abbrev pub ChangedTo : {X : Type 0} → ℕ → (X → Tree) → (Tree → Tree) → List X → List X → Type 0
ChangedTo zero tree f xs ys = ys ≡ xs
ChangedTo (suc i) tree f [] [] = ⊤
ChangedTo (suc i) tree f (x ∷ xs) (y ∷ ys) = (tree y ≡ f (tree x)) × ChangedTo i tree f xs ys
ChangedTo (suc i) tree f _ _ = ⊥

pub all_changed : {X : Type 0} (tree : X → Tree) (f : Tree → Tree) (xs ys : List X) → ChangedTo (length ys) tree f xs ys → trees (map tree ys) ≡ each_tree f (trees (map tree xs))
all_changed tree f [] [] h = refl
all_changed tree f (x ∷ xs) [] h = absurd cc
all_changed tree f [] (y ∷ ys) h = absurd h
all_changed tree f (x ∷ xs) (y ∷ ys) h = ap₂ with_tree h.0 (all_changed tree f xs ys h.1)

item_changed : {X : Type 0} (i : ℕ) (tree : X → Tree) (f : Tree → Tree) (xs ys : List X) (d y : X)
    → ChangedTo i tree f xs ys → i < length ys → tree y ≡ f (tree (get_or ys i d)) → ChangedTo (suc i) tree f xs (set ys i y)
item_changed zero tree f xs [] d y h less e = absurd (omega arith)
item_changed zero tree f xs (z ∷ ys) d y h less e = subst (λ zs. ChangedTo 1 tree f zs (y ∷ ys)) h (e, refl)
item_changed (suc i) tree f [] [] d y h less e = absurd (omega arith)
item_changed (suc i) tree f [] (z ∷ ys) d y h less e = absurd h
item_changed (suc i) tree f (x ∷ xs) [] d y h less e = absurd h
item_changed (suc i) tree f (x ∷ xs) (z ∷ ys) d y h less e = (h.0, item_changed i tree f xs ys d y h.1 (omega arith) e)

-- the item at the number is changed too
pub next_changed : {X : Type 0} (i : ℕ) (tree : X → Tree) (f : Tree → Tree) (xs ys : List X) (d y : X)
    → ChangedTo i tree f xs ys → i < length ys → tree y ≡ f (tree (get_or ys i d)) → ChangedTo (i + 1) tree f xs (set ys i y)
next_changed i tree f xs ys d y h less e =
    let next : suc i ≡ i + 1 = omega arith in
    subst (λ n. ChangedTo n tree f xs (set ys i y)) next (item_changed i tree f xs ys d y h less e)
