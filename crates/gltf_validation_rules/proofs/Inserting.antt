-- What is wrong in a tree with one more item is put in among what was wrong.
use Rattle.std.proofs.Common.{◌≡◌, ℕ, zero, suc, ◌+◌, List, [], ◌∷◌, ◌++◌, Bool, true, false, sym, ◌∙◌, ap, subst, append_assoc, arith}
use Rattle.std.proofs.lemmas.List.{append-nil}
use Rattle.gltf_base.specs.Steps.{Step, field, item}
use Rattle.gltf_schema.specs.Tree as tree
use Rattle.gltf_schema.specs.Tree.{Tree, Trees, end, with_tree, tree_at, count_of}
use Rattle.gltf_schema.specs.Kind.{Kind, Any, ListOf, Rows, no_rows, row}
use Rattle.gltf_root.specs.Named.{put_at}
use Rattle.gltf_root.specs.Pushed.{with_last}
use Rattle.gltf_validation_rules.specs.Report.{From, Report}
use Rattle.gltf_validation_rules.specs.Context.{Context}
use Rattle.gltf_validation_rules.specs.Inserted.{IsInserted}
use Rattle.gltf_validation_rules.specs.Faults.{items_reports}
use Rattle.gltf_validation_rules.specs.Reports.{reports, member_reports}

at_end : {A : Type 0} (old new : List A) → IsInserted old new (old ++ new)
at_end old new = record { before = old; after = []; was = sym (append-nil old); now = ap (λ zs. old ++ zs) (sym (append-nil new)) }

-- behind what comes before it, and ahead of what comes after
pub behind : {A : Type 0} (xs : List A) {old new whole : List A} → IsInserted old new whole → IsInserted (xs ++ old) new (xs ++ whole)
behind xs {old} {new} {whole} h =
    record {
      before = xs ++ h.before;
      after = h.after;
      was = ap (λ zs. xs ++ zs) h.was ∙ sym (append_assoc xs h.before h.after);
      now = ap (λ zs. xs ++ zs) h.now ∙ sym (append_assoc xs h.before (new ++ h.after));
    }

pub ahead : {A : Type 0} (ys : List A) {old new whole : List A} → IsInserted old new whole → IsInserted (old ++ ys) new (whole ++ ys)
ahead ys {old} {new} {whole} h =
    record {
      before = h.before;
      after = h.after ++ ys;
      was = ap (λ zs. zs ++ ys) h.was ∙ append_assoc h.before h.after ys;
      now = ap (λ zs. zs ++ ys) h.now ∙ append_assoc h.before (new ++ h.after) ys ∙ ap (λ zs. h.before ++ zs) (append_assoc new h.after ys);
    }

-- ---- an item at the end of a list

items_more : (f : Tree → From) (i : ℕ) (ts : Trees) (x : Tree) (base : List Step) (n : ℕ) → n ≡ i + count_of ts
    → items_reports f i (with_last x ts) base ≡ items_reports f i ts base ++ f x (base ++ item n ∷ [])
items_more f i end x base n e = let same : n ≡ i = omega (arith, e) in rw same (append-nil _)
items_more f i (with_tree t ts) x base n e =
    ap (λ rs. f t (base ++ item i ∷ []) ++ rs) (items_more f (suc i) ts x base n (omega (arith, e))) ∙ sym (append_assoc (f t (base ++ item i ∷ [])) (items_reports f (suc i) ts base) _)

pub list_inserted : (kind : Kind) (ts : Trees) (x : Tree) (context : Context) (above : Tree) (base : List Step)
    → IsInserted (reports (ListOf kind) (tree.list ts) context above base) (reports kind x context above (base ++ item (count_of ts) ∷ [])) (reports (ListOf kind) (tree.list (with_last x ts)) context above base)
list_inserted kind ts x context above base =
    let f : Tree → From = λ t. reports kind t context above in
    subst (λ rs. IsInserted (items_reports f 0 ts base) (f x (base ++ item (count_of ts) ∷ [])) rs) (sym (items_more f 0 ts x base (count_of ts) (omega arith)))
    (at_end (items_reports f 0 ts base) (f x (base ++ item (count_of ts) ∷ [])))

-- ---- a member of an object

-- the name and the kind of the row at a number
abbrev pub name_at : ℕ → Rows → List ℕ
name_at n no_rows = []
name_at zero (row name mark kind rows) = name
name_at (suc n) (row name mark kind rows) = name_at n rows

abbrev pub kind_at : ℕ → Rows → Kind
kind_at n no_rows = Any
kind_at zero (row name mark kind rows) = kind
kind_at (suc n) (row name mark kind rows) = kind_at n rows

-- there are a tree and a row at the number
abbrev pub are_at : ℕ → Trees → Rows → Bool
are_at n end rows = false
are_at n (with_tree t ts) no_rows = false
are_at zero (with_tree t ts) (row name mark kind rows) = true
are_at (suc n) (with_tree t ts) (row name mark kind rows) = are_at n ts rows

pub member_inserted : (n : ℕ) (ts : Trees) (rows : Rows) (t : Tree) (context : Context) (above : Tree) (base : List Step) (new : List Report) → are_at n ts rows ≡ true
    → IsInserted (reports (kind_at n rows) (tree_at n ts) context above (base ++ field (name_at n rows) ∷ [])) new (reports (kind_at n rows) t context above (base ++ field (name_at n rows) ∷ []))
    → IsInserted (member_reports ts rows context above base) new (member_reports (put_at n t ts) rows context above base)
member_inserted n end rows t context above base new there h = absurd cc
member_inserted n (with_tree u ts) no_rows t context above base new there h = absurd cc
member_inserted zero (with_tree u ts) (row name mark kind rows) t context above base new there h = ahead (member_reports ts rows context above base) h
member_inserted (suc n) (with_tree u ts) (row name mark kind rows) t context above base new there h =
    behind (reports kind u context above (base ++ field name ∷ [])) (member_inserted n ts rows t context above base new there h)
