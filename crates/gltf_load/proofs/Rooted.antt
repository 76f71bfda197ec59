-- From the parent of each node to root nodes, and back.
use Rattle.std.proofs.Common.{◌≡◌, ℕ, ◌<◌, List, length, Option, Some, None, sym, ◌∙◌, subst, arith}
use Rattle.std.specs.Prelude.{slice_get, get_or, ◌↔◌, Bool, IsTrue}
use Rattle.std.proofs.lemmas.Option.{slice_get_within, slice_get-get_or}
use Rattle.gltf_base.specs.declared.index.IndexTo.{IndexTo}
use Rattle.gltf_base.specs.Indexes.{index_number}
use Rattle.gltf_hierarchy.specs.Forest.{IsRoot}
use Rattle.gltf_hierarchy.specs.Parents.{AreParents}
use Rattle.gltf_hierarchy.proofs.Trees.{parent_of_child}
use Rattle.gltf_load.specs.Roots.{NameRoots, AreRoots}

root_here : (nodes : List (List ℕ)) (parents : List (Option ℕ)) (n : ℕ) → AreParents nodes parents → slice_get parents n ≡ Some None → (n < length nodes) × IsRoot nodes n
root_here nodes parents n s e = (omega (arith, slice_get_within parents n None e, s.len), λ p i child. let both : Some None ≡ Some (Some p) = sym e ∙ parent_of_child nodes parents p i n s child in cc)

root_back : (nodes : List (List ℕ)) (parents : List (Option ℕ)) (n : ℕ) (o : Option ℕ) → AreParents nodes parents → IsRoot nodes n → slice_get parents n ≡ Some o → slice_get parents n ≡ Some None
root_back nodes parents n None s root e = e
root_back nodes parents n (Some p) s root e = let child = (s.only n p e).1 in absurd (root p child.0 child.1)

pub roots_named : {P : Type 0} (nodes : List (List ℕ)) (parents : List (Option ℕ)) (xs ys : List (IndexTo P)) (r : Bool) → AreParents nodes parents → ys ≡ xs → (IsTrue r ↔ AreRoots parents ys) → IsTrue r ↔ NameRoots nodes xs
roots_named {P} nodes parents xs ys r s e h =
    let at_ys : (i : ℕ) (x : IndexTo P) → slice_get xs i ≡ Some x → slice_get ys i ≡ Some x = λ i x at. subst (λ l. slice_get l i ≡ Some x) (sym e) at in (
      λ t i x at. root_here nodes parents (index_number x) s (h.0 t i x (slice_get_within ys i x (at_ys i x at)) (at_ys i x at)),
      λ roots. h.1 (λ i x small at.
          let here = roots i x (subst (λ l. slice_get l i ≡ Some x) e at) in
          root_back nodes parents (index_number x) (get_or parents (index_number x) None) s here.1 (slice_get-get_or parents (index_number x) None (omega (arith, here.0, s.len)))),
    )
