-- From what the parents of nodes say to what their children say.
use Rattle.std.proofs.Common.{ℕ, zero, suc, List, Option, Some, None, sym, inl, inr}
use Rattle.gltf_hierarchy.specs.Order.{IsAbove}
use Rattle.gltf_hierarchy.specs.Nodes.{IsBelow}
use Rattle.gltf_hierarchy.specs.Parents.{AreParents}
use Rattle.gltf_hierarchy.specs.Joints.{IsOverAll, IsCommonRootOrNone}
use Rattle.gltf_hierarchy.specs.Gathering.{IsAboveAll, IsRootOrNone}
use Rattle.gltf_hierarchy.proofs.Above.{above_more}
use Rattle.gltf_hierarchy.proofs.Trees.{above_is_below, parent_of_child}

pub below_is_above : (nodes : List (List ℕ)) (parents : List (Option ℕ)) (k a n : ℕ) → AreParents nodes parents → IsBelow nodes k a n → IsAbove parents k n a
below_is_above nodes parents zero a n s e = sym e
below_is_above nodes parents (suc k) a n s (c, (i, child), rest) = above_more parents k n c a (below_is_above nodes parents k c n s rest) (parent_of_child nodes parents a i c s child)

above_all : (nodes : List (List ℕ)) (parents : List (Option ℕ)) (joints : List ℕ) (a : ℕ) → AreParents nodes parents → IsOverAll nodes joints a → IsAboveAll parents joints a
above_all nodes parents joints a s over k n e = let down = over k n e in (down.0, below_is_above nodes parents down.0 a n s down.1)

pub common_root : (nodes : List (List ℕ)) (parents : List (Option ℕ)) (joints : List ℕ) (root : Option ℕ) → AreParents nodes parents → IsRootOrNone parents joints root → IsCommonRootOrNone nodes joints root
common_root nodes parents joints (Some r) s (some, over, deep) = record {
  joints_exist = some;
  over_all = λ k n e. let up = over k n e in (up.0, above_is_below nodes parents up.0 n r s up.1);
  deepest = λ a all. let up = deep a (above_all nodes parents joints a s all) in (up.0, above_is_below nodes parents up.0 r a s up.1);
}
common_root nodes parents joints None s (inl e) = inl e
common_root nodes parents joints None s (inr apart) = inr (λ a all. apart a (above_all nodes parents joints a s all))
