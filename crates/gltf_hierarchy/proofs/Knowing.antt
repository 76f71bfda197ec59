-- From ranges and roots to which nodes are below which.
use Rattle.std.proofs.Common.{◌≡◌, ℕ, ◌<◌, ◌≤◌, ◌+◌, ◌-◌, List, length, get_or, Bool, true, Option, Some, None, refl, sym, ◌∙◌, ap, subst, arith}
use Rattle.std.specs.Prelude.{nat_lt, nat_le, ◌&&◌}
use Rattle.std.proofs.lemmas.Option.{slice_get_within, slice_get-get_or, get_or_from_slice_get}
use Rattle.std.proofs.lemmas.Bool.{and_parts, ltb-true}
use Rattle.std.proofs.lemmas.Grind.{common_steps}
use Rattle.gltf_hierarchy.specs.Order.{IsOrder}
use Rattle.gltf_hierarchy.specs.Parents.{AreParents}
use Rattle.gltf_hierarchy.specs.Forest.{IsParentsFirst}
use Rattle.gltf_hierarchy.specs.Depths.{IsDepth}
use Rattle.gltf_hierarchy.proofs.Trees.{above_is_below, parent_of_child, top_is_node}
use Rattle.gltf_hierarchy.proofs.Meeting.{below_is_above}
use Rattle.gltf_hierarchy.specs.Roots.{AreRoots, IsTreeRoot}
use Rattle.gltf_hierarchy.specs.Shares.{AreRanges}
use Rattle.gltf_hierarchy.specs.Subtrees.{AreSubtrees, is_in_range}
use Rattle.gltf_hierarchy.specs.declared.subtrees.Subtrees.{Subtrees}
use Rattle.gltf_hierarchy.proofs.Ranging.{inside, found}
use Rattle.gltf_hierarchy.proofs.Rooting.{same_root}

pub parents_in_order : (nodes : List (List ℕ)) (parents : List (Option ℕ)) (order : List ℕ) → AreParents nodes parents → IsParentsFirst nodes order → IsOrder parents order
parents_in_order nodes parents order s o = record {
  nodes = λ i n h. omega (arith, o.nodes_alone i n h, s.len);
  each = λ n h. o.each n (omega (arith, h, s.len));
  once = o.once;
  parents_first = λ i n p h parent. let child = (s.only n p parent).1 in o.parents_first i p n child.0 h child.1;
}

-- the depth of a node under its root
deep : (parents : List (Option ℕ)) (roots : List ℕ) (n : ℕ) → AreRoots parents roots → n < length parents → (d : ℕ) × IsDepth parents n d
deep parents roots n r small =
    let t = r.each n small in
    (t.0, (get_or roots n 0, t.1, t.2))

both : (a b c : Bool) → a ≡ true → b ≡ true → c ≡ true → ((a && b) && c) ≡ true
both a b c e f g = rw (e, f, g) refl

range_true : (a x size : ℕ) → a ≤ x → x < a + size → (nat_le a x && nat_lt (x - a) size) ≡ true
range_true a x size from to = grind (arith, common_steps)

range_parts : (a x size : ℕ) → (nat_le a x && nat_lt (x - a) size) ≡ true → (a ≤ x) × (x < a + size)
range_parts a x size e =
    let parts = and_parts (nat_le a x) (nat_lt (x - a) size) e in
    let from : a ≤ x = grind (arith, common_steps, parts.0) in
    let to : x - a < size = ltb-true (x - a) size parts.1 in
    (from, omega (arith, from, to))

pub known : (nodes : List (List ℕ)) (parents : List (Option ℕ)) (s : Subtrees) → AreParents nodes parents → AreRanges parents s.firsts.items s.sizes.items → AreRoots parents s.roots.items → AreSubtrees nodes s
known nodes parents s p r t = record {
  count = t.len ∙ p.len;
  below = λ top n small. (
    (λ e.
        let parts = and_parts (nat_lt top (length s.roots.items) && nat_lt n (length s.roots.items)) (is_in_range s top n) e in
        let exist = and_parts (nat_lt top (length s.roots.items)) (nat_lt n (length s.roots.items)) parts.0 in
        let top_small : top < length parents = omega (arith, ltb-true top (length s.roots.items) exist.0, t.len) in
        let n_small : n < length parents = omega (arith, small, p.len) in
        let range = range_parts (get_or s.firsts.items top 0) (get_or s.firsts.items n 0) (get_or s.sizes.items top 0) parts.1 in
        let top_deep = deep parents s.roots.items top t top_small in
        let n_deep = deep parents s.roots.items n t n_small in
        let up = found parents s.firsts.items s.sizes.items top_deep.0 n_deep.0 top n r top_deep.1 n_deep.1 range.0 range.1 in
        (up.0, above_is_below nodes parents up.0 n top p up.1)),
    λ below.
        let top_small : top < length s.roots.items = omega (arith, top_is_node nodes below.0 top n below.1 small, t.len, p.len) in
        let n_small : n < length s.roots.items = omega (arith, small, t.len, p.len) in
        let in_it = inside parents s.firsts.items s.sizes.items below.0 n top r (below_is_above nodes parents below.0 top n p below.1) in
        let some : 0 < get_or s.sizes.items n 0 = r.some n (omega (arith, small, p.len)) in
        let first : nat_lt top (length s.roots.items) ≡ true = grind (arith, common_steps) in
        let second : nat_lt n (length s.roots.items) ≡ true = grind (arith, common_steps) in
        both (nat_lt top (length s.roots.items)) (nat_lt n (length s.roots.items)) (is_in_range s top n) first second (range_true (get_or s.firsts.items top 0) (get_or s.firsts.items n 0) (get_or s.sizes.items top 0) in_it.from (omega (arith, in_it.to, some))),
  );
  root = λ n x e.
      let small : n < length parents = omega (arith, slice_get_within s.roots.items n x e, t.len) in
      let is : get_or s.roots.items n 0 ≡ x = get_or_from_slice_get s.roots.items n x 0 e in
      let there : IsTreeRoot parents n x = subst (λ y. IsTreeRoot parents n y) is (t.each n small) in
      ((λ q i child. let clash : Some None ≡ Some (Some q) = sym there.1 ∙ parent_of_child nodes parents q i x p child in cc), (there.0, above_is_below nodes parents there.0 n x p there.2));
  one_root = λ top n small below.
      let top_small : top < length nodes = top_is_node nodes below.0 top n below.1 small in
      let is : get_or s.roots.items top 0 ≡ get_or s.roots.items n 0 = same_root parents s.roots.items below.0 n top t (omega (arith, small, p.len)) (omega (arith, top_small, p.len)) (below_is_above nodes parents below.0 top n p below.1) in
      slice_get-get_or s.roots.items top 0 (omega (arith, top_small, t.len, p.len)) ∙ ap Some is ∙ sym (slice_get-get_or s.roots.items n 0 (omega (arith, small, t.len, p.len)));
}
