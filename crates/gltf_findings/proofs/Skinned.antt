-- From the numbers of nodes to the joints and skeletons of skins.
use Rattle.std.proofs.Common.{◌≡◌, ℕ, zero, suc, ◌+◌, ◌<◌, ◌≤◌, ◌^◌, List, [], ◌∷◌, ◌++◌, length, get_or, Bool, true, false, not, Option, Some, None, refl, sym, ◌∙◌, ap, subst, arith, inl, inr}
use Rattle.std.specs.Prelude.{slice_get, nat_lt, nat_le, ◌&&◌, ◌↔◌}
use Rattle.std.proofs.lemmas.Option.{slice_get_within, slice_get-get_or}
use Rattle.std.proofs.lemmas.Bool.{and_parts, not-true, both_ways, ltb-true, cases_lt}
use Rattle.std.proofs.lemmas.Grind.{common_steps}
use Rattle.gltf_base.specs.declared.index.IndexTo.{IndexTo}
use Rattle.gltf_base.specs.Indexes.{index_number}
use Rattle.gltf_hierarchy.specs.Forest.{IsForest}
use Rattle.gltf_hierarchy.specs.Joints.{IsOverAll, AreAllNodes}
use Rattle.gltf_load.specs.Named.{joints_named}
use Rattle.gltf_scene.specs.declared.skin.Skin.{Skin}
use Rattle.gltf_hierarchy.specs.declared.subtrees.Subtrees.{Subtrees}
use Rattle.gltf_hierarchy.specs.Subtrees.{AreSubtrees, IsAtOrBelow, is_at_or_below, tree_roots}
use Rattle.gltf_findings_codes.specs.Marks.{is_marked}
use Rattle.gltf_findings_codes.specs.Rules.{is_some_unresolved, is_unresolved}
use Rattle.gltf_findings.specs.Skeletons.{HaveCommonRoot, IsSkeleton, IsSkeletonNode, IsAmongTrees, AreSkeletonMarks}
use Rattle.gltf_findings.specs.Rooting.{are_among, is_whole, are_below, are_below_some, have_one_root, is_headed, AreMarksBy}

and_true : (a b : Bool) → a ≡ true → b ≡ true → (a && b) ≡ true
and_true a b e f = rw (e, f) refl

not_false : (b : Bool) → (b ≡ true → ⊥) → not b ≡ true
not_false true never = absurd (never refl)
not_false false never = refl

first_of : (count n : ℕ) (ns : List ℕ) → AreAllNodes count (n ∷ ns) → n < count
first_of count n ns all = all 0 n refl

others : (count n : ℕ) (ns : List ℕ) → AreAllNodes count (n ∷ ns) → AreAllNodes count ns
others count n ns all k m e = all (suc k) m e

among : (count : ℕ) (ns : List ℕ) → are_among count ns ≡ true → AreAllNodes count ns
among count [] h k m e = let clash : None ≡ Some m = e in cc
among count (n ∷ ns) h zero m e =
    let is : n ≡ m = cc in
    let small : n < count = ltb-true n count (and_parts (nat_lt n count) (are_among count ns) h).0 in
    omega (arith, is, small)
among count (n ∷ ns) h (suc k) m e = among count ns (and_parts (nat_lt n count) (are_among count ns) h).1 k m e

less_true : (n count : ℕ) → n < count → nat_lt n count ≡ true
less_true n count h = grind (arith, common_steps)

to_among : (count : ℕ) (ns : List ℕ) → AreAllNodes count ns → are_among count ns ≡ true
to_among count [] all = refl
to_among count (n ∷ ns) all = and_true (nat_lt n count) (are_among count ns) (less_true n count (first_of count n ns all)) (to_among count ns (others count n ns all))

-- ---- nodes below another

over : (nodes : List (List ℕ)) (t : Subtrees) (top : ℕ) (ns : List ℕ) → AreSubtrees nodes t → AreAllNodes (length nodes) ns → are_below t top ns ≡ true → IsOverAll nodes ns top
over nodes t top [] s all h k m e = let clash : None ≡ Some m = e in cc
over nodes t top (n ∷ ns) s all h zero m e =
    let is : n ≡ m = cc in
    let below : IsAtOrBelow nodes top n = (s.below top n (first_of (length nodes) n ns all)).0 (and_parts (is_at_or_below t top n) (are_below t top ns) h).0 in
    subst (λ x. IsAtOrBelow nodes top x) is below
over nodes t top (n ∷ ns) s all h (suc k) m e = over nodes t top ns s (others (length nodes) n ns all) (and_parts (is_at_or_below t top n) (are_below t top ns) h).1 k m e

to_over : (nodes : List (List ℕ)) (t : Subtrees) (top : ℕ) (ns : List ℕ) → AreSubtrees nodes t → AreAllNodes (length nodes) ns → IsOverAll nodes ns top → are_below t top ns ≡ true
to_over nodes t top [] s all h = refl
to_over nodes t top (n ∷ ns) s all h =
    and_true (is_at_or_below t top n) (are_below t top ns) ((s.below top n (first_of (length nodes) n ns all)).1 (h 0 n refl)) (to_over nodes t top ns s (others (length nodes) n ns all) (λ k m e. h (suc k) m e))

-- ---- a common root

root_at : (nodes : List (List ℕ)) (t : Subtrees) (n : ℕ) → AreSubtrees nodes t → n < length nodes → slice_get (tree_roots t) n ≡ Some (get_or (tree_roots t) n 0)
root_at nodes t n s small = slice_get-get_or (tree_roots t) n 0 (omega (arith, small, s.count))

rooted : (nodes : List (List ℕ)) (t : Subtrees) (ns : List ℕ) → AreSubtrees nodes t → AreAllNodes (length nodes) ns → have_one_root t ns ≡ true → HaveCommonRoot nodes ns
rooted nodes t [] s all h = (0, λ k m e. let clash : None ≡ Some m = e in cc)
rooted nodes t (n ∷ ns) s all h =
    let r : ℕ = get_or (tree_roots t) n 0 in
    let at = root_at nodes t n s (first_of (length nodes) n ns all) in
    let below : are_below t r (n ∷ ns) ≡ true = subst (λ x. are_below_some t x (n ∷ ns) ≡ true) at h in
    (r, over nodes t r (n ∷ ns) s all below)

to_rooted : (nodes : List (List ℕ)) (t : Subtrees) (ns : List ℕ) → AreSubtrees nodes t → AreAllNodes (length nodes) ns → HaveCommonRoot nodes ns → have_one_root t ns ≡ true
to_rooted nodes t [] s all h = refl
to_rooted nodes t (n ∷ ns) s all (a, above) =
    let r : ℕ = get_or (tree_roots t) n 0 in
    let small : n < length nodes = first_of (length nodes) n ns all in
    let at = root_at nodes t n s small in
    let top : slice_get (tree_roots t) a ≡ Some r = s.one_root a n small (above 0 n refl) ∙ at in
    let all_over : IsOverAll nodes (n ∷ ns) r = λ k m e.
    let there : slice_get (tree_roots t) m ≡ Some r = sym (s.one_root a m (all k m e) (above k m e)) ∙ top in
    (s.root m r there).1 in
    subst (λ x. are_below_some t x (n ∷ ns) ≡ true) (sym at) (to_over nodes t r (n ∷ ns) s all all_over)

-- ---- a skeleton

headed : {P : Type 0} (nodes : List (List ℕ)) (t : Subtrees) (skeleton : Option (IndexTo P)) (ns : List ℕ) → AreSubtrees nodes t → AreAllNodes (length nodes) ns → is_headed t skeleton ns ≡ true → IsSkeleton nodes ns skeleton
headed nodes t None ns s all h = tt
headed nodes t (Some i) ns s all h = over nodes t (index_number i) ns s all h

to_headed : {P : Type 0} (nodes : List (List ℕ)) (t : Subtrees) (skeleton : Option (IndexTo P)) (ns : List ℕ) → AreSubtrees nodes t → AreAllNodes (length nodes) ns → IsSkeleton nodes ns skeleton → is_headed t skeleton ns ≡ true
to_headed nodes t None ns s all h = refl
to_headed nodes t (Some i) ns s all h = to_over nodes t (index_number i) ns s all h

named : {P : Type 0} (count : ℕ) (skeleton : Option (IndexTo P)) → not (is_some_unresolved count skeleton) ≡ true → IsSkeletonNode count skeleton
named count None h = tt
named count (Some i) h = elim (cases_lt (index_number i) count) [
  | inl small ↦ small
  | inr past ↦ absurd (let is : nat_le count (index_number i) ≡ true = grind (arith, common_steps) in both_ways (nat_le count (index_number i)) (not-true (nat_le count (index_number i)) h) is)
]

to_named : {P : Type 0} (count : ℕ) (skeleton : Option (IndexTo P)) → IsSkeletonNode count skeleton → not (is_some_unresolved count skeleton) ≡ true
to_named count None h = refl
to_named count (Some i) h = not_false (nat_le count (index_number i)) (λ is. let le : count ≤ index_number i = grind (arith, common_steps, is) in omega (arith, le, h))

-- ---- skins

whole : (nodes : List (List ℕ)) (s : Skin) → IsForest nodes → is_whole (length nodes) s ≡ true → IsAmongTrees nodes s
whole nodes s forest h =
    let parts = and_parts (are_among (length nodes) (joints_named s)) (not (is_some_unresolved (length nodes) s.skeleton)) h in
    (forest, among (length nodes) (joints_named s) parts.0, named (length nodes) s.skeleton parts.1)

to_whole : (nodes : List (List ℕ)) (s : Skin) → IsAmongTrees nodes s → is_whole (length nodes) s ≡ true
to_whole nodes s (forest, all, head) = and_true (are_among (length nodes) (joints_named s)) (not (is_some_unresolved (length nodes) s.skeleton)) (to_among (length nodes) (joints_named s) all) (to_named (length nodes) s.skeleton head)

nodes_of : (nodes : List (List ℕ)) (s : Skin) → IsAmongTrees nodes s → AreAllNodes (length nodes) (joints_named s)
nodes_of nodes s (forest, all, head) = all

-- a test of a skin that is whole, and of something that it lacks
mark_is : (nodes : List (List ℕ)) (s : Skin) (mark test : Bool) (P : Type 0) → IsForest nodes → mark ≡ (is_whole (length nodes) s && not test) → (AreAllNodes (length nodes) (joints_named s) → test ≡ true → P) → (AreAllNodes (length nodes) (joints_named s) → P → test ≡ true) → (mark ≡ true ↔ IsAmongTrees nodes s × (P → ⊥))
mark_is nodes s mark test P forest e to from = (
  (λ is.
      let parts = and_parts (is_whole (length nodes) s) (not test) (sym e ∙ is) in
      let is_among = whole nodes s forest parts.0 in
      (is_among, λ p. both_ways test (not-true test parts.1) (from (nodes_of nodes s is_among) p))),
  λ broken. e ∙ and_true (is_whole (length nodes) s) (not test) (to_whole nodes s broken.0) (not_false test (λ is. broken.1 (to (nodes_of nodes s broken.0) is))),
)

pub marks : (nodes : List (List ℕ)) (t : Subtrees) (count : ℕ) (skins : List Skin) (apart astray : List Bool) → AreSubtrees nodes t → IsForest nodes → length nodes ≡ count → AreMarksBy t count skins apart astray (length skins) → AreSkeletonMarks nodes skins apart astray
marks nodes t count skins apart astray s forest len m = record {
  rooted = λ n x few at.
      mark_is nodes x (is_marked apart n) (have_one_root t (joints_named x)) (HaveCommonRoot nodes (joints_named x)) forest (m.apart_is n x (slice_get_within skins n x at) at ∙ ap (λ y. is_whole y x && not (have_one_root t (joints_named x))) (sym len)) (λ all h. rooted nodes t (joints_named x) s all h) (λ all h. to_rooted nodes t (joints_named x) s all h);
  headed = λ n x few at.
      mark_is nodes x (is_marked astray n) (is_headed t x.skeleton (joints_named x)) (IsSkeleton nodes (joints_named x) x.skeleton) forest (m.astray_is n x (slice_get_within skins n x at) at ∙ ap (λ y. is_whole y x && not (is_headed t x.skeleton (joints_named x))) (sym len)) (λ all h. headed nodes t x.skeleton (joints_named x) s all h) (λ all h. to_headed nodes t x.skeleton (joints_named x) s all h);
}

-- ---- one more skin

marked_left : (xs ys : List Bool) (i : ℕ) → i < length xs → is_marked (xs ++ ys) i ≡ is_marked xs i
marked_left [] ys i h = absurd (omega (arith, h))
marked_left (x ∷ xs) ys zero h = refl
marked_left (x ∷ xs) ys (suc i) h = marked_left xs ys i (omega (arith, h))

marked_end : (xs : List Bool) (x : Bool) → is_marked (xs ++ x ∷ []) (length xs) ≡ x
marked_end [] x = refl
marked_end (y ∷ xs) x = marked_end xs x

length_more : (xs : List Bool) (x : Bool) → length (xs ++ x ∷ []) ≡ length xs + 1
length_more xs x = grind (arith, common_steps)

-- one more mark is that of the skin at its place
one_more : (f : Skin → Bool) (skins : List Skin) (marks : List Bool) (k : ℕ) (s : Skin) (b : Bool) → length marks ≡ k → ((n : ℕ) (x : Skin) → n < k → slice_get skins n ≡ Some x → is_marked marks n ≡ f x) → slice_get skins k ≡ Some s → b ≡ f s → (n : ℕ) (x : Skin) → n < k + 1 → slice_get skins n ≡ Some x → is_marked (marks ++ b ∷ []) n ≡ f x
one_more f skins marks k s b len before here is n x h at = elim (cases_lt n k) [
  | inl early ↦ marked_left marks (b ∷ []) n (omega (arith, early, len)) ∙ before n x early at
  | inr late ↦
      let place : n ≡ length marks = omega (arith, h, late, len) in
      let there : n ≡ k = omega (arith, h, late) in
      let both : Some s ≡ Some x = sym here ∙ ap (λ y. slice_get skins y) (sym there) ∙ at in
      let same : s ≡ x = cc in
      ap (λ y. is_marked (marks ++ b ∷ []) y) place ∙ marked_end marks b ∙ is ∙ ap f same
]

pub more_marks : (t : Subtrees) (count : ℕ) (skins : List Skin) (apart astray : List Bool) (k : ℕ) (s : Skin) (a b : Bool) → AreMarksBy t count skins apart astray k → slice_get skins k ≡ Some s → a ≡ (is_whole count s && not (have_one_root t (joints_named s))) → b ≡ (is_whole count s && not (is_headed t s.skeleton (joints_named s))) → AreMarksBy t count skins (apart ++ a ∷ []) (astray ++ b ∷ []) (k + 1)
more_marks t count skins apart astray k s a b m here a_is b_is = record {
  apart_len = omega (arith, length_more apart a, m.apart_len);
  astray_len = omega (arith, length_more astray b, m.astray_len);
  apart_is = one_more (λ x. is_whole count x && not (have_one_root t (joints_named x))) skins apart k s a m.apart_len m.apart_is here a_is;
  astray_is = one_more (λ x. is_whole count x && not (is_headed t x.skeleton (joints_named x))) skins astray k s b m.astray_len m.astray_is here b_is;
}

no_mark : (marks : List Bool) (n : ℕ) → marks ≡ [] → is_marked marks n ≡ true → ⊥
no_mark marks n e h = let clash : false ≡ true = subst (λ xs. is_marked xs n ≡ true) e h in cc

-- of nodes that are no forest nothing is marked
pub no_forest : (nodes : List (List ℕ)) (skins : List Skin) (apart astray : List Bool) → (IsForest nodes → length nodes < 2 ^ 32 → ⊥) → apart ≡ [] → astray ≡ [] → AreSkeletonMarks nodes skins apart astray
no_forest nodes skins apart astray none e f = record {
  rooted = λ n x few at. ((λ h. absurd (no_mark apart n e h)), λ broken. absurd (none broken.0.0 few));
  headed = λ n x few at. ((λ h. absurd (no_mark astray n f h)), λ broken. absurd (none broken.0.0 few));
}

-- without skins nothing is marked
pub no_skins : (nodes : List (List ℕ)) (skins : List Skin) (apart astray : List Bool) → skins ≡ [] → AreSkeletonMarks nodes skins apart astray
no_skins nodes skins apart astray e = record {
  rooted = λ n x few at. absurd (let clash : None ≡ Some x = subst (λ xs. slice_get xs n ≡ Some x) e at in cc);
  headed = λ n x few at. absurd (let clash : None ≡ Some x = subst (λ xs. slice_get xs n ≡ Some x) e at in cc);
}
