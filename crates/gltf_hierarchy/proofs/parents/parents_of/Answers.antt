use Rattle.std.proofs.Common.{◌≡◌, ℕ, ◌<◌, ◌+◌, List, [], ◌++◌, length, take, drop, Option, Some, None, replicate, refl, sym, ◌∙◌, ap, subst, arith}
use Rattle.std.specs.Prelude.{slice_get}
use Rattle.std.proofs.lemmas.List.{get_or-replicate, length-replicate}
use Rattle.std.proofs.lemmas.Option.{slice_get-get_or}
use Rattle.std.proofs.Math.Seq.{take-length}
use Rattle.gltf_hierarchy.specs.declared.fault.HierarchyFault.{HierarchyFault}
use Rattle.gltf_hierarchy.specs.declared.fault.HierarchyFault.TheVariants.{TooManyNodes, NoSuchChild, TwoParents, Cycle, Memory}
use Rattle.gltf_hierarchy.specs.Nodes.{children_of}
use Rattle.gltf_hierarchy.specs.Parents.{AreParentsBelow}
use Rattle.gltf_hierarchy.specs.Adopted.{IsRefused}
use Rattle.gltf_hierarchy.specs.Faults.{IsHead, IsFirstFault, places_in, places_from, place_faults, faults_behind}
use Rattle.gltf_hierarchy.specs.Listing.{IsListed, places_below}
use Rattle.gltf_hierarchy.proofs.Parenting.{no_parents, more_parents, refused_is_fault}
use Rattle.gltf_hierarchy.proofs.Listing.{places_more, places_all, head_more}
use Rattle.gltf_hierarchy.proofs.parents.parents_of.Invariants.{IsParenting}
use Rattle.gltf_hierarchy.proofs.parents.parents_of.Goals as goal

first_parenting : (nodes : List (List ℕ)) (parents : List (Option ℕ)) (count : ℕ) → parents ≡ replicate count None → count ≡ length nodes → IsParenting nodes parents 0
first_parenting nodes parents count e n =
    let whole : parents ≡ replicate (length nodes) None = e ∙ ap (λ x. replicate {A = Option ℕ} x None) n in
    record {
      below = no_parents nodes parents whole;
      listed = record {
        len = ap length whole ∙ length-replicate {A = Option ℕ} (length nodes) None;
        each = λ m h. ap (λ xs. slice_get xs m) whole ∙ slice_get-get_or (replicate {A = Option ℕ} (length nodes) None) m None (omega (arith, h, length-replicate {A = Option ℕ} (length nodes) None)) ∙ ap Some (get_or-replicate (length nodes) m None None h);
        listed = refl;
      };
    }

pub loop-number-init : goal.loop-number-init
loop-number-init g c = first_parenting (g.H.Hierarchy.children c.args.nodes.now) c.in-Ok.parents.items c.node_count.result c.in-Ok.ensures c.node_count.ensures

pub loop-number-preserved : goal.loop-number-preserved
loop-number-preserved g c =
    let nodes : List (List ℕ) = g.H.Hierarchy.children c.args.nodes.now in
    let k : ℕ = c.loop-number.number in
    record {
      below = more_parents nodes c.loop-number.parents.items c.adopt.new.parents.items k c.loop-number.invariant.below c.in_default.ensures.adopted;
      listed = subst (λ xs. IsListed (length nodes) xs c.adopt.new.parents.items []) (sym (places_more nodes k (omega arith))) (c.in_default.ensures.listed (length nodes) (places_below nodes k) c.loop-number.invariant.listed);
    }

pub returns-in-Err-adopt-clause-fault : goal.returns-in-Err-adopt-clause-fault
returns-in-Err-adopt-clause-fault g c = refused_is_fault (g.H.Hierarchy.children c.args.nodes.now) c.loop-number.parents.items c.loop-number.number c.in-Err-adopt.error c.loop-number.invariant.below c.in-Err-adopt.ensures.refused

head_first : (nodes : List (List ℕ)) (parents : List (Option ℕ)) (n : ℕ) (children : List ℕ) (e : HierarchyFault) → IsRefused parents n children e → IsHead e (place_faults nodes) → IsFirstFault nodes e
head_first nodes parents n children (NoSuchChild p c) r h = h
head_first nodes parents n children (TwoParents c p q) r h = h
head_first nodes parents n children TooManyNodes r h = tt
head_first nodes parents n children (Cycle m) r h = absurd r
head_first nodes parents n children (Memory e) r h = tt

whole : (nodes : List (List ℕ)) (k : ℕ) (e : HierarchyFault) → k < length nodes → IsHead e (faults_behind (length nodes) [] (places_below nodes k ++ places_in k (children_of nodes k))) → IsHead e (place_faults nodes)
whole nodes k e small h =
    let so_far = subst (λ xs. IsHead e (faults_behind (length nodes) [] xs)) (sym (places_more nodes k small)) h in
    subst (λ xs. IsHead e (faults_behind (length nodes) [] xs)) (places_all nodes (k + 1)) (head_more (length nodes) (places_below nodes (k + 1)) (places_from (0 + length (take (k + 1) nodes)) (drop (k + 1) nodes)) e so_far)

pub returns-in-Err-adopt-clause-first : goal.returns-in-Err-adopt-clause-first
returns-in-Err-adopt-clause-first g c =
    let nodes : List (List ℕ) = g.H.Hierarchy.children c.args.nodes.now in
    let k : ℕ = c.loop-number.number in
    head_first nodes c.loop-number.parents.items k (children_of nodes k) c.in-Err-adopt.error c.in-Err-adopt.ensures.refused (whole nodes k c.in-Err-adopt.error (omega arith) (c.in-Err-adopt.ensures.first (length nodes) (places_below nodes k) c.loop-number.invariant.listed))

pub returns-clause-found : goal.returns-clause-found
returns-clause-found g c =
    let nodes = g.H.Hierarchy.children c.args.nodes.now in
    let e : c.loop-number.number ≡ length nodes = omega arith in
    subst (λ b. AreParentsBelow nodes c.loop-number.parents.items b) e c.loop-number.invariant.below

no_place : (nodes : List (List ℕ)) (parents : List (Option ℕ)) (k : ℕ) → IsListed (length nodes) (places_below nodes k) parents [] → k ≡ length nodes → place_faults nodes ≡ []
no_place nodes parents k l e =
    let same : places_below nodes k ≡ places_from 0 nodes = ap (λ x. places_below nodes x) e ∙ ap (λ xs. places_from 0 xs) (take-length nodes) in
    sym (l.listed ∙ ap (λ xs. faults_behind (length nodes) [] xs) same)

pub returns-clause-none : goal.returns-clause-none
returns-clause-none g c = no_place (g.H.Hierarchy.children c.args.nodes.now) c.loop-number.parents.items c.loop-number.number c.loop-number.invariant.listed (omega arith)
