use Rattle.std.proofs.Common.{◌≡◌, ℕ, ◌<◌, ◌+◌, List, [], ◌∷◌, ◌++◌, length, Option, Some, None, take, drop, refl, sym, ◌∙◌, ap, subst, arith}
use Rattle.std.specs.Prelude.{slice_get}
use Rattle.std.proofs.lemmas.List.{append-nil}
use Rattle.gltf_hierarchy.specs.declared.fault.HierarchyFault.{HierarchyFault}
use Rattle.gltf_hierarchy.specs.Nodes.{children_of}
use Rattle.gltf_hierarchy.specs.Adopted.{AreAdopted, IsRefused}
use Rattle.gltf_hierarchy.specs.Faults.{Place, IsHead, places_in, faults_behind}
use Rattle.gltf_hierarchy.specs.Listing.{IsListed, IsSettled}
use Rattle.gltf_hierarchy.proofs.Adopting.{more_adopted, none_adopted}
use Rattle.gltf_hierarchy.proofs.Listing.{listed_settled, places_push, places_taken, refused_now, head_more}
use Rattle.gltf_hierarchy.proofs.parents.adopt.Invariants.{IsAdopting}
use Rattle.gltf_hierarchy.proofs.parents.adopt.Goals as goal

pub loop-place-init : goal.loop-place-init
loop-place-init g c = record {
  adopted = none_adopted c.args.parents.now.items c.args.parent (children_of (g.H.Hierarchy.children c.args.nodes.now) c.args.parent);
  listed = λ count before l. subst (λ xs. IsListed count xs c.args.parents.now.items []) (sym (append-nil before)) l;
}

adopting : (children : List ℕ) (parent k child : ℕ) (old mid new : List (Option ℕ)) → IsAdopting children parent k old mid → slice_get children k ≡ Some child → IsSettled mid new parent child None → IsAdopting children parent (k + 1) old new
adopting children parent k child old mid new a at settled = record {
  adopted = subst (λ xs. AreAdopted old xs parent children (k + 1)) (sym settled.1) (more_adopted old mid parent children k child a.adopted at settled.0);
  listed = λ count before l. rw (← places_push before parent k child children at) (listed_settled count (before ++ places_in parent (take k children)) mid new [] parent child None (a.listed count before l) settled);
}

first_fault : (children : List ℕ) (parent k child : ℕ) (old mid new : List (Option ℕ)) (fault : HierarchyFault) → IsAdopting children parent k old mid → slice_get children k ≡ Some child → IsSettled mid new parent child (Some fault) → (count : ℕ) (before : List Place) → IsListed count before old [] → IsHead fault (faults_behind count [] (before ++ places_in parent children))
first_fault children parent k child old mid new fault a at settled count before l =
    let here = listed_settled count (before ++ places_in parent (take k children)) mid new [] parent child (Some fault) (a.listed count before l) settled in
    let now : faults_behind count [] (before ++ places_in parent (take (k + 1) children)) ≡ fault ∷ [] = rw (← places_push before parent k child children at) (sym here.listed) in
    subst (λ xs. IsHead fault (faults_behind count [] xs)) (places_taken before parent (k + 1) children) (head_more count (before ++ places_in parent (take (k + 1) children)) (places_in parent (drop (k + 1) children)) fault ([], now))

pub loop-place-preserved : goal.loop-place-preserved
loop-place-preserved g c =
    let settled = subst (λ o. IsSettled c.loop-place.parents.items c.settle.new.parents.items c.args.parent c.child-child.result o) c.in_default.is c.settle.ensures in
    adopting (children_of (g.H.Hierarchy.children c.args.nodes.now) c.args.parent) c.args.parent c.loop-place.place c.child-child.result c.args.parents.now.items c.loop-place.parents.items c.settle.new.parents.items c.loop-place.invariant c.child-child.ensures settled

pub returns-in-Some-clause-refused : goal.returns-in-Some-clause-refused
returns-in-Some-clause-refused g c =
    let settled = subst (λ o. IsSettled c.loop-place.parents.items c.settle.new.parents.items c.args.parent c.child-child.result o) c.in-Some.is c.settle.ensures in
    refused_now c.args.parents.now.items c.loop-place.parents.items c.settle.new.parents.items c.args.parent c.child-child.result c.loop-place.place (children_of (g.H.Hierarchy.children c.args.nodes.now) c.args.parent) c.in-Some.fault c.loop-place.invariant.adopted c.child-child.ensures settled

pub returns-in-Some-clause-first : goal.returns-in-Some-clause-first
returns-in-Some-clause-first g c =
    let settled = subst (λ o. IsSettled c.loop-place.parents.items c.settle.new.parents.items c.args.parent c.child-child.result o) c.in-Some.is c.settle.ensures in
    first_fault (children_of (g.H.Hierarchy.children c.args.nodes.now) c.args.parent) c.args.parent c.loop-place.place c.child-child.result c.args.parents.now.items c.loop-place.parents.items c.settle.new.parents.items c.in-Some.fault c.loop-place.invariant c.child-child.ensures settled
