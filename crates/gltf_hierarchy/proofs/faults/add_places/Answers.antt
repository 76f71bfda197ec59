use Rattle.std.proofs.Common.{◌≡◌, ℕ, ◌+◌, List, [], ◌∷◌, ◌++◌, Option, Some, refl, sym, subst, inl, inr, take}
use Rattle.std.specs.Prelude.{slice_get}
use Rattle.std.proofs.lemmas.List.{append-nil}
use Rattle.gltf_hierarchy.specs.declared.fault.HierarchyFault.{HierarchyFault}
use Rattle.gltf_hierarchy.specs.Nodes.{children_of}
use Rattle.gltf_hierarchy.specs.Faults.{places_in}
use Rattle.gltf_hierarchy.specs.Listing.{IsListed, IsQuiet, IsSettled}
use Rattle.gltf_hierarchy.proofs.Adopting.{none_adopted}
use Rattle.gltf_hierarchy.proofs.Listing.{listed_of, listed_settled, quiet_settled, places_push}
use Rattle.gltf_hierarchy.proofs.faults.add_places.Invariants.{IsAdding}
use Rattle.gltf_hierarchy.proofs.faults.add_places.Goals as goal
use Rattle.gltf_hierarchy.proofs.faults.add_places.Goals.{in-Some+in_ok-push, in_default}

begin_quiet : (parents : List (Option ℕ)) (parent : ℕ) (children : List ℕ) (faults : List HierarchyFault) → IsQuiet parents parents parent children 0 faults faults
begin_quiet parents parent children [] = inl (refl, refl, none_adopted parents parent children)
begin_quiet parents parent children (x ∷ rest) = inr ((λ e. cc), λ e. absurd cc)

pub loop-place-init : goal.loop-place-init
loop-place-init g c = record {
  listed = λ count places l. subst (λ xs. IsListed count xs c.args.parents.now.items c.args.faults.now.items) (sym (append-nil places)) l;
  quiet = begin_quiet c.args.parents.now.items c.args.parent (children_of (g.H.Hierarchy.children c.args.nodes.now) c.args.parent) c.args.faults.now.items;
}

adding : (children : List ℕ) (parent k child : ℕ) (old mid new : List (Option ℕ)) (before now after : List HierarchyFault) (o : Option HierarchyFault) → IsAdding children parent k old mid before now → slice_get children k ≡ Some child → IsSettled mid new parent child o → after ≡ now ++ listed_of o → IsAdding children parent (k + 1) old new before after
adding children parent k child old mid new before now after o a at settled e = record {
  listed = λ count places l. rw (e, ← places_push places parent k child children at) (listed_settled count (places ++ places_in parent (take k children)) mid new now parent child o (a.listed count places l) settled);
  quiet = rw e (quiet_settled old mid new parent child k children before now o a.quiet at settled);
}

pub loop-place-preserved : goal.loop-place-preserved
loop-place-preserved g c =
    let children : List ℕ = children_of (g.H.Hierarchy.children c.args.nodes.now) c.args.parent in
    let go = adding children c.args.parent c.loop-place.place c.child.result c.args.parents.now.items c.loop-place.parents.items c.settle.new.parents.items c.args.faults.now.items c.loop-place.faults.items c.match-settle.faults.items c.settle.result c.loop-place.invariant c.child.ensures c.settle.ensures in
    elim c.match-settle.branch [
      | in-Some+in_ok-push w ↦ go (rw (w.faults-is, w.in-Some.is) w.in_ok-push.ensures.items)
      | in_default w ↦ go (rw (w.faults-is, w.in_default.is) (sym (append-nil c.loop-place.faults.items)))
    ]
