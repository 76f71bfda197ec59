-- One more place is listed.
use Rattle.std.proofs.Common.{◌≡◌, ℕ, suc, ◌<◌, ◌≤◌, ◌+◌, List, [], ◌∷◌, ◌++◌, length, get_or, Option, Some, None, Bool, true, false, cond, eqb, refl, sym, ◌∙◌, ap, subst, arith, inl, inr, ◌⊎◌, take, drop, append_assoc, map}
use Rattle.std.specs.Prelude.{slice_get}
use Rattle.std.proofs.Math.ListN.{length-set}
use Rattle.std.proofs.Math.Seq.{take-suc}
use Rattle.std.proofs.lemmas.List.{append-nil, map-append, length-take-le, take-append-drop}
use Rattle.std.proofs.lemmas.Option.{slice_get_within, get_or_from_slice_get}
use Rattle.std.proofs.lemmas.Bool.{cases_eq, eq-eqb, ne_eqb, lt-ltb, le-ltb}
use Rattle.gltf_hierarchy.specs.declared.fault.HierarchyFault.{HierarchyFault}
use Rattle.gltf_hierarchy.specs.declared.fault.HierarchyFault.TheVariants.{TooManyNodes, NoSuchChild, TwoParents, Cycle, Memory}
use Rattle.gltf_hierarchy.specs.Nodes.{children_of}
use Rattle.gltf_hierarchy.specs.Adopted.{AreAdopted, IsRefused}
use Rattle.gltf_hierarchy.specs.Faults.{Place, IsHead, places_in, places_from, first_parent, place_fault, faults_behind}
use Rattle.gltf_hierarchy.specs.Listing.{IsSettled, IsListed, IsQuiet, places_below}
use Rattle.gltf_hierarchy.proofs.Adopting.{get_set_same, get_set_other, more_adopted}

-- ---- the first parents

kept_step : (b : Bool) (x q : ℕ) (s t : Option ℕ) → (s ≡ Some q → t ≡ Some q) → cond b (Some x) s ≡ Some q → cond b (Some x) t ≡ Some q
kept_step true x q s t f h = h
kept_step false x q s t f h = f h

new_step : (b : Bool) (x : ℕ) (s t v : Option ℕ) → (s ≡ None → t ≡ v) → cond b (Some x) s ≡ None → cond b (Some x) t ≡ v
new_step true x s t v f h = absurd (let both : Some x ≡ None = h in cc)
new_step false x s t v f h = f h

first_kept : (places : List Place) (p : Place) (n q : ℕ) → first_parent places n ≡ Some q → first_parent (places ++ p ∷ []) n ≡ Some q
first_kept [] p n q h = absurd (let both : None ≡ Some q = h in cc)
first_kept (r ∷ rest) p n q h = kept_step (eqb r.child n) r.parent q (first_parent rest n) (first_parent (rest ++ p ∷ []) n) (first_kept rest p n q) h

first_new : (places : List Place) (p : Place) (n : ℕ) → p.child ≡ n → first_parent places n ≡ None → first_parent (places ++ p ∷ []) n ≡ Some p.parent
first_new [] p n e h = rw (eq-eqb p.child n e) refl
first_new (r ∷ rest) p n e h = new_step (eqb r.child n) r.parent (first_parent rest n) (first_parent (rest ++ p ∷ []) n) (Some p.parent) (first_new rest p n e) h

first_other : (places : List Place) (p : Place) (n : ℕ) → (p.child ≡ n → ⊥) → first_parent (places ++ p ∷ []) n ≡ first_parent places n
first_other [] p n apart = rw (ne_eqb p.child n apart) refl
first_other (r ∷ rest) p n apart = ap (λ x. cond (eqb r.child n) (Some r.parent) x) (first_other rest p n apart)

-- ---- the faults

faults_push : (count : ℕ) (before places : List Place) (p : Place) → faults_behind count before (places ++ p ∷ []) ≡ faults_behind count before places ++ place_fault count (before ++ places) p
faults_push count before [] p = append-nil (place_fault count before p) ∙ ap (λ xs. place_fault count xs p) (sym (append-nil before))
faults_push count before (r ∷ rest) p =
    ap (λ xs. place_fault count before r ++ xs) (faults_push count (before ++ r ∷ []) rest p)
    ∙ sym (append_assoc (place_fault count before r) (faults_behind count (before ++ r ∷ []) rest) (place_fault count ((before ++ r ∷ []) ++ rest) p))
    ∙ ap (λ xs. (place_fault count before r ++ faults_behind count (before ++ r ∷ []) rest) ++ place_fault count xs p) (append_assoc before (r ∷ []) rest)

fault_none : (count : ℕ) (places : List Place) (p : Place) → p.child < count → first_parent places p.child ≡ None → place_fault count places p ≡ []
fault_none count places p h e = rw (lt-ltb p.child count h, e) refl

fault_second : (count : ℕ) (places : List Place) (p : Place) (q : ℕ) → p.child < count → first_parent places p.child ≡ Some q → place_fault count places p ≡ TwoParents p.child q p.parent ∷ []
fault_second count places p q h e = rw (lt-ltb p.child count h, e) refl

fault_missing : (count : ℕ) (places : List Place) (p : Place) → count ≤ p.child → place_fault count places p ≡ NoSuchChild p.parent p.child ∷ []
fault_missing count places p h = rw (le-ltb p.child count h) refl

abbrev pub listed_of : Option HierarchyFault → List HierarchyFault
listed_of None = []
listed_of (Some fault) = fault ∷ []

faults_more : (count : ℕ) (places : List Place) (p : Place) (faults more : List HierarchyFault) → faults ≡ faults_behind count [] places → place_fault count places p ≡ more → faults ++ more ≡ faults_behind count [] (places ++ p ∷ [])
faults_more count places p faults more e f = ap (λ xs. xs ++ more) e ∙ ap (λ xs. faults_behind count [] places ++ xs) (sym f) ∙ sym (faults_push count [] places p)

same_first : (count : ℕ) (places : List Place) (parents : List (Option ℕ)) (faults : List HierarchyFault) (n : ℕ) (o : Option ℕ) → IsListed count places parents faults → slice_get parents n ≡ Some o → first_parent places n ≡ o
same_first count places parents faults n o l at =
    let small : n < count = omega (arith, slice_get_within parents n o at, l.len) in
    let both : Some (first_parent places n) ≡ Some o = sym (l.each n small) ∙ at in cc

pub listed_settled : (count : ℕ) (places : List Place) (parents new : List (Option ℕ)) (faults : List HierarchyFault) (parent child : ℕ) (o : Option HierarchyFault) → IsListed count places parents faults → IsSettled parents new parent child o → IsListed count (places ++ record { parent = parent; child = child } ∷ []) new (faults ++ listed_of o)
listed_settled count places parents new faults parent child None l (free, now) =
    let p : Place = record { parent = parent; child = child } in
    let none : first_parent places child ≡ None = same_first count places parents faults child None l free in
    let within_old : child < length parents = slice_get_within parents child None free in
    record {
      len = ap length now ∙ length-set parents child (Some parent) ∙ l.len;
      each = λ n h. ap (λ xs. slice_get xs n) now ∙ elim (cases_eq n child) [
        | inl same ↦ rw same (get_set_same parents child (Some parent) within_old ∙ ap Some (sym (first_new places p child refl none)))
        | inr apart ↦ get_set_other parents child n (Some parent) apart ∙ l.each n h ∙ ap Some (sym (first_other places p n (λ e. apart (sym e))))
      ];
      listed = faults_more count places p faults [] l.listed (fault_none count places p (omega (arith, within_old, l.len)) none);
    }
listed_settled count places parents new faults parent child (Some (NoSuchChild a b)) l (now, is, same, past) =
    let p : Place = record { parent = parent; child = child } in
    record {
      len = ap length now ∙ l.len;
      each = λ n h. ap (λ xs. slice_get xs n) now ∙ l.each n h ∙ ap Some (sym (first_other places p n (λ e. omega (arith, e, past, h, l.len))));
      listed = rw (is, same) (faults_more count places p faults (NoSuchChild parent child ∷ []) l.listed (fault_missing count places p (omega (arith, past, l.len))));
    }
listed_settled count places parents new faults parent child (Some (TwoParents b a q)) l (now, same, is, at) =
    let p : Place = record { parent = parent; child = child } in
    let first : first_parent places child ≡ Some a = same_first count places parents faults child (Some a) l at in
    record {
      len = ap length now ∙ l.len;
      each = λ n h. ap (λ xs. slice_get xs n) now ∙ l.each n h ∙ ap Some (elim (cases_eq n child) [
        | inl e ↦ rw e (first ∙ sym (first_kept places p child a first))
        | inr apart ↦ sym (first_other places p n (λ e. apart (sym e)))
      ]);
      listed = rw (is, same) (faults_more count places p faults (TwoParents child a parent ∷ []) l.listed (fault_second count places p a (omega (arith, slice_get_within parents child (Some a) at, l.len)) first));
    }
listed_settled count places parents new faults parent child (Some TooManyNodes) l h = absurd h
listed_settled count places parents new faults parent child (Some (Cycle n)) l h = absurd h
listed_settled count places parents new faults parent child (Some (Memory e)) l h = absurd h

-- ---- no fault, or a reason

not_empty : (faults : List HierarchyFault) (fault : HierarchyFault) → faults ++ fault ∷ [] ≡ [] → ⊥
not_empty [] fault e = cc
not_empty (x ∷ rest) fault e = cc

pub refused_now : (old mid new : List (Option ℕ)) (parent child k : ℕ) (children : List ℕ) (fault : HierarchyFault) → AreAdopted old mid parent children k → slice_get children k ≡ Some child → IsSettled mid new parent child (Some fault) → IsRefused old parent children fault
refused_now old mid new parent child k children (NoSuchChild p c) a at (now, is, same, past) = (is, omega (arith, past, same, a.len), (k, at ∙ ap Some (sym same)))
refused_now old mid new parent child k children (TwoParents c p q) a at (now, same, is, there) = (is, (k, at ∙ ap Some (sym same), subst (λ x. (slice_get old x ≡ Some (Some p)) ⊎ ((p ≡ parent) × ((j : ℕ) × (j < k) × (slice_get children j ≡ Some x)))) (sym same) (a.only child p there)))
refused_now old mid new parent child k children TooManyNodes a at h = absurd h
refused_now old mid new parent child k children (Cycle n) a at h = absurd h
refused_now old mid new parent child k children (Memory e) a at h = absurd h

pub quiet_settled : (old mid new : List (Option ℕ)) (parent child k : ℕ) (children : List ℕ) (before now : List HierarchyFault) (o : Option HierarchyFault) → IsQuiet old mid parent children k before now → slice_get children k ≡ Some child → IsSettled mid new parent child o → IsQuiet old new parent children (k + 1) before (now ++ listed_of o)
quiet_settled old mid new parent child k children before now None (inl (b, n, a)) at (free, is) = inl (b, append-nil now ∙ n, subst (λ xs. AreAdopted old xs parent children (k + 1)) (sym is) (more_adopted old mid parent children k child a at free))
quiet_settled old mid new parent child k children before now None (inr (some, why)) at settled = inr ((λ e. some (sym (append-nil now) ∙ e)), why)
quiet_settled old mid new parent child k children before now (Some fault) (inl (b, n, a)) at settled = inr (not_empty now fault, λ _. (fault, refused_now old mid new parent child k children fault a at settled))
quiet_settled old mid new parent child k children before now (Some fault) (inr (some, why)) at settled = inr (not_empty now fault, why)

-- ---- places

pub places_push : (places : List Place) (parent k child : ℕ) (children : List ℕ) → slice_get children k ≡ Some child → (places ++ places_in parent (take k children)) ++ record { parent = parent; child = child } ∷ [] ≡ places ++ places_in parent (take (k + 1) children)
places_push places parent k child children at =
    let f : ℕ → Place = λ c. record { parent = parent; child = c } in
    let up : suc k ≡ k + 1 = omega arith in
    let more : take (k + 1) children ≡ take k children ++ get_or children k 0 ∷ [] = subst (λ x. take x children ≡ take k children ++ get_or children k 0 ∷ []) up (take-suc children k 0 (slice_get_within children k child at)) in
    let is : get_or children k 0 ≡ child = get_or_from_slice_get children k child 0 at in
    append_assoc places (map f (take k children)) (f child ∷ [])
    ∙ ap (λ xs. places ++ xs) (sym (map-append f (take k children) (child ∷ [])) ∙ ap (λ x. map f (take k children ++ x ∷ [])) (sym is) ∙ ap (λ xs. map f xs) (sym more))

places_append : (n : ℕ) (nodes : List (List ℕ)) (children : List ℕ) → places_from n (nodes ++ children ∷ []) ≡ places_from n nodes ++ places_in (n + length nodes) children
places_append n [] children = append-nil (places_in n children) ∙ ap (λ x. places_in x children) (omega arith)
places_append n (first ∷ rest) children =
    ap (λ xs. places_in n first ++ xs) (places_append (n + 1) rest children)
    ∙ sym (append_assoc (places_in n first) (places_from (n + 1) rest) (places_in (n + 1 + length rest) children))
    ∙ ap (λ x. (places_in n first ++ places_from (n + 1) rest) ++ places_in x children) (omega arith)

pub places_more : (nodes : List (List ℕ)) (k : ℕ) → k < length nodes → places_below nodes (k + 1) ≡ places_below nodes k ++ places_in k (children_of nodes k)
places_more nodes k small =
    let up : suc k ≡ k + 1 = omega arith in
    let more : take (k + 1) nodes ≡ take k nodes ++ get_or nodes k [] ∷ [] = subst (λ x. take x nodes ≡ take k nodes ++ get_or nodes k [] ∷ []) up (take-suc nodes k [] small) in
    let len : length (take k nodes) ≡ k = length-take-le k nodes (omega (arith, small)) in
    ap (λ xs. places_from 0 xs) more ∙ places_append 0 (take k nodes) (get_or nodes k []) ∙ ap (λ x. places_below nodes k ++ places_in x (get_or nodes k [])) (omega (arith, len))

-- ---- the first fault

behind_append : (count : ℕ) (before xs ys : List Place) → faults_behind count before (xs ++ ys) ≡ faults_behind count before xs ++ faults_behind count (before ++ xs) ys
behind_append count before [] ys = ap (λ b. faults_behind count b ys) (sym (append-nil before))
behind_append count before (r ∷ rest) ys =
    ap (λ zs. place_fault count before r ++ zs) (behind_append count (before ++ r ∷ []) rest ys)
    ∙ sym (append_assoc (place_fault count before r) (faults_behind count (before ++ r ∷ []) rest) (faults_behind count ((before ++ r ∷ []) ++ rest) ys))
    ∙ ap (λ b. (place_fault count before r ++ faults_behind count (before ++ r ∷ []) rest) ++ faults_behind count b ys) (append_assoc before (r ∷ []) rest)

-- what is first stays so if more places follow
pub head_more : (count : ℕ) (xs ys : List Place) (fault : HierarchyFault) → IsHead fault (faults_behind count [] xs) → IsHead fault (faults_behind count [] (xs ++ ys))
head_more count xs ys fault (rest, e) = (rest ++ faults_behind count xs ys, behind_append count [] xs ys ∙ ap (λ zs. zs ++ faults_behind count xs ys) e)

pub places_taken : (before : List Place) (parent k : ℕ) (children : List ℕ) → (before ++ places_in parent (take k children)) ++ places_in parent (drop k children) ≡ before ++ places_in parent children
places_taken before parent k children =
    let f : ℕ → Place = λ c. record { parent = parent; child = c } in
    append_assoc before (map f (take k children)) (map f (drop k children))
    ∙ ap (λ xs. before ++ xs) (sym (map-append f (take k children) (drop k children)) ∙ ap (λ xs. map f xs) (take-append-drop k children))

places_join : (n : ℕ) (xs ys : List (List ℕ)) → places_from n (xs ++ ys) ≡ places_from n xs ++ places_from (n + length xs) ys
places_join n [] ys = ap (λ x. places_from x ys) (omega arith)
places_join n (first ∷ rest) ys =
    ap (λ zs. places_in n first ++ zs) (places_join (n + 1) rest ys)
    ∙ sym (append_assoc (places_in n first) (places_from (n + 1) rest) (places_from (n + 1 + length rest) ys))
    ∙ ap (λ x. (places_in n first ++ places_from (n + 1) rest) ++ places_from x ys) (omega arith)

pub places_all : (nodes : List (List ℕ)) (k : ℕ) → places_below nodes k ++ places_from (0 + length (take k nodes)) (drop k nodes) ≡ places_from 0 nodes
places_all nodes k = sym (places_join 0 (take k nodes) (drop k nodes)) ∙ ap (λ xs. places_from 0 xs) (take-append-drop k nodes)
