-- The frames below the last one stay.
use Rattle.std.proofs.Common.{rules, arith, ◌≡◌, ◌∷◌, [], ℕ, ◌+◌, ◌-◌, length, List, ◌++◌, take, drop, get_or, set, ap, sym, ◌∙◌, append-nil, take_all}
use Rattle.std.specs.List.{refill}
use Rattle.std.proofs.lemmas.List.{drop_all, length-set, take_more, take_more_set}
use Rattle.gltf_validation_walk.proofs.frame.next_of_last.Goals as goal

-- a list, and the same with another last item
last_set : {X : Type 0} (xs vs : List X) (d y : X) (n i : ℕ) → vs ≡ xs → n ≡ length xs → n ≡ i + 1
    → (xs ≡ take i xs ++ get_or vs i d ∷ []) × (refill n xs (set vs i y) ≡ take i xs ++ y ∷ [])
last_set xs vs d y n i same all last =
    let none : drop (length (set vs i y)) xs ≡ [] = drop_all _ xs (omega (arith, length-set vs i y, ap length same)) in (
      sym (take_all (i + 1) xs (omega arith)) ∙ (take_more xs i d (omega arith) ∙ ap (λ zs. take i xs ++ get_or zs i d ∷ []) (sym same)),
      ap (λ zs. take n (set vs i y ++ zs)) none
          ∙ (ap (take n) (append-nil (set vs i y) ∙ ap (λ zs. set zs i y) same) ∙ (ap (λ k. take k (set xs i y)) last ∙ take_more_set xs i y (omega arith))),
    )

pub returns : goal.returns
returns c =
    let fs = c.args.frames.now.items in
    let i = length fs - 1 in
    let m = last_set fs c.deref_mut.result.now c.index-deref_mut-last.result c.next_event.new.frame _ _ c.deref_mut.ensures.value (search rules) (search (rules, arith)) in
    (_, _, _, m.0, m.1, c.next_event.ensures.comes, λ more. c.next_event.ensures.rest more)
