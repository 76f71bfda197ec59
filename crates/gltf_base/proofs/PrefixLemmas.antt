-- What stands behind a prefix, as std strips it.
use Rattle.std.proofs.Common.{◌≡◌, ℕ, ◌==◌, Bool, true, false, cond, List, [], ◌∷◌, ◌++◌, drop, Option, Some, None, MatchOption, ap, sym, refl, ◌∙◌}
use Rattle.std.specs.Borrow.{Bor}
use Rattle.std.specs.Option.{option_copied}
use Rattle.std.specs.Str.Pattern.{FindsTextPrefix, StripsPrefix}
use Rattle.std.proofs.lemmas.Bool.Decides.{Decides-eqb}
use Rattle.gltf_base.specs.Names.{behind}

-- behind a prefix that is put in front stands the rest
behind-append : (p rest : List ℕ) → behind p (p ++ rest) ≡ Some rest
behind-append [] rest = refl
behind-append (c ∷ cs) rest = rw ((Decides-eqb c c).1 refl) (behind-append cs rest)

-- a head that is the same, in front of a tail that has the prefix
behind_head : (c d : ℕ) (cs ds rest : List ℕ) (b : Bool) → c == d ≡ b → (behind cs ds ≡ Some rest → ds ≡ cs ++ rest) → cond b (behind cs ds) None ≡ Some rest → d ∷ ds ≡ c ∷ (cs ++ rest)
behind_head c d cs ds rest true h tail e =
    let head : c ≡ d = (Decides-eqb c d).0 h in
    let rest_is = tail e in
    cc
behind_head c d cs ds rest false h tail e = cc

-- what has something behind a prefix begins with it
behind-found : (p s rest : List ℕ) → behind p s ≡ Some rest → s ≡ p ++ rest
behind-found [] s rest e = cc
behind-found (c ∷ cs) [] rest e = cc
behind-found (c ∷ cs) (d ∷ ds) rest e = behind_head c d cs ds rest (c == d) refl (behind-found cs ds rest) e

-- what does not begin with a prefix has nothing behind it
behind-lacks : (p s : List ℕ) (o : Option (List ℕ)) → behind p s ≡ o → ((rest : List ℕ) → s ≡ p ++ rest → ⊥) → None ≡ o
behind-lacks p s None e lacks = refl
behind-lacks p s (Some rest) e lacks = absurd (lacks rest (behind-found p s rest e))

-- what `strip_prefix` answers at a text
pub strip_prefix-behind : (p s : List ℕ) (r : Option (Bor (List ℕ))) → MatchOption r (FindsTextPrefix p s None) (λ x. StripsPrefix (FindsTextPrefix p) s x.now) → option_copied r ≡ behind p s
strip_prefix-behind p s None h = behind-lacks p s (behind p s) refl h
strip_prefix-behind p s (Some x) (n, (is_length, begins, _), is_rest, _) = ap Some is_rest ∙ sym (behind-append p (drop n s)) ∙ ap (behind p) (sym begins)
