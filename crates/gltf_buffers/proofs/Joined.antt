-- Pieces that are appended one after the other.
use Rattle.std.proofs.Common.{◌≡◌, ℕ, zero, suc, ◌≤◌, ◌+◌, List, [], ◌∷◌, ◌++◌, length, refl, ◌∙◌, ap, arith, append_assoc, length-append, replicate, take}
use Rattle.std.proofs.lemmas.List.{length-replicate}
use Rattle.gltf_buffers.specs.Writing.{padding_of, padded}

pub padding_short : (n : ℕ) → padding_of n ≤ 3
padding_short n = omega arith

pub length_padded : (fill : ℕ) (content : List ℕ) → length (padded fill content) ≡ length content + padding_of (length content)
length_padded fill content = length-append content (replicate (padding_of (length content)) fill) ∙ ap (λ n. length content + n) (length-replicate (padding_of (length content)) fill)

pub take_fill : (fill p : ℕ) → p ≤ 3 → take p (fill ∷ fill ∷ fill ∷ []) ≡ replicate p fill
take_fill fill zero h = refl
take_fill fill (suc zero) h = refl
take_fill fill (suc (suc zero)) h = refl
take_fill fill (suc (suc (suc zero))) h = refl
take_fill fill (suc (suc (suc (suc p)))) h = absurd (omega (arith, h))

pub joined : (old x1 x2 x3 x4 a b c d : List ℕ) → a ≡ old ++ x1 → b ≡ a ++ x2 → c ≡ b ++ x3 → d ≡ c ++ x4 → d ≡ old ++ ((x1 ++ x2) ++ (x3 ++ x4))
joined old x1 x2 x3 x4 a b c d e1 e2 e3 e4 = e4 ∙ ap (λ y. y ++ x4) e3 ∙ ap (λ y. (y ++ x3) ++ x4) e2 ∙ ap (λ y. ((y ++ x2) ++ x3) ++ x4) e1 ∙ simp append_assoc
