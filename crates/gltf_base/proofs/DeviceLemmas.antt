-- What calls of a reader, one after another, do to its known bytes.
use Rattle.std.proofs.Common.{◌≡◌, ℕ, List, [], ◌++◌, append-nil, Option, take, subst, sym}
use Rattle.std.specs.Io.KnownBytes.{Consumes}
use Rattle.std.proofs.KnownBytes.{Consumes-trans, Consumes-nil}

-- nothing was read yet
pub Consumes-start : (a : Option (List ℕ)) (bytes : List ℕ) → bytes ≡ [] → Consumes a a bytes
Consumes-start a bytes e = subst (Consumes a a) (sym e) (Consumes-nil a)

-- one more piece was read
pub Consumes-more : (a b c : Option (List ℕ)) (bytes piece new : List ℕ) → Consumes a b bytes → Consumes b c piece → new ≡ bytes ++ piece → Consumes a c new
Consumes-more a b c bytes piece new p q e = subst (Consumes a c) (sym e) (Consumes-trans a b c bytes piece p q)

-- the call that gave the end gave no byte
pub Consumes-end : (a b c : Option (List ℕ)) (bytes piece : List ℕ) → Consumes a b bytes → Consumes b c (take 0 piece) → Consumes a c bytes
Consumes-end a b c bytes piece p q = subst (Consumes a c) (append-nil bytes) (Consumes-trans a b c bytes [] p q)

pub ruleset reads = (Consumes-start, Consumes-more, Consumes-end)
