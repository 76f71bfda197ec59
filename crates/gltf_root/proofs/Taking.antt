-- What a writer takes of a document that is printed.
use Rattle.std.proofs.Common.{◌≡◌, List, ℕ, Option, Result, Ok, Err, IfOk, OnOk, subst}
use Rattle.std.specs.Io.KnownBytes.{Appends}
use Rattle.gltf_base.specs.declared.error.Error.{Error}
use Rattle.gltf_base.specs.Device.{AppendsFront}

-- the bytes that a writer took are those that were printed
pub taken : {X : Type 0} (IsText Reads : List ℕ → Type 0) (old new : Option (List ℕ)) (bytes held : List ℕ) (r : Result X Error)
    → held ≡ bytes → IsText bytes → Reads bytes → OnOk r (Appends old new held) → IfOk r (λ _. (ys : List ℕ) × IsText ys × Reads ys × Appends old new ys)
taken IsText Reads old new bytes held (Ok x) same printed back whole = (bytes, printed, back, subst (Appends old new) same whole)
taken IsText Reads old new bytes held (Err e) same printed back whole = tt

-- and a front of them if it failed
pub taken_front : (old new : Option (List ℕ)) (bytes held : List ℕ) → held ≡ bytes → AppendsFront old new held → AppendsFront old new bytes
taken_front old new bytes held same front = subst (AppendsFront old new) same front
