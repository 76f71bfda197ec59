-- What readers and writers show of their calls, and how reading to the end may end.
use Rattle.std.specs.Prelude.{◌≡◌, ℕ, ◌-◌, ◌^◌, ◌<◌, ◌≤◌, ◌⊎◌, min, List, length, take, Bool, true, false, Option, ⊤}
use Rattle.std.specs.Io.KnownBytes.{Appends, Consumes, IsAtEnd}
use Rattle.gltf_base.specs.declared.error.Error.{Error}
use Rattle.gltf_base.specs.declared.error.Error.TheVariants as errors

-- a count that stops at the largest number of 64 bits
abbrev pub saturated : ℕ → ℕ
saturated n = min n (2 ^ 64 - 1)

-- what a reader's calls have shown: whether one failed, how many there were, how many bytes they
-- gave, and whether the last one gave the end
pub record Seen : Type 0 where
  pub has_failed : Bool
  pub calls : ℕ
  pub given : ℕ
  pub has_ended : Bool

-- no call has shown anything yet
pub record IsFresh (seen : Seen) : Type 0 where
  pub works : seen.has_failed ≡ false
  pub uncalled : seen.calls ≡ 0
  pub nothing_given : seen.given ≡ 0
  pub going_on : seen.has_ended ≡ false

-- the reader gave these bytes, and has none left
pub record IsReadToEnd (old new : Option (List ℕ)) (bytes : List ℕ) : Type 0 where
  pub gives : Consumes old new bytes
  pub at_end : IsAtEnd new

-- a reader that was fresh gave its end within the limits
pub record IsWithin (bytes calls : ℕ) (seen : Seen) : Type 0 where
  pub works : seen.has_failed ≡ false
  pub ended : seen.has_ended ≡ true
  pub short : seen.given ≤ bytes
  pub soon : seen.calls ≤ calls

-- a reader that was fresh gave too many bytes, or not its end in all its calls
pub record IsPastLimit (bytes calls : ℕ) (seen : Seen) : Type 0 where
  pub works : seen.has_failed ≡ false
  pub past : (bytes < seen.given) ⊎ ((seen.calls ≡ calls) × (seen.has_ended ≡ false))

-- why reading a reader that was fresh was given up: it failed, or memory was refused when it had
-- not failed, or a limit was passed
abbrev pub IsCause : ℕ → ℕ → Seen → Error → Type 0
IsCause bytes calls seen errors.Read = seen.has_failed ≡ true
IsCause bytes calls seen (errors.Memory e) = seen.has_failed ≡ false
IsCause bytes calls seen errors.TooLong = IsPastLimit bytes calls seen
IsCause bytes calls seen _ = ⊥

-- the errors for which reading is given up
abbrev pub IsReadError : Error → Type 0
IsReadError errors.Read = ⊤
IsReadError (errors.Memory e) = ⊤
IsReadError errors.TooLong = ⊤
IsReadError _ = ⊥

-- reading was given up for one of its errors, and of a fresh reader for its cause
pub record GaveUp (bytes calls : ℕ) (old new : Seen) (error : Error) : Type 0 where
  pub kind : IsReadError error
  pub cause : IsFresh old → IsCause bytes calls new error

-- the known bytes grow by a prefix of these
pub record AppendsFront (old new : Option (List ℕ)) (bytes : List ℕ) : Type 0 where
  pub count : ℕ
  pub within : count ≤ length bytes
  pub appends : Appends old new (take count bytes)
