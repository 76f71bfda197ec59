-- What a call leaves in the buffer of its caller.
use Rattle.std.specs.Prelude.{◌≡◌, ◌++◌, ℕ, List, length, take, drop}

-- the first bytes of an output are at the front of the buffer, as many as there is room for, and
-- the rest of the buffer is as it was. The number of bytes is that of the whole output
pub record IsFilled (bytes old new : List ℕ) (needed : ℕ) : Type 0 where
  pub counted : needed ≡ length bytes
  pub buffer : new ≡ take (length old) bytes ++ drop (length bytes) old
