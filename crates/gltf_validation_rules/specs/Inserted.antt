-- A list with another one put into it.
use Rattle.std.specs.Prelude.{◌≡◌, List, ◌++◌}

-- the new items are together somewhere in the whole, which else has the old ones in their order
pub record IsInserted {A : Type 0} (old new whole : List A) : Type 0 where
  pub before : List A
  pub after : List A
  pub was : old ≡ before ++ after
  pub now : whole ≡ before ++ (new ++ after)
