-- What a document ends as where one of its lists is lent for writing.
use Rattle.std.specs.Prelude.{Option}
use Rattle.std.specs.Borrow.{Lends, LendsIf, Fml, RattleType, MutBor}
use Rattle.std.specs.contracts.alloc.Global as global
use Rattle.std.specs.contracts.vec.Vec as vec
use Rattle.std.specs.contracts.impls.GlobalAllocator.TheImpl.{ghosts}

-- a list of items, as the logic holds it
abbrev pub list_row : RattleType → RattleType
list_row T = vec.the_row T global.the_row ghosts

-- it ends with the list that was left in place of its own
abbrev pub lends : (R T : RattleType) → ((list_row T).Denot → R.Denot → R.Denot) → MutBor R.Denot → MutBor (list_row T).Denot → Fml
lends R T put s r = Lends R (list_row T) s r (λ w. put w s.now)

-- the same, or as it was where none was lent
abbrev pub lends_list : (R T : RattleType) → ((list_row T).Denot → R.Denot → R.Denot) → MutBor R.Denot → Option (MutBor (list_row T).Denot) → Fml
lends_list R T put s r = LendsIf R (list_row T) s r (λ w. put w s.now) s.now
