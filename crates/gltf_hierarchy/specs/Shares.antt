-- What holds while nodes get their numbers.
use Rattle.std.specs.Prelude.{◌≡◌, ℕ, ◌+◌, ◌<◌, ◌≤◌, List, length, slice_get, Option, Some, None, ◌⊎◌, sum}
use Rattle.std.proofs.Common.{get_or}

-- the parent, or for a root the number behind the last of so many nodes
abbrev pub above : ℕ → Option ℕ → ℕ
above count None = count
above count (Some p) = p

abbrev pub above_of : List (Option ℕ) → ℕ → ℕ
above_of parents n = above (length parents) (get_or parents n None)

-- one range of numbers ends before the other begins
abbrev pub AreApart : ℕ → ℕ → ℕ → ℕ → Type 0
AreApart first size other other_size = (first + size ≤ other) ⊎ (other + other_size ≤ first)

-- the nodes from a place of the order on have their shares in the nodes above them
pub record AreShares (parents : List (Option ℕ)) (order sizes offsets : List ℕ) (bound : ℕ) : Type 0 where
  pub sizes_len : length sizes ≡ length parents + 1
  pub offsets_len : length offsets ≡ length parents + 1
  pub some : (n : ℕ) → n < length parents + 1 → 0 < get_or sizes n 0
  pub behind : (i n : ℕ) → bound ≤ i → slice_get order i ≡ Some n → 0 < get_or offsets n 0
  pub within : (i n : ℕ) → bound ≤ i → slice_get order i ≡ Some n → get_or offsets n 0 + get_or sizes n 0 ≤ get_or sizes (above_of parents n) 0
  pub apart : (i j m n : ℕ) → bound ≤ i → bound ≤ j → slice_get order i ≡ Some m → slice_get order j ≡ Some n → (m ≡ n → ⊥) → above_of parents m ≡ above_of parents n → AreApart (get_or offsets m 0) (get_or sizes m 0) (get_or offsets n 0) (get_or sizes n 0)

-- what the nodes before a place of the order have makes the number of all nodes, and 1
pub record AreHeld (parents : List (Option ℕ)) (order sizes : List ℕ) (bound : ℕ) : Type 0 where
  pub held : List ℕ
  pub len : length held ≡ length parents + 1
  pub total : sum held ≡ length parents + 1
  pub top : get_or held (length parents) 0 ≡ get_or sizes (length parents) 0
  pub before : (i n : ℕ) → i < bound → slice_get order i ≡ Some n → get_or held n 0 ≡ get_or sizes n 0

-- the nodes before a place of the order have their numbers
pub record AreFirstsBefore (parents : List (Option ℕ)) (order sizes offsets firsts : List ℕ) (bound : ℕ) : Type 0 where
  pub len : length firsts ≡ length parents + 1
  pub top : get_or firsts (length parents) 0 ≡ 0
  pub each : (i n : ℕ) → i < bound → slice_get order i ≡ Some n → get_or firsts n 0 ≡ get_or firsts (above_of parents n) 0 + get_or offsets n 0
  pub small : (i n : ℕ) → i < bound → slice_get order i ≡ Some n → get_or firsts n 0 + get_or sizes n 0 ≤ get_or sizes (length parents) 0

abbrev pub AreFirsts : List (Option ℕ) → List ℕ → List ℕ → Type 0
AreFirsts parents offsets firsts = (n : ℕ) → n < length parents → get_or firsts n 0 ≡ get_or firsts (above_of parents n) 0 + get_or offsets n 0

-- the range of each node is in that of the node above, and those of two nodes below one are apart
pub record AreRanges (parents : List (Option ℕ)) (firsts sizes : List ℕ) : Type 0 where
  pub some : (n : ℕ) → n < length parents → 0 < get_or sizes n 0
  pub later : (n : ℕ) → n < length parents → get_or firsts (above_of parents n) 0 < get_or firsts n 0
  pub within : (n : ℕ) → n < length parents → get_or firsts n 0 + get_or sizes n 0 ≤ get_or firsts (above_of parents n) 0 + get_or sizes (above_of parents n) 0
  pub apart : (m n : ℕ) → m < length parents → n < length parents → (m ≡ n → ⊥) → above_of parents m ≡ above_of parents n → AreApart (get_or firsts m 0) (get_or sizes m 0) (get_or firsts n 0) (get_or sizes n 0)
