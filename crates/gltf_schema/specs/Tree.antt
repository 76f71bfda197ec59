-- What a value of the table is, without where it lies in memory.
use Rattle.std.specs.Prelude.{ℕ, zero, suc, List, [], ◌∷◌, Bool, true, false, Option, Some, None}
use Rattle.serde_json.specs.Data.{Num, Data, Members}
use Rattle.gltf_base.specs.Keys.{Key}
use Rattle.gltf_base.specs.Spelling.{Spelling}

mutual
  pub data Tree : Type 0 where
    absent : Tree
    whole : ℕ → Tree
    number : Num → Tree
    numbers : List Num → Tree
    text : List ℕ → Tree
    truth : Bool → Tree
    any : Data → Tree
    chosen : Spelling → Tree
    invalid : Tree
    index : ℕ → Tree
    list : Trees → Tree
    attributes : List (Key × ℕ) → Tree
    -- the members in the rows' order, and the members that no row names
    object : Trees → Members → Tree

  pub data Trees : Type 0 where
    end : Trees
    with_tree : Tree → Trees → Trees

abbrev pub trees : List Tree → Trees
trees [] = end
trees (t ∷ ts) = with_tree t (trees ts)

abbrev pub tree_or_absent : {X : Type 0} → (X → Tree) → Option X → Tree
tree_or_absent f None = absent
tree_or_absent f (Some x) = f x

abbrev pub is_absent : Tree → Bool
is_absent absent = true
is_absent _ = false

-- the tree at a number
abbrev pub tree_at : ℕ → Trees → Tree
tree_at n end = absent
tree_at zero (with_tree t ts) = t
tree_at (suc n) (with_tree t ts) = tree_at n ts

abbrev pub count_of : Trees → ℕ
count_of end = 0
count_of (with_tree t ts) = suc (count_of ts)

abbrev pub items_in : Tree → Trees
items_in (list ts) = ts
items_in _ = end

abbrev pub members_in : Tree → Trees
members_in (object ts others) = ts
members_in _ = end

abbrev pub entries_in : Tree → List (Key × ℕ)
entries_in (attributes es) = es
entries_in _ = []
