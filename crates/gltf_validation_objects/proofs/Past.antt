-- Past its last move a checklist is over.
use Rattle.std.proofs.Common.{◌≡◌, ℕ, zero, suc, ◌+◌, ◌≤◌, List, [], ◌∷◌, length, Option, Some, None, refl, arith}
use Rattle.gltf_base.specs.declared.validation.Error.{Error}
use Rattle.gltf_validation_objects.specs.Checklist.{Checklists, place, nothing, below, fault_list, move_at, over}

-- how many steps down a checklist has
abbrev pub counts : Checklists → ℕ
counts nothing = 0
counts (below s p ps) = suc (counts ps)

pub past : (ps : Checklists) (es : List Error) (n : ℕ) → counts ps + length es ≤ n → over ≡ move_at (place ps es) n
past nothing [] zero l = refl
past nothing [] (suc n) l = past nothing [] n (omega arith)
past nothing (e ∷ es) zero l = absurd (omega arith)
past nothing (e ∷ es) (suc n) l = past nothing es n (omega arith)
past (below s p ps) es zero l = absurd (omega arith)
past (below s p ps) es (suc n) l = past ps es n (omega arith)

-- one thing at most was found
pub at_most_one_fault : (e : Option Error) → length (fault_list e) ≤ 1
at_most_one_fault None = omega arith
at_most_one_fault (Some error) = omega arith
