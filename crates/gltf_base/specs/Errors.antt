-- The text, the code and the rank of each fault.
use Rattle.std.specs.Prelude.{ℕ, List, codes}
use Rattle.gltf_base.specs.declared.validation.Error.{Error}
use Rattle.gltf_base.specs.declared.validation.Error.TheVariants.{IndexOutOfBounds, Invalid, Missing, Oversize, Unsupported}

abbrev pub error_text : Error → List ℕ
error_text IndexOutOfBounds = codes "Index out of bounds"
error_text Invalid = codes "Invalid value"
error_text Missing = codes "Missing data"
error_text Oversize = codes "Size exceeds system limits"
error_text Unsupported = codes "Unsupported extension"

-- the name of the fault for machines
abbrev pub error_code : Error → List ℕ
error_code IndexOutOfBounds = codes "index-out-of-bounds"
error_code Invalid = codes "invalid"
error_code Missing = codes "missing"
error_code Oversize = codes "oversize"
error_code Unsupported = codes "unsupported"

-- the place of the fault in the order of faults
abbrev pub error_rank : Error → ℕ
error_rank IndexOutOfBounds = 0
error_rank Invalid = 1
error_rank Missing = 2
error_rank Oversize = 3
error_rank Unsupported = 4
