-- What a refused push hands back, and what its error prints.
use Rattle.std.specs.Prelude.{◌≡◌, ℕ, List, codes}
use Rattle.gltf_base.specs.declared.index.PushError.{PushError}
use Rattle.gltf_base.specs.declared.index.PushError.TheVariants.{Full, Memory}

-- the error holds the item
abbrev pub IsHandedBack : {X : Type 0} → X → PushError X → Type 0
IsHandedBack item (Full x) = x ≡ item
IsHandedBack item (Memory x) = x ≡ item

-- the item isn't printed
abbrev pub push_error_text : {X : Type 0} → PushError X → List ℕ
push_error_text (Full x) = codes "List is full"
push_error_text (Memory x) = codes "Out of memory"
