-- The results of calls that read or write; each may also fail with `Memory`.
use Rattle.std.specs.Prelude.{◌≡◌, Bool, true, Option, Some, None, Result, Ok, Err, List, [], ◌∷◌, ◌++◌, ⊤}
use Rattle.gltf_base.specs.declared.error.Error.{Error}
use Rattle.gltf_base.specs.declared.error.Error.TheVariants as errors

-- only what reads nothing is refused, and as no glTF
abbrev pub Refuses : {Y : Type 0} → Error → Option Y → Type 0
Refuses (errors.Memory e) read = ⊤
Refuses errors.Schema read = read ≡ None
Refuses _ read = ⊥

-- the value, seen by view, is what reading gives
abbrev pub Reads : {X Y : Type 0} → (X → Y) → Result X Error → Option Y → Type 0
Reads view (Ok x) read = read ≡ Some (view x)
Reads view (Err e) read = Refuses e read

-- what reading gives, seen by view, is pushed onto the items; an error leaves them as they were
abbrev pub ReadsOnto : {X Y U : Type 0} → (X → Y) → List X → Result U Error → List X → Option Y → Type 0
ReadsOnto {X} view before (Ok u) after read = (x : X) × (after ≡ before ++ x ∷ []) × (read ≡ Some (view x))
ReadsOnto view before (Err e) after read = (after ≡ before) × Refuses e read

-- only what is not written since something in it is invalid is refused, and as an invalid item
abbrev pub Withholds : {Y : Type 0} → Error → Option Y → Bool → Type 0
Withholds (errors.Memory e) written is_invalid = ⊤
Withholds errors.InvalidItem written is_invalid = (written ≡ None) × (is_invalid ≡ true)
Withholds _ written is_invalid = ⊥

-- the value, seen by view, is what is written; or something is invalid
abbrev pub Writes : {X Y : Type 0} → (X → Y) → Result X Error → Option Y → Bool → Type 0
Writes view (Ok x) written is_invalid = written ≡ Some (view x)
Writes view (Err e) written is_invalid = Withholds e written is_invalid
