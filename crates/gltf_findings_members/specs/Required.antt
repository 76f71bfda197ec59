-- Members that the format requires and the ported crate doesn't: the table reads an object without them.
use Rattle.std.specs.Prelude.{ℕ, ◌+◌, List, [], ◌∷◌, ◌++◌, ◌&&◌, is_some, is_none, if◌then◌else◌, Option, Some, None, codes}
use Rattle.serde_json.specs.Data as json
use Rattle.serde_json.specs.Data.{Data, Items}
use Rattle.serde_json.specs.Find.{get, as_object}
use Rattle.gltf_base.specs.Steps.{Step, field, item}
use Rattle.gltf_findings_codes.specs.declared.code.Code.{Code}
use Rattle.gltf_findings_codes.specs.declared.code.Code.TheVariants.{UndefinedProperty}
use Rattle.gltf_findings_members.specs.Noted.{Noted, maybe_note}
use Rattle.gltf_findings_members.specs.Uses.{items_at}

abbrev pub lacking_code : List ℕ → Data → Option Code
lacking_code n d = if is_some (as_object d) && is_none (get n d) then Some UndefinedProperty else None

-- the items, from the one of number i on, that are objects without the member
abbrev pub lacking_notices : List Step → List ℕ → ℕ → Items → List Noted
lacking_notices at n i json.no_items = []
lacking_notices at n i (json.item d ds) = maybe_note ((at ++ item i ∷ []) ++ field n ∷ []) (lacking_code n d) ++ lacking_notices at n (i + 1) ds

abbrev pub lacking_in : List Step → List ℕ → Option Items → List Noted
lacking_in at n None = []
lacking_in at n (Some ds) = lacking_notices at n 0 ds

abbrev pub required_in : List Step → List ℕ → List ℕ → Data → List Noted
required_in at list n d = lacking_in (at ++ field list ∷ []) n (items_at list d)

-- sections 5.5.1 and 5.5.2, 5.10.2, and 5.28.3
abbrev pub required_notices : List Step → Data → List Noted
required_notices at d =
    required_in at (codes "animations") (codes "channels") d
    ++ required_in at (codes "animations") (codes "samplers") d
    ++ required_in at (codes "buffers") (codes "byteLength") d
    ++ required_in at (codes "skins") (codes "joints") d
