-- The rows that most objects end in, and extension objects that have no rows.
use Rattle.std.specs.Prelude.{true, false, codes}
use Rattle.gltf_schema.specs.Kind.{optional, Kind, Any, Object, Rows, no_rows, ◌◂◌, no_rule}

-- unknown extensions are kept
abbrev pub kept_extensions : Kind
kept_extensions = Object no_rule no_rows true

-- unknown extensions are dropped
abbrev pub dropped_extensions : Kind
dropped_extensions = Object no_rule no_rows false

-- an object's extensions, and what an application adds of its own (glTF 2.0, sections 5.15 and
-- 5.16)
abbrev pub extensions_and_extras : Kind → Rows
extensions_and_extras kind =
    (codes "extensions", optional, kind)
    ◂ (codes "extras", optional, Any)
    ◂ no_rows
