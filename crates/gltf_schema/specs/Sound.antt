-- Kinds whose rows fit together: what they read is plain, is written, and is read back.
use Rattle.std.specs.Prelude.{Bool, true, false, not, ◌&&◌, is_some, codes}
use Rattle.std.specs.Str.{bytes_eq}
use Rattle.gltf_base.specs.Lists.{ListName}
use Rattle.gltf_schema.specs.Kind.{Mark, always, unless, Kind, Attributes, ListOf, Object, Rows, no_rows, row, has_row, Rule, no_rule, needs_data, needs_projection, needs_cone, needs_positions, requires_enabled, holds_samplers}
use Rattle.gltf_schema.specs.Write.{write}
use Rattle.gltf_schema.specs.Plain.{is_plain}

-- a default is itself plain
abbrev pub has_plain_default : Mark → Kind → Bool
has_plain_default (always t) kind = is_plain kind t
has_plain_default (unless t) kind = is_plain kind t
has_plain_default _ kind = true

-- a default can be written
abbrev pub has_written_default : Mark → Kind → Bool
has_written_default (always t) kind = is_some (write kind t)
has_written_default (unless t) kind = is_some (write kind t)
has_written_default _ kind = true

-- the first row is named `attributes`, and has indexes of accessors: those of primitives begin so
abbrev pub has_attributes : Rows → Bool
has_attributes (row name mark (Attributes ListName.accessors) rows) = bytes_eq name (codes "attributes")
has_attributes rows = false

-- the rows have what the rule looks up in the document: only that of primitives looks up an index
abbrev pub suits : Rule → Rows → Bool
suits no_rule rows = true
suits needs_data rows = true
suits needs_projection rows = true
suits needs_cone rows = true
suits needs_positions rows = has_attributes rows
suits requires_enabled rows = true
suits holds_samplers rows = true

abbrev mutual
  -- no object of the kind has two rows of one name, each default is plain and can be written, and
  -- each rule has its row
  pub is_sound : Kind → Bool
  is_sound (ListOf kind) = is_sound kind
  is_sound (Object rule rows keeps) = suits rule rows && are_sound rows
  is_sound _ = true

  pub are_sound : Rows → Bool
  are_sound no_rows = true
  are_sound (row n mark kind rows) = not (has_row n rows) && has_plain_default mark kind && has_written_default mark kind && is_sound kind && are_sound rows
