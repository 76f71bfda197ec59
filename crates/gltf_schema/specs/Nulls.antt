-- Kinds as they are written without nulls: where the legend writes null for an absent member, the
-- member is left out, as the format asks. What is read is the same.
use Rattle.gltf_schema.specs.Kind.{Mark, optional, or_null, Kind, ListOf, Object, Rows, no_rows, row}

abbrev pub mark_without_null : Mark → Mark
mark_without_null or_null = optional
mark_without_null mark = mark

abbrev mutual
  -- the kind, where a member that may be missing is written if it is there, and else left out
  pub without_nulls : Kind → Kind
  without_nulls (ListOf kind) = ListOf (without_nulls kind)
  without_nulls (Object rule rows keeps) = Object rule (rows_without_nulls rows) keeps
  without_nulls kind = kind

  pub rows_without_nulls : Rows → Rows
  rows_without_nulls no_rows = no_rows
  rows_without_nulls (row n mark kind rows) = row n (mark_without_null mark) (without_nulls kind) (rows_without_nulls rows)
