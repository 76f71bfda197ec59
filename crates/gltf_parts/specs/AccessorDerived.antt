-- Written by tools/derive.py from crates/gltf_parts/specs/Accessor.antt,
-- crates/gltf_parts/src/accessor/sparse.rt and crates/gltf_parts/src/accessor.rt. Do not edit.
use Rattle.gltf_parts.specs.Accessor.{accessor_kind, accessor_rows, sparse_indices_kind, sparse_indices_rows, sparse_kind, sparse_rows, sparse_values_kind, sparse_values_rows}
use Rattle.gltf_schema.specs.Height.{IsHigh}
use Rattle.gltf_schema.specs.Nulls.{without_nulls}
use Rattle.gltf_schema.specs.Sound.{is_sound}
use Rattle.std.specs.Prelude.{refl, true, ◌≡◌}

pub sparse_indices_sound : is_sound sparse_indices_kind ≡ true
unfolding sparse_indices_rows
sparse_indices_sound = refl

pub sparse_values_sound : is_sound sparse_values_kind ≡ true
unfolding sparse_values_rows
sparse_values_sound = refl

pub sparse_sound : is_sound sparse_kind ≡ true
unfolding sparse_rows
sparse_sound = rw (sparse_indices_sound, sparse_values_sound) refl

pub accessor_sound : is_sound accessor_kind ≡ true
unfolding accessor_rows
accessor_sound = rw sparse_sound refl

pub accessor_no_nulls : without_nulls accessor_kind ≡ accessor_kind
unfolding accessor_rows sparse_rows sparse_indices_rows sparse_values_rows
accessor_no_nulls = refl

pub sparse_indices_height : IsHigh 1 sparse_indices_kind
unfolding sparse_indices_rows
sparse_indices_height = (refl, refl)

pub sparse_values_height : IsHigh 1 sparse_values_kind
unfolding sparse_values_rows
sparse_values_height = (refl, refl)

pub sparse_height : IsHigh 2 sparse_kind
unfolding sparse_rows
sparse_height = rw (sparse_indices_height.0, sparse_indices_height.1, sparse_values_height.0, sparse_values_height.1) (refl, refl)

pub accessor_height : IsHigh 3 accessor_kind
unfolding accessor_rows
accessor_height = rw (sparse_height.0, sparse_height.1) (refl, refl)
