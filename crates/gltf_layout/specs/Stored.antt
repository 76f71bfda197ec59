-- What a document says of buffers, buffer views and accessors (glTF 2.0, section 3.6).
use Rattle.std.specs.Prelude.{ℕ, List}
use Rattle.gltf_layout.specs.declared.storage.StoredView.{StoredView}
use Rattle.gltf_layout.specs.declared.storage.StoredAccessor.{StoredAccessor}

-- A number that names one is a place in its list.
pub record Stored : Type 0 where
  -- the `byteLength` of each
  pub buffers : List ℕ
  pub views : List StoredView
  pub accessors : List StoredAccessor
