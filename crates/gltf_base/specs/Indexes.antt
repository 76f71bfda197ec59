-- The number that an index is.
use Rattle.std.specs.Prelude.{ℕ}
use Rattle.gltf_base.specs.declared.index.IndexTo.{IndexTo}

abbrev pub index_number : {P : Type 0} → IndexTo P → ℕ
index_number i = i.0
