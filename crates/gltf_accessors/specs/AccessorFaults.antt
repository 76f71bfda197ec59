-- The parts of an accessor: its view, and the elements that deviate (glTF 2.0, section 5.1).
use Rattle.std.specs.Prelude.{◌≡◌, ◌≢◌, ℕ}
use Rattle.gltf_accessors.specs.declared.fault.AccessorFault.{AccessorFault}
use Rattle.gltf_accessors.specs.declared.fault.AccessorFault.TheVariants.{Count, SparseCount}

-- why parts are not those of an accessor of `count` elements, first: by how many elements the view has, and of how many some deviate
abbrev pub IsAccessorFault : ℕ → ℕ → ℕ → AccessorFault → Type 0
IsAccessorFault count view sparse Count = view ≢ count
IsAccessorFault count view sparse SparseCount = (view ≡ count) × (sparse ≢ count)
