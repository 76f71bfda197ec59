-- Bytes of elements (glTF 2.0, sections 3.6.2.2 and 3.6.2.4).
use Rattle.std.specs.Prelude.{ℕ, ◌*◌, ◌+◌, ◌/◌}
use Rattle.gltf_base.specs.declared.accessor.ComponentType.{ComponentType}
use Rattle.gltf_base.specs.declared.accessor.AccessorType.{AccessorType}
use Rattle.gltf_base.specs.declared.accessor.AccessorType.TheVariants.{Scalar, Vec2, Vec3, Vec4, Mat2, Mat3, Mat4}
use Rattle.gltf_base.specs.Elements.{component_size}

-- an element that is no matrix is one column
abbrev pub columns : AccessorType → ℕ
columns Mat2 = 2
columns Mat3 = 3
columns Mat4 = 4
columns t = 1

abbrev pub rows : AccessorType → ℕ
rows Scalar = 1
rows Vec2 = 2
rows Vec3 = 3
rows Vec4 = 4
rows Mat2 = 2
rows Mat3 = 3
rows Mat4 = 4

abbrev pub up_to_4 : ℕ → ℕ
up_to_4 n = (n + 3) / 4 * 4

-- "start of each column MUST be aligned to 4-byte boundaries": what is missing pads the column's end
abbrev pub column_size : AccessorType → ℕ → ℕ
column_size Mat2 size = up_to_4 (2 * size)
column_size Mat3 size = up_to_4 (3 * size)
column_size Mat4 size = up_to_4 (4 * size)
column_size t size = rows t * size

abbrev pub element_size : AccessorType → ComponentType → ℕ
element_size t c = columns t * column_size t (component_size c)
