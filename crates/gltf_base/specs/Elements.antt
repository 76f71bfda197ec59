-- What the elements of an accessor are made of (glTF 2.0, section 3.6.2.2).
use Rattle.std.specs.Prelude.{ℕ}
use Rattle.gltf_base.specs.declared.accessor.ComponentType.{ComponentType}
use Rattle.gltf_base.specs.declared.accessor.ComponentType.TheVariants as component
use Rattle.gltf_base.specs.declared.accessor.AccessorType.{AccessorType}
use Rattle.gltf_base.specs.declared.accessor.AccessorType.TheVariants as accessor_type

-- how many bytes a component takes
abbrev pub component_size : ComponentType → ℕ
component_size component.I8 = 1
component_size component.U8 = 1
component_size component.I16 = 2
component_size component.U16 = 2
component_size component.U32 = 4
component_size component.F32 = 4

-- how many components an element has
abbrev pub component_count : AccessorType → ℕ
component_count accessor_type.Scalar = 1
component_count accessor_type.Vec2 = 2
component_count accessor_type.Vec3 = 3
component_count accessor_type.Vec4 = 4
component_count accessor_type.Mat2 = 4
component_count accessor_type.Mat3 = 9
component_count accessor_type.Mat4 = 16
