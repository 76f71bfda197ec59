-- How a document spells the choices of accessors, buffers and meshes, and which items are read.
use Rattle.std.specs.Prelude.{List, [], ◌∷◌, codes}
use Rattle.gltf_base.specs.Spelling.{Spelling, by_number, by_name}
use Rattle.gltf_base.specs.declared.accessor.ComponentType.{ComponentType}
use Rattle.gltf_base.specs.declared.accessor.ComponentType.TheVariants as component
use Rattle.gltf_base.specs.declared.accessor.GenericComponentType.{GenericComponentType}
use Rattle.gltf_base.specs.declared.accessor.IndexComponentType.{IndexComponentType}
use Rattle.gltf_base.specs.declared.accessor.AccessorType.{AccessorType}
use Rattle.gltf_base.specs.declared.accessor.AccessorType.TheVariants as accessor_type
use Rattle.gltf_base.specs.declared.buffer.Target.{Target}
use Rattle.gltf_base.specs.declared.buffer.Target.TheVariants as target
use Rattle.gltf_base.specs.declared.mesh.Mode.{Mode}
use Rattle.gltf_base.specs.declared.mesh.Mode.TheVariants as mode

-- glTF 2.0, section 5.1.3: accessor.componentType
abbrev pub component_type_spelling : ComponentType → Spelling
component_type_spelling component.I8 = by_number 5120
component_type_spelling component.U8 = by_number 5121
component_type_spelling component.I16 = by_number 5122
component_type_spelling component.U16 = by_number 5123
component_type_spelling component.U32 = by_number 5125
component_type_spelling component.F32 = by_number 5126

abbrev pub generic_component_type_spelling : GenericComponentType → Spelling
generic_component_type_spelling c = component_type_spelling c.0

abbrev pub generic_component_types : List GenericComponentType
generic_component_types =
    record { 0 = component.I8 } ∷ record { 0 = component.U8 } ∷ record { 0 = component.I16 }
    ∷ record { 0 = component.U16 } ∷ record { 0 = component.U32 } ∷ record { 0 = component.F32 } ∷ []

-- glTF 2.0, section 5.3.3: accessor.sparse.indices.componentType; whatever it holds is spelled, and
-- fewer types are read
abbrev pub index_component_type_spelling : IndexComponentType → Spelling
index_component_type_spelling c = component_type_spelling c.0

abbrev pub index_component_types : List IndexComponentType
index_component_types = record { 0 = component.U8 } ∷ record { 0 = component.U16 } ∷ record { 0 = component.U32 } ∷ []

-- glTF 2.0, section 5.1.6: accessor.type
abbrev pub accessor_type_spelling : AccessorType → Spelling
accessor_type_spelling accessor_type.Scalar = by_name (codes "SCALAR")
accessor_type_spelling accessor_type.Vec2 = by_name (codes "VEC2")
accessor_type_spelling accessor_type.Vec3 = by_name (codes "VEC3")
accessor_type_spelling accessor_type.Vec4 = by_name (codes "VEC4")
accessor_type_spelling accessor_type.Mat2 = by_name (codes "MAT2")
accessor_type_spelling accessor_type.Mat3 = by_name (codes "MAT3")
accessor_type_spelling accessor_type.Mat4 = by_name (codes "MAT4")

abbrev pub accessor_types : List AccessorType
accessor_types =
    accessor_type.Scalar ∷ accessor_type.Vec2 ∷ accessor_type.Vec3 ∷ accessor_type.Vec4
    ∷ accessor_type.Mat2 ∷ accessor_type.Mat3 ∷ accessor_type.Mat4 ∷ []

-- glTF 2.0, section 5.11.5: bufferView.target
abbrev pub target_spelling : Target → Spelling
target_spelling target.ArrayBuffer = by_number 34962
target_spelling target.ElementArrayBuffer = by_number 34963

abbrev pub targets : List Target
targets = target.ArrayBuffer ∷ target.ElementArrayBuffer ∷ []

-- glTF 2.0, section 5.24.4: mesh.primitive.mode
abbrev pub mode_spelling : Mode → Spelling
mode_spelling mode.Points = by_number 0
mode_spelling mode.Lines = by_number 1
mode_spelling mode.LineLoop = by_number 2
mode_spelling mode.LineStrip = by_number 3
mode_spelling mode.Triangles = by_number 4
mode_spelling mode.TriangleStrip = by_number 5
mode_spelling mode.TriangleFan = by_number 6

abbrev pub modes : List Mode
modes =
    mode.Points ∷ mode.Lines ∷ mode.LineLoop ∷ mode.LineStrip ∷ mode.Triangles ∷
    mode.TriangleStrip ∷ mode.TriangleFan ∷ []
