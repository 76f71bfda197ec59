-- Items that nothing uses.
use Rattle.std.specs.Prelude.{ℕ, List, [], ◌∷◌, Bool, not, ◌&&◌, is_some}
use Rattle.gltf_scene.specs.declared.mesh.Mesh.{Mesh}
use Rattle.gltf_findings_codes.specs.declared.code.Code.TheVariants.{UnusedObject, UnusedMeshWeights}
use Rattle.gltf_findings_codes.specs.declared.name.Name.{Name}
use Rattle.gltf_findings_codes.specs.declared.name.Name.TheVariants.{Meshes, Weights}
use Rattle.gltf_findings_codes.specs.declared.finding.Object.TheVariants.{Item}
use Rattle.gltf_findings_codes.specs.declared.finding.Subject.TheVariants.{Object, Member}
use Rattle.gltf_findings_codes.specs.declared.finding.Finding.{Finding}
use Rattle.gltf_findings_codes.specs.Found.{broken, found}
use Rattle.gltf_findings_codes.specs.Marks.{is_marked}

abbrev pub unused_findings : Name → List Bool → ℕ → List Finding
unused_findings list marks n = found (broken (not (is_marked marks n)) UnusedObject (Object (Item list n)) ∷ [])

-- section 3.7.2.2: the weights of a mesh are those of each node that names it and has none
abbrev pub weight_findings : List Bool → List Bool → ℕ → Mesh → List Finding
weight_findings used defaults n m = found (broken ((is_some m.weights && is_marked used n) && not (is_marked defaults n)) UnusedMeshWeights (Member (Item Meshes n) Weights) ∷ [])
