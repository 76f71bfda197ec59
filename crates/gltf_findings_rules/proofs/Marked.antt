-- A mark of a mesh says whether it is skinned.
use Rattle.std.proofs.Common.{◌≡◌, ℕ, zero, suc, List, [], ◌∷◌, refl}
use Rattle.std.specs.Prelude.{slice_get}
use Rattle.gltf_scene.specs.declared.mesh.Mesh.{Mesh}
use Rattle.gltf_findings_codes.specs.Marks.{is_marked}
use Rattle.gltf_findings_rules.specs.Placed.{is_skinned_mesh, skinned_marks}

pub marked_mesh : (meshes : List Mesh) (n : ℕ) → is_marked (skinned_marks meshes) n ≡ is_skinned_mesh (slice_get meshes n)
marked_mesh [] n = refl
marked_mesh (m ∷ ms) zero = refl
marked_mesh (m ∷ ms) (suc n) = marked_mesh ms n
