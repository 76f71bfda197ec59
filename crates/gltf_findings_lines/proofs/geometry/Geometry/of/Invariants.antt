use Rattle.std.proofs.Common.{◌≡◌, drop}
use Rattle.gltf_findings_lines.specs.Geometry.{geometry_of, with_meshes}
use Rattle.gltf_findings_lines.proofs.geometry.Geometry.of.Given as goal

-- what the meshes that are left add gives all
abbrev pub invariant-loop-mesh : goal.invariant-loop-mesh
invariant-loop-mesh l = with_meshes l.accessors l.geometry (drop l.mesh-index l.meshes) ≡ geometry_of l.accessors l.meshes
