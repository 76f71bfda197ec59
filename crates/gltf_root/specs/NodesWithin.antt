-- The nodes of what is inside a value, by the steps that lead to it.
use Rattle.std.specs.Prelude.{ℕ, List, [], ◌∷◌, Option, Some, None, slice_get, if◌then◌else◌}
use Rattle.std.specs.Str.{bytes_eq}
use Rattle.gltf_base.specs.Steps.{Step, field, item}
use Rattle.gltf_schema.specs.Maybe.{◌>>=◌}
use Rattle.gltf_schema.specs.declared.outline.Member.{Member}
use Rattle.gltf_schema.specs.declared.outline.Shape.{Shape}
use Rattle.gltf_schema.specs.declared.outline.Shape.TheVariants as shapes

-- the node of the value of the member of this name
abbrev pub member_value : List ℕ → List Member → Option ℕ
member_value n [] = None
member_value n (m ∷ ms) = if bytes_eq m.name.now n then Some m.value else member_value n ms

-- the node of what a step leads to
abbrev pub node_within : Shape → Step → Option ℕ
node_within (shapes.List j) (item i) = Some j
node_within (shapes.Numbers n j) (item i) = Some j
node_within (shapes.Indexes j) (field n) = Some j
node_within (shapes.Object members keeps) (field n) = member_value n members.items
node_within _ _ = None

-- the node of what is at the end of the steps
abbrev pub node_at : List Shape → ℕ → List Step → Option ℕ
node_at nodes i [] = Some i
node_at nodes i (step ∷ steps) = (slice_get nodes i >>= λ s. node_within s step) >>= λ j. node_at nodes j steps
