-- The steps to the places of findings.
use Rattle.std.specs.Prelude.{ℕ, List, [], ◌∷◌, ◌++◌, codes}
use Rattle.gltf_base.specs.Steps.{Step, field, item}
use Rattle.gltf_findings_codes.specs.declared.name.Name.{Name}
use Rattle.gltf_findings_codes.specs.declared.finding.Object.{Object}
use Rattle.gltf_findings_codes.specs.declared.finding.Object.TheVariants.{Document, Top, Item, Part, Inner, Extended, Nested, NestedPart, Mapping, Light, Spot}
use Rattle.gltf_findings_codes.specs.declared.finding.Subject.{Subject}
use Rattle.gltf_findings_codes.specs.declared.finding.Subject.TheVariants as place
use Rattle.gltf_base.specs.Keys.{key_text}
use Rattle.gltf_findings_codes.specs.Attributes.{attribute_key}
use Rattle.gltf_findings_codes.specs.Names.{name_text}

-- the step to a member
abbrev pub to : Name → Step
to name = field (name_text name)

abbrev pub light_steps : ℕ → List Step
light_steps n = field (codes "extensions") ∷ field (codes "KHR_lights_punctual") ∷ field (codes "lights") ∷ item n ∷ []

abbrev pub object_steps : Object → List Step
object_steps Document = []
object_steps (Top name) = to name ∷ []
object_steps (Item list n) = to list ∷ item n ∷ []
object_steps (Part list n part) = to list ∷ item n ∷ to part ∷ []
object_steps (Inner list n part inner) = to list ∷ item n ∷ to part ∷ to inner ∷ []
object_steps (Extended list n extension part) = to list ∷ item n ∷ field (codes "extensions") ∷ to extension ∷ to part ∷ []
object_steps (Nested list n inner k) = to list ∷ item n ∷ to inner ∷ item k ∷ []
object_steps (NestedPart list n inner k part) = to list ∷ item n ∷ to inner ∷ item k ∷ to part ∷ []
object_steps (Mapping n k j) = field (codes "meshes") ∷ item n ∷ field (codes "primitives") ∷ item k ∷ field (codes "extensions") ∷ field (codes "KHR_materials_variants") ∷ field (codes "mappings") ∷ item j ∷ []
object_steps (Light n) = light_steps n
object_steps (Spot n) = light_steps n ++ field (codes "spot") ∷ []

abbrev pub place_steps : Subject → List Step
place_steps (place.Object o) = object_steps o
place_steps (place.Member o name) = object_steps o ++ to name ∷ []
place_steps (place.Entry o name k) = (object_steps o ++ to name ∷ []) ++ item k ∷ []
place_steps (place.Attribute o a) = object_steps o ++ field (key_text (attribute_key a)) ∷ []
place_steps (place.EntryAttribute o name k a) = ((object_steps o ++ to name ∷ []) ++ item k ∷ []) ++ field (key_text (attribute_key a)) ∷ []

-- the name of the attribute at a place, if it is one
abbrev pub place_name : Subject → List ℕ
place_name (place.Attribute o a) = key_text (attribute_key a)
place_name (place.EntryAttribute o name k a) = key_text (attribute_key a)
place_name _ = []
