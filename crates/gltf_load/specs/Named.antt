-- The nodes that nodes and skins of a document name (glTF 2.0, sections 5.25.2 and 5.28.3).
use Rattle.std.specs.Prelude.{ℕ, List, [], Option, Some, None, map}
use Rattle.std.specs.Global.{Vec}
use Rattle.gltf_base.specs.declared.index.IndexTo.{IndexTo}
use Rattle.gltf_base.specs.Indexes.{index_number}
use Rattle.gltf_scene.specs.declared.scene.Node.{Node}
use Rattle.gltf_scene.specs.declared.skin.Skin.{Skin}

-- the numbers that indexes are; a list that isn't there has none
abbrev pub numbers_in : {P : Type 0} → Option (Vec (IndexTo P)) → List ℕ
numbers_in None = []
numbers_in (Some indexes) = map index_number indexes.items

-- the `children` of each node
abbrev pub children_named : List Node → List (List ℕ)
children_named nodes = map (λ n. numbers_in n.children) nodes

-- the `joints` of a skin
abbrev pub joints_named : Skin → List ℕ
joints_named s = map index_number s.joints.items
