-- What a document is of which nothing of some kind is found.
use Rattle.std.specs.Prelude.{ℕ, List, Bool, true, false, Option}
use Rattle.gltf_parts.specs.declared.accessor.Accessor.{Accessor}
use Rattle.gltf_layout.specs.declared.span.AccessorLayout.{AccessorLayout}
use Rattle.gltf_layout.specs.declared.place.Location.{Location}
use Rattle.gltf_layout.specs.Stored.{Stored}
use Rattle.gltf_layout.specs.Places.{HasElements, LieInNamed}
use Rattle.gltf_load.specs.Documents.{stored_in, stored_accessor}
use Rattle.gltf_root.specs.declared.root.Root.{Root}
use Rattle.gltf_findings_codes.specs.declared.code.Code.{Code}
use Rattle.gltf_findings_codes.specs.declared.code.Code.TheVariants.{UnresolvedReference, ValueNotInList, ValueNotInRange, ValueMultipleOf, BufferViewTooLong, AccessorOffsetAlignment, AccessorTotalOffsetAlignment, AccessorSmallBytestride, AccessorTooLong, DuplicateElements, NodeParentOverride, NodeLoop}

-- the codes of what keeps elements from lying in their views
abbrev pub is_of_layout : Code → Bool
is_of_layout UnresolvedReference = true
is_of_layout ValueNotInList = true
is_of_layout ValueNotInRange = true
is_of_layout ValueMultipleOf = true
is_of_layout BufferViewTooLong = true
is_of_layout AccessorOffsetAlignment = true
is_of_layout AccessorTotalOffsetAlignment = true
is_of_layout AccessorSmallBytestride = true
is_of_layout AccessorTooLong = true
is_of_layout _ = false

-- the codes of what keeps nodes from being disjoint strict trees
abbrev pub is_of_hierarchy : Code → Bool
is_of_hierarchy UnresolvedReference = true
is_of_hierarchy DuplicateElements = true
is_of_hierarchy NodeParentOverride = true
is_of_hierarchy NodeLoop = true
is_of_hierarchy _ = false

-- what the buffers, views and accessors of a document say
abbrev pub stored_of : Root → Stored
stored_of r = stored_in r.buffers.items r.buffer_views.items r.accessors.items

-- an accessor has elements of valid types, and if it names a view, they lie in it
abbrev pub LiesInView : Root → Accessor → Type 0
LiesInView r a = (l : AccessorLayout) × HasElements (stored_accessor a) l × ((at : Option Location) × LieInNamed (stored_of r) (stored_accessor a).view l at)
