-- What a layout holds.
use Rattle.std.specs.Prelude.{◌≡◌, ℕ, ◌<◌, ◌≤◌, List, length, slice_get, Some, None}
use Rattle.gltf_layout.specs.declared.layout.Layout.{Layout}
use Rattle.gltf_layout.specs.declared.place.Place.{Place}

-- the place of each accessor
abbrev pub layout_places : Layout → List Place
layout_places l = l.places.items

-- section 5.1.1: "When undefined, the accessor MUST be initialized with zeros", so no view bounds `count`.
-- Each of the first accessors without a view has at most so many elements.
abbrev pub AreZerosBelow : List Place → ℕ → ℕ → Type 0
AreZerosBelow places most bound = (n : ℕ) (p : Place) → n < bound → slice_get places n ≡ Some p → p.elements ≡ None → p.count ≤ most

-- each accessor without a view has
abbrev pub AreZerosWithin : List Place → ℕ → Type 0
AreZerosWithin places most = AreZerosBelow places most (length places)
