-- How the accessors that a document names are read (glTF 2.0, sections 3.7.2, 3.7.3, 3.11 and 5.1).
use Rattle.std.specs.Prelude.{◌≡◌, ℕ, List, map, slice_get, Option, Some, None, Result, Ok, Err}
use Rattle.std.specs.Map.{lookup}
use Rattle.gltf_base.specs.Keys.{Key, key_eq}
use Rattle.gltf_schema.specs.Fields.{entry_of}
use Rattle.gltf_parts.specs.declared.accessor.Accessor.{Accessor}
use Rattle.gltf_scene.specs.declared.mesh.Primitive.{Primitive}
use Rattle.gltf_layout.specs.declared.place.Place.{Place}
use Rattle.gltf_layout.specs.declared.layout.Layout.{Layout}
use Rattle.gltf_layout.specs.Places.{ArePlaces}
use Rattle.gltf_layout.specs.Layouts.{layout_places}
use Rattle.gltf_load.specs.declared.document.Document.{Document}
use Rattle.gltf_load.specs.Documents.{stored_in}
use Rattle.gltf_accessors.specs.declared.data.AccessorData.{AccessorData}
use Rattle.gltf_accessors.specs.declared.format.Usage.{Usage}
use Rattle.gltf_accessors.specs.declared.fault.AccessorDataFault.{AccessorDataFault}
use Rattle.gltf_accessors.specs.declared.fault.AccessFault.{AccessFault}
use Rattle.gltf_accessors.specs.Reads.{ReadsData}
use Rattle.gltf_load.specs.declared.accessors.Accessors.{Accessors}
use Rattle.gltf_load.specs.declared.fault.ReadFault.{ReadFault}
use Rattle.gltf_load.specs.declared.fault.ReadFault.TheVariants as read

-- a layout is that of a document: it has the place of each of its accessors
abbrev pub IsLayoutOf : Document → Layout → Type 0
IsLayoutOf d l = ArePlaces (stored_in d.buffers.now d.views.now d.accessors.now) (layout_places l)

-- an accessor of the document, its place in the layout, and the bytes of the buffers
pub record IsDataOf (s : Accessors) (n : ℕ) (d : AccessorData) : Type 0 where
  pub accessor : Accessor
  pub is_accessor : slice_get s.accessors.now n ≡ Some accessor
  pub place : slice_get (layout_places s.layout.now) n ≡ Some d.place.now
  pub normalized : d.normalized ≡ accessor.normalized
  pub buffers : d.buffers.now ≡ s.buffers.now

-- there is no such accessor
abbrev pub IsMissing : Accessors → ℕ → Type 0
IsMissing s n = (d : AccessorData) → IsDataOf s n d → ⊥

abbrev pub IsMissingFault : Accessors → ℕ → ReadFault → Type 0
IsMissingFault s n (read.NoSuchAccessor m) = (m ≡ n) × IsMissing s n
IsMissingFault s n (read.Accessor m f) = ⊥

-- how reading the accessor of a number ends: it exists and is read for a usage, or the fault names it
abbrev pub ReadsAt : {X : Type 0} → Usage → ((ℕ → Option (List ℕ)) → Place → X → Type 0) → ((ℕ → Option (List ℕ)) → Place → AccessorDataFault → Type 0) → Accessors → ℕ → Result X ReadFault → Type 0
ReadsAt u is fails s n (Ok x) = (d : AccessorData) × IsDataOf s n d × ReadsData u is fails d (Ok x)
ReadsAt u is fails s n (Err (read.NoSuchAccessor m)) = (m ≡ n) × IsMissing s n
ReadsAt u is fails s n (Err (read.Accessor m f)) = (m ≡ n) × (d : AccessorData) × IsDataOf s n d × ReadsData u is fails d (Err f)

-- the same for an accessor that needn't be named: there is none exactly if it isn't
abbrev pub ReadsNamed : {X : Type 0} → Usage → ((ℕ → Option (List ℕ)) → Place → X → Type 0) → ((ℕ → Option (List ℕ)) → Place → AccessorDataFault → Type 0) → Accessors → Option ℕ → Result (Option X) ReadFault → Type 0
ReadsNamed u is fails s None r = r ≡ Ok None
ReadsNamed u is fails s (Some n) (Ok None) = ⊥
ReadsNamed u is fails s (Some n) (Ok (Some x)) = ReadsAt u is fails s n (Ok x)
ReadsNamed u is fails s (Some n) (Err f) = ReadsAt u is fails s n (Err f)

-- the number of the accessor of an attribute
abbrev pub attribute_at : Key → Primitive → Option ℕ
attribute_at key p = lookup (key_eq key) (map entry_of p.attributes.entries)

-- what was read, with the number of its accessor in a fault
abbrev pub with_number : {X : Type 0} → ℕ → Result X AccessFault → Result X ReadFault
with_number n (Ok x) = Ok x
with_number n (Err f) = Err (read.Accessor n f)

abbrev pub optional_with_number : {X : Type 0} → ℕ → Result X AccessFault → Result (Option X) ReadFault
optional_with_number n (Ok x) = Ok (Some x)
optional_with_number n (Err f) = Err (read.Accessor n f)
