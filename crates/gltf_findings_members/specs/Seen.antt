-- Members of a document: those of rows, its list of used extensions, and lists whose items have to have members.
use Rattle.std.specs.Prelude.{◌≡◌, ℕ, List, [], Option, Some, None, codes}
use Rattle.std.specs.declared.alloc.Global.{Global}
use Rattle.std.specs.Prelude.{String}
use Rattle.std.specs.BTreeSet.{BTreeSet, contains_text}
use Rattle.json.specs.Json as tree
use Rattle.serde_json.specs.Data.{Items}
use Rattle.serde_json.specs.Find.{as_array}
use Rattle.serde_json.specs.Read.{of_items}
use Rattle.gltf_base.specs.Steps.{Step}
use Rattle.gltf_schema.specs.declared.outline.Member.{Member}
use Rattle.gltf_findings_members.specs.Format.{Format}
use Rattle.gltf_schema.specs.declared.outline.Shape.TheVariants.{Text}
use Rattle.gltf_findings_members.specs.Look.{Beside}
use Rattle.gltf_findings_members.specs.Quiet.{AreQuietItems, Reading}
use Rattle.gltf_findings_members.specs.Required.{lacking_in}
use Rattle.gltf_findings_members.specs.Uses.{has_text, is_in}
use Rattle.gltf_findings_members.specs.Walk.{row_notices}
use Rattle.gltf_findings_members.specs.declared.table.Table.{Table}

-- the member of a row has no notices
abbrev pub IsQuietRow : Table → Member → tree.Json → Type 0
IsQuietRow t m j = Beside t (λ f. (at : List Step) → Reading j (λ d. row_notices f m at d ≡ []))

-- ---- the list of used extensions

-- the texts of a list are in a set, and no others
abbrev pub AreUsed : BTreeSet (String Global) → tree.Json → Type 0
AreUsed s j = Reading j (λ d. (q : List ℕ) → contains_text s q ≡ is_in q (as_array d))

-- some texts, which are those of a set
abbrev pub AreTexts : BTreeSet (String Global) → tree.Items → Type 0
AreTexts s js =
    (js ≡ tree.no_items → ⊥) × ((f : Format) → AreQuietItems f (Some Text) js)
    × ((ds : Items) → of_items js ≡ Some ds → (q : List ℕ) → contains_text s q ≡ has_text q ds)

-- nothing was listed before, and the names are listed now
abbrev pub ListsUsed : Option (BTreeSet (String Global)) → tree.Json → Option (BTreeSet (String Global)) → Type 0
ListsUsed None j (Some s) = AreUsed s j
ListsUsed old j new = ⊥

-- ---- lists whose items have to have members

-- no item lacks the member, if it is an object
abbrev pub AllHave : List ℕ → tree.Json → Type 0
AllHave n j = (at : List Step) → Reading j (λ d. lacking_in at n (as_array d) ≡ [])

-- by the name of the list
abbrev pub IsFullList : List ℕ → tree.Json → Type 0
IsFullList n j =
    (n ≡ codes "animations" → AllHave (codes "channels") j × AllHave (codes "samplers") j)
    × (n ≡ codes "buffers" → AllHave (codes "byteLength") j)
    × (n ≡ codes "skins" → AllHave (codes "joints") j)
