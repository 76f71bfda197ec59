-- JSON without notices: what the tree of a text shows of the value that the text is read as.
use Rattle.std.specs.Prelude.{◌≡◌, ℕ, List, [], Bool, true, false, Option, Some, None}
use Rattle.std.specs.Ordering.{nat_cmp}
use Rattle.std.specs.BTreeSet.{insert_key}
use Rattle.json.specs.Json as tree
use Rattle.serde_json.specs.Data.{Data, Items, Members}
use Rattle.serde_json.specs.Read.{of_json, of_items, of_members}
use Rattle.gltf_base.specs.Steps.{Step}
use Rattle.gltf_schema.specs.declared.outline.Member.{Member}
use Rattle.gltf_schema.specs.Read.{whole_number}
use Rattle.gltf_schema.specs.declared.outline.Shape.{Shape}
use Rattle.gltf_schema.specs.declared.outline.Shape.TheVariants.{Any, Text, Truth}
use Rattle.gltf_findings_members.specs.Noted.{Noted}
use Rattle.gltf_findings_members.specs.Format.{Format}
use Rattle.gltf_findings_members.specs.Lists.{is_among, repeats_from, repeat_notices}
use Rattle.gltf_findings_members.specs.Required.{lacking_notices}
use Rattle.gltf_findings_members.specs.Rows.{missing_notices}
use Rattle.gltf_findings_members.specs.Walk.{notices, item_notices}

-- of the value that a tree is read as, this is so
abbrev pub Reading : tree.Json → (Data → Type 0) → Type 0
Reading j Is = (d : Data) → of_json j ≡ Some d → Is d

-- the value has no notices, wherever it is
abbrev pub IsQuiet : Format → Option Shape → tree.Json → Type 0
IsQuiet f s j = (l : Bool) (at : List Step) → Reading j (λ d. notices f l s at d ≡ [])

-- nor have the items of a list
abbrev pub AreQuietItems : Format → Option Shape → tree.Items → Type 0
AreQuietItems f s js = (at : List Step) (i : ℕ) (ds : Items) → of_items js ≡ Some ds → item_notices f s at i ds ≡ []

-- none of the items is a number that is among those before it, or among others
abbrev pub AreNew : List ℕ → tree.Items → Type 0
AreNew before js = (at : List Step) (i : ℕ) (ds : Items) → of_items js ≡ Some ds → repeats_from at before i ds ≡ []

-- no index is listed twice, if the items are indexes
abbrev pub HaveNoRepeats : Option Shape → tree.Items → Type 0
HaveNoRepeats s js = (at : List Step) (ds : Items) → of_items js ≡ Some ds → repeat_notices s at ds ≡ []

-- members that have no notices by themselves have none in an object
abbrev pub AreQuietBy : (List Step → Members → List Noted) → tree.Members → Type 0
AreQuietBy told js = (at : List Step) (old ms : Members) → told at old ≡ [] → of_members js old ≡ Some ms → told at ms ≡ []

-- an object has the members that it has to have
abbrev pub LacksNone : List Member → tree.Json → Type 0
LacksNone rows j = (at : List Step) → Reading j (λ d. missing_notices at d rows ≡ [])

-- any JSON is wanted
abbrev pub wants_any : Option Shape → Bool
wants_any None = true
wants_any (Some Any) = true
wants_any _ = false

-- a text is wanted, or any JSON
abbrev pub wants_text : Option Shape → Bool
wants_text (Some Text) = true
wants_text s = wants_any s

-- a truth value is wanted, or any JSON
abbrev pub wants_truth : Option Shape → Bool
wants_truth (Some Truth) = true
wants_truth s = wants_any s

-- a number that is not among those before, and the numbers with it
abbrev pub IsNewItem : List ℕ → tree.Json → List ℕ → Type 0
IsNewItem before j after = (n : ℕ) × Reading j (λ d. whole_number d ≡ Some n) × (is_among before n ≡ false) × (after ≡ insert_key nat_cmp before n)

-- the items have a member of a name, if they are objects
abbrev pub HaveMember : List ℕ → tree.Items → Type 0
HaveMember n js = (at : List Step) (i : ℕ) (ds : Items) → of_items js ≡ Some ds → lacking_notices at n i ds ≡ []
