-- A look at the tokens of a text: what it takes from them, and what has no notices if it says so.
use Rattle.std.specs.Prelude.{⊤, ◌≡◌, ◌⊎◌, ◌+◌, ◌++◌, ℕ, List, [], ◌∷◌, Bool, true, false, IsTrue, Option, Some, None, MatchOption, get_or, length, slice_get}
use Rattle.std.specs.Borrow.{Bor}
use Rattle.std.specs.BTreeSet.{contains_text}
use Rattle.json.specs.Token.{Token}
use Rattle.json.specs.Json as tree
use Rattle.json.specs.Json.{value, items, members}
use Rattle.gltf_schema.specs.declared.outline.Member.{Member}
use Rattle.gltf_schema.specs.declared.outline.Shape.{Shape}
use Rattle.gltf_findings_members.specs.Format.{Format, lists_in}
use Rattle.gltf_base.specs.Steps.{Step}
use Rattle.gltf_schema.specs.declared.outline.Shape.TheVariants.{Whole32}
use Rattle.gltf_findings_members.specs.Members.{attribute_code, attribute_notices}
use Rattle.gltf_findings_members.specs.Misfits.{index_misfit}
use Rattle.gltf_findings_members.specs.Noted.{maybe_note}
use Rattle.gltf_findings_members.specs.Quiet.{Reading, IsNewItem, AreNew, AreQuietBy, AreQuietItems, HaveNoRepeats, LacksNone}
use Rattle.gltf_findings_members.specs.Required.{lacking_code}
use Rattle.gltf_findings_members.specs.Rows.{row_named, is_needed, is_target}
use Rattle.gltf_findings_members.specs.Walk.{member_notices}
use Rattle.gltf_findings_members.specs.declared.table.Table.{Table}

-- ---- what is taken from the tokens

-- a value, of which this is so if the look is quiet
abbrev pub Looks : (tree.Json → Type 0) → ℕ → List Token → Bool → List Token → Type 0
Looks Is depth ts quiet rest = (j : tree.Json) × (value depth ts ≡ Some (j, rest)) × (IsTrue quiet → Is j)

-- the items of a list, and the bracket behind them
abbrev pub LooksAtItems : (tree.Items → Type 0) → ℕ → List Token → Bool → List Token → Type 0
LooksAtItems Are depth ts quiet rest = (js : tree.Items) × (items (value depth) (length ts) ts ≡ Some (js, rest)) × (IsTrue quiet → Are js)

-- the members of an object, and the brace behind them
abbrev pub LooksAtMembers : (tree.Members → Type 0) → ℕ → List Token → Bool → List Token → Type 0
LooksAtMembers Are depth ts quiet rest = (js : tree.Members) × (members (value depth) (length ts) ts ≡ Some (js, rest)) × (IsTrue quiet → Are js)

-- nothing is said of what is passed
abbrev pub Skips : ℕ → List Token → List Token → Type 0
Skips depth ts rest = (js : tree.Members) × (value depth ts ≡ Some (tree.object js, rest))

abbrev pub SkipsMembers : ℕ → List Token → List Token → Type 0
SkipsMembers depth ts rest = (js : tree.Members) × (members (value depth) (length ts) ts ≡ Some (js, rest))

abbrev pub count_of : tree.Items → ℕ
count_of tree.no_items = 0
count_of (tree.item j js) = count_of js + 1

-- ---- documents that use at least the extensions of the table

abbrev pub format_with : Table → (List ℕ → Bool) → Format
format_with t uses = record { nodes = t.nodes.now; uses = uses; known = lists_in t.known.now }

abbrev pub Covers : (List ℕ → Bool) → Table → Type 0
Covers uses t = (q : List ℕ) → contains_text t.used.now q ≡ true → uses q ≡ true

abbrev pub Beside : Table → (Format → Type 0) → Type 0
Beside t Is = (uses : List ℕ → Bool) → Covers uses t → Is (format_with t uses)

-- ---- indexes and attributes

-- an index that is none of the numbers before
abbrev pub IsIndexBehind : List ℕ → List ℕ → tree.Json → Type 0
IsIndexBehind before after j = IsNewItem before j after × Reading j (λ d. index_misfit d ≡ None)

-- some indexes, each listed once
abbrev pub AreIndexes : tree.Items → Type 0
AreIndexes js = (js ≡ tree.no_items → ⊥) × AreNew [] js × ((f : Format) → AreQuietItems f (Some Whole32) js)

abbrev pub IsQuietAttribute : List ℕ → tree.Json → Type 0
IsQuietAttribute n j = (at : List Step) → Reading j (λ d. maybe_note at (attribute_code n) ++ maybe_note at (index_misfit d) ≡ [])

-- some attributes, each an index
abbrev pub AreAttributes : tree.Members → Type 0
AreAttributes js = (js ≡ tree.no_members → ⊥) × AreQuietBy attribute_notices js

-- ---- members that have to be there

-- a value has the members of these names, if it is an object
abbrev pub HasNames : List (Bor (List ℕ)) → tree.Json → Type 0
HasNames [] j = ⊤
HasNames (n ∷ names) j = Reading j (λ d. lacking_code n.now d ≡ None) × HasNames names j

abbrev pub HaveNames : List (Bor (List ℕ)) → tree.Items → Type 0
HaveNames names tree.no_items = ⊤
HaveNames names (tree.item j js) = HasNames names j × HaveNames names js

-- the row of a number has this name
abbrev pub IsRow : List Member → List ℕ → ℕ → Type 0
IsRow rows n i = (m : Member) × (slice_get rows i ≡ Some m) × (m.name.now ≡ n) × (row_named n rows ≡ Some m)

-- the number of the first row of a name, if there is one
abbrev pub IsPlaceOf : List Member → List ℕ → Option ℕ → Type 0
IsPlaceOf rows n place = MatchOption place (row_named n rows ≡ None) (λ i. IsRow rows n i)

-- the row of a number had its member before, or is the one that was noted
abbrev pub IsNoted : List Bool → Option ℕ → ℕ → Type 0
IsNoted seen place i = (get_or seen i false ≡ true) ⊎ (place ≡ Some i)

abbrev pub NeededSeen : List Member → List Bool → Type 0
NeededSeen rows seen = (i : ℕ) (m : Member) → slice_get rows i ≡ Some m → is_needed m ≡ true → get_or seen i false ≡ true

abbrev pub IsNameSeen : List Member → List Bool → List ℕ → Type 0
IsNameSeen rows seen n = (i : ℕ) × IsRow rows n i × (get_or seen i false ≡ true)

abbrev pub NamesSeen : List Member → List Bool → List (Bor (List ℕ)) → Type 0
NamesSeen rows seen [] = ⊤
NamesSeen rows seen (n ∷ names) = IsNameSeen rows seen n.now × NamesSeen rows seen names

-- ---- what a look at a level says

abbrev pub AreQuietItemsOf : Table → Option Shape → List (Bor (List ℕ)) → tree.Items → Type 0
AreQuietItemsOf t s names js = Beside t (λ f. AreQuietItems f s js) × HaveNames names js

-- a list that is not empty, and has no index twice
abbrev pub AreQuietListOf : Table → Option Shape → List (Bor (List ℕ)) → tree.Items → Type 0
AreQuietListOf t s names js = (js ≡ tree.no_items → ⊥) × HaveNoRepeats s js × AreQuietItemsOf t s names js

-- the members of an object that lacks none, and is not empty if it is a morph target
abbrev pub AreQuietMembersOf : Table → List Member → List (Bor (List ℕ)) → tree.Members → Type 0
AreQuietMembersOf t rows names js =
    Beside t (λ f. AreQuietBy (member_notices f rows) js) × LacksNone rows (tree.object js) × HasNames names (tree.object js) × (is_target rows ≡ true → js ≡ tree.no_members → ⊥)
