-- What a look at the members of a document sees of them.
use Rattle.std.specs.Prelude.{◌≡◌, ℕ, List, [], ◌∷◌, Bool, true, false, ◌&&◌, ◌||◌, bytes_eq, IsTrue, Option, Some, None, String, ⊤, codes}
use Rattle.std.specs.declared.alloc.Global.{Global}
use Rattle.std.specs.BTreeSet.{BTreeSet, contains_text}
use Rattle.json.specs.Json as tree
use Rattle.json.specs.Find.{get_member}
use Rattle.gltf_base.specs.Steps.{Step}
use Rattle.gltf_schema.specs.declared.outline.Member.{Member}
use Rattle.gltf_findings_members.specs.Kept.{LeavesBehind}
use Rattle.gltf_findings_members.specs.LeftOut.{told_left_out}
use Rattle.gltf_findings_members.specs.Look.{Covers, format_with}
use Rattle.gltf_findings_members.specs.Quiet.{AreQuietBy, LacksNone, Reading}
use Rattle.gltf_findings_members.specs.Rows.{is_needed, is_target}
use Rattle.gltf_findings_members.specs.Seen.{AreUsed, IsFullList, ListsUsed}
use Rattle.gltf_findings_members.specs.Walk.{member_notice}
use Rattle.gltf_findings_members.specs.declared.document.Seen.{Seen}
use Rattle.gltf_findings_members.specs.declared.table.Table.{Table}

-- the list of used extensions, if there is one, has no others
abbrev pub CoversSome : (List ℕ → Bool) → Option (BTreeSet (String Global)) → Type 0
CoversSome uses None = ⊤
CoversSome uses (Some s) = (q : List ℕ) → contains_text s q ≡ true → uses q ≡ true

-- a member is the list of used extensions, or the names stay
abbrev pub UsedNext : List ℕ → tree.Json → Option (BTreeSet (String Global)) → Option (BTreeSet (String Global)) → Type 0
UsedNext n j old new = (n ≡ codes "extensionsUsed" → ListsUsed old j new) × ((n ≡ codes "extensionsUsed" → ⊥) → new ≡ old)

-- a member has no notices, and is no list whose items lack members
abbrev pub IsQuietRoot : Table → List Member → List ℕ → Option (BTreeSet (String Global)) → tree.Json → Type 0
IsQuietRoot t rows n used j =
    ((uses : List ℕ → Bool) → Covers uses t → CoversSome uses used → (at : List Step) → Reading j (λ d. member_notice (format_with t uses) rows at n d ≡ []))
    × IsFullList n j

-- the names of members that may have notices are among those of P
abbrev pub KeepsLoud : (List ℕ → Bool) → BTreeSet (String Global) → Type 0
KeepsLoud P loud = (q : List ℕ) → contains_text loud q ≡ true → P q ≡ true

-- of the members whose names P leaves out, none is a list whose items lack members
abbrev pub AreFullLists : (List ℕ → Bool) → tree.Members → Type 0
AreFullLists P js = (n : List ℕ) (j : tree.Json) → P n ≡ false → get_member n js ≡ Some j → IsFullList n j

-- the names are those of the list of used extensions, if there is one
abbrev pub IsUsedIn : Option (BTreeSet (String Global)) → tree.Members → Type 0
IsUsedIn None js = get_member (codes "extensionsUsed") js ≡ None
IsUsedIn (Some s) js = (j : tree.Json) × (get_member (codes "extensionsUsed") js ≡ Some j) × AreUsed s j

-- ---- the names that an excerpt keeps

-- a member of this name has to be there
abbrev pub is_needed_name : List Member → List ℕ → Bool
is_needed_name [] n = false
is_needed_name (m ∷ ms) n = (is_needed m && bytes_eq m.name.now n) || is_needed_name ms n

-- names that it keeps in any case
abbrev pub is_fixed : List Member → List ℕ → Bool
is_fixed rows n = bytes_eq n (codes "extensionsUsed") || (bytes_eq n (codes "asset") || is_needed_name rows n)

abbrev pub is_kept : BTreeSet (String Global) → List Member → List ℕ → Bool
is_kept loud rows n = contains_text loud n || is_fixed rows n

-- P keeps no others
abbrev pub KeepsOnly : (List ℕ → Bool) → BTreeSet (String Global) → List Member → Type 0
KeepsOnly P loud rows = (q : List ℕ) → P q ≡ true → is_kept loud rows q ≡ true

pub record SeesMembers (t : Table) (rows : List Member) (s : Seen) (js : tree.Members) : Type 0 where
  pub told : (uses : List ℕ → Bool) (P : List ℕ → Bool) → Covers uses t → CoversSome uses s.used → KeepsLoud P s.loud → AreQuietBy (told_left_out P (format_with t uses) rows) js
  pub lists : (P : List ℕ → Bool) → KeepsLoud P s.loud → AreFullLists P js
  pub used : IsUsedIn s.used js
  pub whole : IsTrue s.is_whole → LacksNone rows (tree.object js) × (is_target rows ≡ false)
  pub reach : (P : List ℕ → Bool) → KeepsOnly P s.loud rows → LeavesBehind P s.reach js
