-- What a first look at a text finds.
use Rattle.std.specs.Prelude.{◌≡◌, ℕ, List, [], Bool, true, false, IsTrue, Option, Some, None, String, ⊤, codes, slice_get}
use Rattle.std.specs.declared.alloc.Global.{Global}
use Rattle.std.specs.declared.vec.Vec.{Vec}
use Rattle.std.specs.BTreeSet.{BTreeSet, contains_text}
use Rattle.serde_json.specs.Data.{Data, Members, object}
use Rattle.serde_json.specs.Find.{get}
use Rattle.serde_json.specs.Read.{read}
use Rattle.serde_json.specs.View.{view}
use Rattle.gltf_base.specs.Steps.{Step}
use Rattle.gltf_schema.specs.declared.outline.Member.{Member}
use Rattle.gltf_schema.specs.declared.outline.Outline.{Outline}
use Rattle.gltf_schema.specs.declared.outline.Shape.TheVariants.{Object}
use Rattle.gltf_findings_members.specs.Document.{KeepsLoud, KeepsOnly}
use Rattle.gltf_findings_members.specs.Format.{Format}
use Rattle.gltf_findings_members.specs.Kept.{LeavesText}
use Rattle.gltf_findings_members.specs.LeftOut.{LeavesOutFullLists, told_left_out}
use Rattle.gltf_findings_members.specs.Notices.{all_notices, format_for}
use Rattle.gltf_findings_members.specs.Rows.{is_target, missing_notices}
use Rattle.gltf_findings_members.specs.Uses.{uses}
use Rattle.gltf_findings_members.specs.declared.document.Seen.{Seen}
use Rattle.gltf_findings_members.specs.declared.first.FirstLook.{FirstLook}
use Rattle.gltf_findings_members.specs.declared.first.FirstLook.TheVariants.{Quiet, Excerpt, Nothing}

-- ---- what the call returns

-- the same is wrong with a value, and it has the same `asset`
abbrev pub TellsSame : Outline → Data → Data → Type 0
TellsSame o v d = (all_notices o.nodes.items o.root v ≡ all_notices o.nodes.items o.root d) × (get (codes "asset") v ≡ get (codes "asset") d)

-- a text without notices, or a value with the same; of a text that is no JSON nothing is said
abbrev pub IsFirstLook : Outline → List ℕ → FirstLook → Type 0
IsFirstLook o text Quiet = (d : Data) → read text ≡ Some d → all_notices o.nodes.items o.root d ≡ []
IsFirstLook o text (Excerpt v) = (d : Data) → read text ≡ Some d → TellsSame o (view v) d
IsFirstLook o text Nothing = ⊤

-- ---- for private clauses

-- the names are those of the list of used extensions; without a list there are none
abbrev pub has_name : Option (BTreeSet (String Global)) → List ℕ → Bool
has_name None q = false
has_name (Some s) q = contains_text s q

-- what was seen of the members that a value has
pub record SeesValue (f : Format) (rows : List Member) (s : Seen) (d : Data) : Type 0 where
  pub members : Members
  pub is : d ≡ object members
  pub told : (P : List ℕ → Bool) → KeepsLoud P s.loud → told_left_out P f rows [] members ≡ []
  pub lists : (P : List ℕ → Bool) → KeepsLoud P s.loud → LeavesOutFullLists P d
  pub used : (q : List ℕ) → has_name s.used q ≡ uses d q
  pub whole : IsTrue s.is_whole → ((at : List Step) → missing_notices at d rows ≡ []) × (is_target rows ≡ false)

-- and of the value that a text is, beside the format that it names itself
abbrev pub SeesText : Outline → List Member → List ℕ → Seen → Type 0
SeesText o rows text s = (d : Data) → read text ≡ Some d → SeesValue (format_for o.nodes.items d) rows s d

-- a text's list of used extensions has these names
abbrev pub AreUsedIn : List ℕ → BTreeSet (String Global) → Type 0
AreUsedIn text names = (d : Data) → read text ≡ Some d → (q : List ℕ) → contains_text names q ≡ true → uses d q ≡ true

-- the rows of the outline's type, which is an object
abbrev pub AreRows : Outline → List Member → Type 0
AreRows o rows = (held : Vec Member Global) × (keeps : Bool) × (slice_get o.nodes.items o.root ≡ Some (Object held keeps)) × (rows ≡ held.items)

-- what an excerpt keeps of a text is among its first members
abbrev pub ReachesKept : List Member → List ℕ → Seen → Type 0
ReachesKept rows text s = (P : List ℕ → Bool) → KeepsOnly P s.loud rows → LeavesText P text s.reach

-- both
abbrev pub SeesAll : Outline → List Member → List ℕ → Seen → Type 0
SeesAll o rows text s = SeesText o rows text s × ReachesKept rows text s
