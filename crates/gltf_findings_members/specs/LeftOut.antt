-- What an excerpt of a document may leave out, so that the same is wrong with it.
use Rattle.std.specs.Prelude.{◌≡◌, ℕ, List, [], ◌∷◌, ◌++◌, Bool, true, false, if◌then◌else◌, ⊤, codes}
use Rattle.serde_json.specs.Data as json
use Rattle.serde_json.specs.Data.{Data, Members}
use Rattle.gltf_base.specs.Steps.{Step, field}
use Rattle.gltf_schema.specs.declared.outline.Member.{Member}
use Rattle.gltf_findings_members.specs.Format.{Format}
use Rattle.gltf_findings_members.specs.Noted.{Noted}
use Rattle.gltf_findings_members.specs.Required.{required_in}
use Rattle.gltf_findings_members.specs.Rows.{is_needed}
use Rattle.gltf_findings_members.specs.Walk.{member_notice}

-- what is wrong with the members whose names P doesn't keep
abbrev pub told_left_out : (List ℕ → Bool) → Format → List Member → List Step → Members → List Noted
told_left_out P f rows at json.no_members = []
told_left_out P f rows at (json.member n d ms) = (if P n then [] else member_notice f rows (at ++ field n ∷ []) n d) ++ told_left_out P f rows at ms

-- P keeps the names of the members that have to be there
abbrev pub KeepsNeeded : (List ℕ → Bool) → List Member → Type 0
KeepsNeeded P [] = ⊤
KeepsNeeded P (m ∷ ms) = (is_needed m ≡ true → P m.name.now ≡ true) × KeepsNeeded P ms

-- if P doesn't keep a list, none of its items lacks the member
abbrev pub LeavesOutFull : (List ℕ → Bool) → List ℕ → List ℕ → Data → Type 0
LeavesOutFull P list n d = P list ≡ false → required_in [] list n d ≡ []

-- so for each list whose items are looked at
abbrev pub LeavesOutFullLists : (List ℕ → Bool) → Data → Type 0
LeavesOutFullLists P d =
    LeavesOutFull P (codes "animations") (codes "channels") d
    × LeavesOutFull P (codes "animations") (codes "samplers") d
    × LeavesOutFull P (codes "buffers") (codes "byteLength") d
    × LeavesOutFull P (codes "skins") (codes "joints") d
