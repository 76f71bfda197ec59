-- What an answer says of the bytes: whether they are JSON, and what is wrong with their members.
use Rattle.std.proofs.Common.{◌≡◌, ℕ, List, [], Bool, true, false, Option, Some, None, Result, Ok, Err, refl, sym, ap, ◌∙◌, subst}
use Rattle.std.specs.Prelude.{IsUtf8, codes, if◌then◌else◌, option_and_then}
use Rattle.std.specs.Str.{is_utf8}
use Rattle.std.proofs.lemmas.Str.{IsUtf8-from_is_utf8, is_utf8-from_IsUtf8}
use Rattle.serde_json.specs.Data.{Data}
use Rattle.serde_json.specs.Find.{as_str, get}
use Rattle.serde_json.specs.Read.{read}
use Rattle.gltf_schema.specs.Tree.{Tree}
use Rattle.gltf_schema.specs.Read.{read as read_tree}
use Rattle.gltf_schema.specs.declared.outline.Outline.{Outline}
use Rattle.gltf_root.specs.Answer.{Answer, answer, IsAnswer, document, no_document, no_json, tree_answer, value_answer}
use Rattle.gltf_root.specs.Root.{root_kind, root_tree}
use Rattle.gltf_root.specs.declared.root.Root.{Root}
use Rattle.gltf_base.specs.declared.error.Error.{Error}
use Rattle.gltf_base.specs.declared.error.Error.TheVariants.{Json, Schema}
use Rattle.gltf_findings_members.specs.First.{TellsSame}
use Rattle.gltf_findings_members.specs.Noted.{Noted}
use Rattle.gltf_findings_members.specs.Notices.{all_notices}
use Rattle.gltf_findings_lines.specs.Checked.{AreMembers}
use Rattle.gltf_findings_lines.specs.Members.{is_version_1, says_1, IsJson, value_members}

-- ---- bytes that are JSON

given : (b : Bool) (o : Option Data) (a : Answer) → (if b then value_answer o else no_json) ≡ a → (a ≡ no_json → ⊥) → (b ≡ true) × ((d : Data) × (o ≡ Some d))
given true None a is apart = absurd (apart (sym is))
given true (Some d) a is apart = (refl, (d, refl))
given false o a is apart = absurd (apart (sym is))

json_by : (bytes : List ℕ) (a : Answer) → answer bytes ≡ a → (a ≡ no_json → ⊥) → IsJson bytes
json_by bytes a is apart = let both = given (is_utf8 bytes) (read bytes) a is apart in (IsUtf8-from_is_utf8 bytes both.0, both.1)

no_document_apart : no_document ≡ no_json → ⊥
no_document_apart e = absurd (cc)

document_apart : (t : Tree) → document t ≡ no_json → ⊥
document_apart t e = absurd (cc)

json_of_document : (bytes : List ℕ) (t : Tree) → answer bytes ≡ document t → IsJson bytes
json_of_document bytes t is = json_by bytes (document t) is (document_apart t)

json_of_no_document : (bytes : List ℕ) → answer bytes ≡ no_document → IsJson bytes
json_of_no_document bytes is = json_by bytes no_document is no_document_apart

pub json_of_root : (bytes : List ℕ) (r : Result Root Error) (root : Root) → IsAnswer (answer bytes) r → r ≡ Ok root → IsJson bytes
json_of_root bytes r root due is = json_of_document bytes (root_tree root) (subst (IsAnswer (answer bytes)) is due)

pub json_of_schema : (bytes : List ℕ) (r : Result Root Error) → IsAnswer (answer bytes) r → r ≡ Err Schema → IsJson bytes
json_of_schema bytes r due is = json_of_no_document bytes (subst (IsAnswer (answer bytes)) is due)

-- ---- what is wrong with their members

pub members_by_json : (o : Outline) (bytes : List ℕ) (ns : List Noted) → IsJson bytes → ns ≡ value_members o (read bytes) → AreMembers o bytes ns
members_by_json o bytes ns json are = record { text = λ utf8. are; no_text = λ none. absurd (none json.0) }

no_tree : (t : Option Tree) → tree_answer t ≡ no_json → ⊥
no_tree None is = absurd (cc)
no_tree (Some t) is = absurd (cc)

nothing_read : (b : Bool) (o : Option Data) → b ≡ true → (if b then value_answer o else no_json) ≡ no_json → o ≡ None
nothing_read true None utf8 is = refl
nothing_read true (Some d) utf8 is = absurd (no_tree (read_tree root_kind d) is)
nothing_read false o utf8 is = absurd (cc)

members_of_no_json : (o : Outline) (bytes : List ℕ) → answer bytes ≡ no_json → AreMembers o bytes []
members_of_no_json o bytes is = record {
  text = λ utf8. sym (ap (value_members o) (nothing_read (is_utf8 bytes) (read bytes) (is_utf8-from_IsUtf8 bytes utf8) is));
  no_text = λ none. refl;
}

pub members_of_refused : (o : Outline) (bytes : List ℕ) (r : Result Root Error) → IsAnswer (answer bytes) r → r ≡ Err Json → AreMembers o bytes []
members_of_refused o bytes r due is = members_of_no_json o bytes (subst (IsAnswer (answer bytes)) is due)

-- ---- a value that tells the same

either_none : (b : Bool) (ns : List Noted) → ns ≡ [] → (if b then [] else ns) ≡ []
either_none true ns none = refl
either_none false ns none = none

pub quiet_members : (o : Outline) (r : Option Data) → ((d : Data) → r ≡ Some d → all_notices o.nodes.items o.root d ≡ []) → value_members o r ≡ []
quiet_members o None none = refl
quiet_members o (Some d) none = either_none (is_version_1 d) (all_notices o.nodes.items o.root d) (none d refl)

same_members : (o : Outline) (v d : Data) → TellsSame o v d → value_members o (Some v) ≡ value_members o (Some d)
same_members o v d same =
    ap (λ b. if b then [] else all_notices o.nodes.items o.root v) (ap says_version same.1) ∙ ap (λ ns. if is_version_1 d then [] else ns) same.0
  where
    says_version : Option Data → Bool
    says_version asset = says_1 (option_and_then as_str (option_and_then (get (codes "version")) asset))

pub told_members : (o : Outline) (text : List ℕ) (v : Data) → IsJson text → ((d : Data) → read text ≡ Some d → TellsSame o v d) → value_members o (Some v) ≡ value_members o (read text)
told_members o text v json same = let d = json.1 in same_members o v d.0 (same d.0 d.1) ∙ sym (ap (value_members o) d.1)
