-- An object with entries has members.
use Rattle.std.proofs.Common.{◌≡◌, List, [], ◌∷◌, length, Bool, true, false, None, refl, IsTrue}
use Rattle.std.specs.Prelude.{◌↔◌}
use Rattle.serde_json.specs.View.{members_view}
use Rattle.serde_json.proofs.Views.{Entry}
use Rattle.gltf_findings_members.specs.Empty.{empty_object_code}
use Rattle.gltf_findings_members.proofs.members.empty_object_code.Goals as goal

not_empty : (b : Bool) (es : List Entry) → IsTrue b ↔ (length es ≡ 0) → b ≡ false → None ≡ empty_object_code (members_view es)
not_empty b [] h e =
    let is : b ≡ true = h.1 refl in
    absurd (cc)
not_empty b (x ∷ xs) h e = refl

pub returns-else-is_empty : goal.returns-else-is_empty
returns-else-is_empty c = not_empty c.is_empty.result c.args.members.now.entries c.is_empty.ensures c.if-is_empty.false
