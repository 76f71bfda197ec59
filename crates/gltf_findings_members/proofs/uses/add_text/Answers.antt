-- The set has the text, and what it had before.
use Rattle.std.proofs.Common.{◌≡◌, ◌∙◌, Bool, true, false, cond, string_bytes, bytes_eq, refl, ap}
use Rattle.std.specs.Prelude.{◌||◌}
use Rattle.std.specs.BTreeSet.{contains_text}
use Rattle.std.proofs.lemmas.Map.Text.{btree_set_updates_text}
use Rattle.gltf_findings_members.proofs.uses.add_text.Goals as goal

either : (a b : Bool) → cond a true b ≡ (b || a)
either true true = refl
either true false = refl
either false true = refl
either false false = refl

pub returns : goal.returns
returns c = λ q.
    let key = c.in_ok-from_str.field-0 in
    let old = c.args.used.now in
    btree_set_updates_text (string_bytes key) old c.insert.new.self true c.in_ok-insert.ensures.updates q
    ∙ either (bytes_eq (string_bytes key) q) (contains_text old q)
    ∙ ap (λ s. contains_text old q || bytes_eq s q) c.in_ok-from_str.ensures.ok
