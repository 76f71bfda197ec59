-- The members after the brace are those of the object that the text is.
use Rattle.std.proofs.Common.{◌≡◌, [], ◌∷◌, ℕ, List, Bool, Some, sym, ap, ◌∙◌, subst, arith, Ok, Result, BTreeMap, String, Global, IfOk}
use Rattle.std.specs.BTreeSet.{contains_text}
use Rattle.json.specs.Lex.{tokens}
use Rattle.json.specs.Token.{Token}
use Rattle.serde_json.specs.Data.{Data, object}
use Rattle.serde_json.specs.Read.{read}
use Rattle.serde_json.specs.View.{view, members_view}
use Rattle.serde_json.specs.declared.value.Value.{Value, Object}
use Rattle.serde_json.proofs.Views.{view-Object}
use Rattle.gltf_schema.specs.declared.stream.Unread.{Unread}
use Rattle.gltf_findings_members.specs.Kept.{excerpt, FindsKept, LeavesTokens}
use Rattle.gltf_findings_members.proofs.Keeping.{object_read}
use Rattle.gltf_findings_members.proofs.excerpt.excerpt_of.Goals as goal

excerpted : (P : List ℕ → Bool) (depth : ℕ) (text : List ℕ) (ts : List Token) (found : BTreeMap (String Global) Value) (r : Result (BTreeMap (String Global) Value) Unread)
    → tokens text ≡ Token.begin_object ∷ ts → depth ≡ 126 → r ≡ Ok found → IfOk r (λ m. FindsKept P depth ts (members_view m.entries)) → (d : Data) → read text ≡ Some d → view (Object found) ≡ excerpt P d
excerpted P depth text ts found r opens deep ok finds d is =
    let got = object_read text ts d opens is in
    let all = subst (λ o. IfOk o (λ m. FindsKept P depth ts (members_view m.entries))) ok finds in
    let held = subst (λ n. FindsKept P n ts (members_view found.entries)) deep all got.0 [] got.1 in
    view-Object found ∙ ap object held ∙ ap (excerpt P) (sym got.2)

pub returns : goal.returns
returns c =
    let ts = c.begin_object.new.self in
    let opens : tokens c.args.text.now ≡ Token.begin_object ∷ ts = grind arith in
    let found = c.in_ok-found.found in
    let ok : c.kept_members.result ≡ Ok found = grind arith in
    excerpted (contains_text c.args.keep.now) c.new-from.result.depth c.args.text.now ts found c.kept_members.result opens c.new-from.ensures.1 ok c.kept_members.ensures

pub kept_members-requires : goal.kept_members-requires
kept_members-requires c =
    let P = contains_text c.args.keep.now in
    let ts = c.begin_object.new.self in
    let opens : tokens c.args.text.now ≡ Token.begin_object ∷ ts = grind arith in
    subst (λ n. LeavesTokens P n ts c.args.reach) (sym c.new-from.ensures.1) (c.requires ts opens)
