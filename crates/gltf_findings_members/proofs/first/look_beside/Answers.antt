-- The members behind the brace are those of the value that the text is.
use Rattle.std.proofs.Common.{◌≡◌, ◌∷◌, ◌∙◌, List, Ok, ap, subst, arith}
use Rattle.json.specs.Lex.{tokens}
use Rattle.json.specs.Token.{Token}
use Rattle.gltf_schema.specs.declared.outline.Member.{Member}
use Rattle.gltf_schema.specs.declared.outline.Shape.{Shape}
use Rattle.gltf_findings_members.specs.First.{SeesValue}
use Rattle.gltf_findings_members.specs.Format.{extension_lists, lists_in}
use Rattle.gltf_findings_members.specs.Uses.{uses}
use Rattle.gltf_findings_members.proofs.Reaching.{reaches_text}
use Rattle.gltf_findings_members.proofs.Viewing.{sees_text}
use Rattle.gltf_findings_members.proofs.first.look_beside.Goals as goal

pub returns-in-Some-BeginObject : goal.returns-in-Some-BeginObject
returns-in-Some-BeginObject c =
    let nodes = c.args.outline.now.nodes.items in
    let rows = c.args.rows.now in
    let ts = c.next.new.self in
    let s = c.in_ok-seen-in-Some-BeginObject.seen in
    let opens : tokens c.args.text.now ≡ Token.begin_object ∷ ts = grind arith in
    let ok : c.look_document.result ≡ Ok s = grind arith in (
      λ d is.
          let seen = sees_text _ rows s c.args.text.now ts c.look_document.new.reader c.look_document.result d opens is ok c.look_document.ensures (c.requires d is) in
          let extended : extension_lists c.deref.result.now c.deref.result.now ≡ extension_lists nodes nodes = ap (λ ns. extension_lists ns ns) c.deref.ensures.value in
          let listed : lists_in c.in_ok-known.known.items ≡ extension_lists c.deref.result.now c.deref.result.now = grind arith in
          let known = ap lists_in c.deref-3.ensures.value ∙ listed ∙ extended in
          let At = λ (ns : List Shape) (ks : List (List Member)). SeesValue (record { nodes = ns; uses = uses d; known = ks }) rows s d in
          subst (λ ns. At ns (extension_lists nodes nodes)) c.deref-2.ensures.value (subst (λ ks. At c.deref-2.result.now ks) known seen),
      reaches_text _ rows s c.args.text.now ts c.look_document.new.reader c.look_document.result opens ok c.look_document.ensures,
    )
