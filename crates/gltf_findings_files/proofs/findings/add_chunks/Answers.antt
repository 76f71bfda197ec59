use Rattle.std.proofs.Common.{◌≡◌, ℕ, Bool, false, true, Option, List, ◌++◌, length, sym, ◌∙◌, ap, subst, arith}
use Rattle.gltf_findings_files.specs.declared.chunk.Before.{Before}
use Rattle.gltf_findings_files.specs.declared.chunk.Chunk.{Chunk}
use Rattle.gltf_findings_files.specs.declared.finding.GlbFinding.{GlbFinding}
use Rattle.gltf_findings_files.specs.declared.rules.Lengths.{Lengths}
use Rattle.gltf_findings_files.specs.Chunks.{chunk_at, end_of, after, start}
use Rattle.gltf_findings_files.specs.Found.{found}
use Rattle.gltf_findings_files.specs.Rules.{is_last, chunk_rules}
use Rattle.gltf_findings_files.specs.Findings.{chunk_findings}
use Rattle.gltf_findings_files.proofs.Turns.{AreLeft, left_end, left_last, left_other}
use Rattle.gltf_findings_files.proofs.findings.add_chunks.Goals as goal

same_left : (added added2 all : List GlbFinding) (l : Lengths) (bytes : List ℕ) (b b2 : Before) (offset offset2 : ℕ) → AreLeft added all l bytes b offset → added2 ≡ added → b2 ≡ b → offset2 ≡ offset → AreLeft added2 all l bytes b2 offset2
same_left added added2 all l bytes b b2 offset offset2 h p q r =
    subst (λ xs. AreLeft xs all l bytes b2 offset2) (sym p)
    (subst (λ x. AreLeft added all l bytes x offset2) (sym q) (subst (λ n. AreLeft added all l bytes b n) (sym r) h))

last_of : (l : Lengths) (chunk c : Chunk) (t v : Bool) → chunk ≡ c → t ≡ is_last l chunk → t ≡ v → is_last l c ≡ v
last_of l chunk c t v e f g = ap (is_last l) (sym e) ∙ sym f ∙ g

added_of : (old new : List GlbFinding) (l : Lengths) (b : Before) (chunk c : Chunk) (rules : List (Option GlbFinding)) → new ≡ old ++ found rules → rules ≡ chunk_rules l b chunk → chunk ≡ c → new ≡ old ++ found (chunk_rules l b c)
added_of old new l b chunk c rules p q e = p ∙ ap (λ (rs : List (Option GlbFinding)). old ++ found rs) (q ∙ ap (chunk_rules l b) e)

pub loop-before-init : goal.loop-before-init
loop-before-init c = record {
  within = c.requires.has_header;
  turns = length c.args.bytes.now;
  enough = omega arith;
  left = ap (λ b. c.args.to.now.items ++ chunk_findings (length c.args.bytes.now) c.args.lengths c.args.bytes.now b 12) c.start-before.ensures;
}

pub returns-then-is_last : goal.returns-then-is_last
returns-then-is_last c =
    let all = c.args.to.now.items ++ chunk_findings (length c.args.bytes.now) c.args.lengths c.args.bytes.now start 12 in
    let chunk = chunk_at c.loop-before.offset c.args.bytes.now in
    let is_last_one = last_of c.args.lengths c.at-chunk.result chunk c.is_last.result true c.at-chunk.ensures c.is_last.ensures c.if-is_last.true in
    let h = left_last c.loop-before.to.items all c.args.lengths c.args.bytes.now c.loop-before.before c.loop-before.offset c.loop-before.invariant (sym c.is_at_end.ensures ∙ c.loop-before-test.true) is_last_one in
    added_of c.loop-before.to.items c.add_found.new.to.items c.args.lengths c.loop-before.before c.at-chunk.result chunk c.chunk_rules.result c.in_ok-add_found.ensures c.chunk_rules.ensures c.at-chunk.ensures ∙ h

pub loop-before-preserved : goal.loop-before-preserved
loop-before-preserved c =
    let all = c.args.to.now.items ++ chunk_findings (length c.args.bytes.now) c.args.lengths c.args.bytes.now start 12 in
    let chunk = chunk_at c.loop-before.offset c.args.bytes.now in
    let is_other = last_of c.args.lengths c.at-chunk.result chunk c.is_last.result false c.at-chunk.ensures c.is_last.ensures c.if-is_last.false in
    let h = left_other c.loop-before.to.items all c.args.lengths c.args.bytes.now c.loop-before.before c.loop-before.offset c.requires.actual c.loop-before.invariant (sym c.is_at_end.ensures ∙ c.loop-before-test.true) is_other in
    same_left _ c.add_found.new.to.items all c.args.lengths c.args.bytes.now _ c.after-before.result _ c.end-offset.result h
    (added_of c.loop-before.to.items c.add_found.new.to.items c.args.lengths c.loop-before.before c.at-chunk.result chunk c.chunk_rules.result c.in_ok-add_found.ensures c.chunk_rules.ensures c.at-chunk.ensures)
    (c.after-before.ensures ∙ ap (λ (x : Chunk). after c.loop-before.before x.kind) c.at-chunk.ensures)
    (c.end-offset.ensures ∙ ap end_of c.at-chunk.ensures)

pub returns : goal.returns
returns c =
    let all = c.args.to.now.items ++ chunk_findings (length c.args.bytes.now) c.args.lengths c.args.bytes.now start 12 in
    let h = left_end c.loop-before.to.items all c.args.lengths c.args.bytes.now c.loop-before.before c.loop-before.offset c.loop-before.invariant (sym c.is_at_end.ensures ∙ c.loop-before-test.false) in
    c.in_ok-add_found-2.ensures ∙ ap (λ rules. c.loop-before.to.items ++ found rules) c.end_rules.ensures ∙ h
