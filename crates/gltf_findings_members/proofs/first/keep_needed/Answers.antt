-- Each row is among those that were gone through.
use Rattle.std.specs.BTreeSet.{contains_text}
use Rattle.std.proofs.Common.{◌≡◌, ℕ, ◌+◌, ◌<◌, List, Some, true, false, sym, ◌∙◌, subst, BTreeSet, String, Global, arith}
use Rattle.std.specs.Prelude.{◌||◌, slice_get}
use Rattle.gltf_schema.specs.declared.outline.Member.{Member}
use Rattle.gltf_findings_members.specs.Document.{KeepsLoud, is_needed_name}
use Rattle.gltf_findings_members.specs.Rows.{is_needed}
use Rattle.std.proofs.lemmas.Option.{slice_get_within}
use Rattle.gltf_findings_members.proofs.Reaching.{needed_step, one_more_needed}
use Rattle.gltf_findings_members.proofs.Viewing.{needed_kept}
use Rattle.gltf_findings_members.proofs.first.keep_needed.Goals as goal
use Rattle.gltf_findings_members.proofs.first.keep_needed.Goals.{then-is_needed+in_ok-keep_name, else-is_needed}

pub returns-clause-new : goal.returns-clause-new
returns-clause-new c =
    let rows = c.args.rows.now in
    needed_kept (contains_text c.loop-i.keep) rows (λ i m here needed. let less = slice_get_within rows i m here in c.loop-i.invariant.1 i m (omega arith) here needed)

pub loop-i-preserved : goal.loop-i-preserved
loop-i-preserved c =
    let rows = c.args.rows.now in
    let i = c.loop-i.i in
    let before = contains_text c.loop-i.keep in
    let old = c.loop-i.invariant in
    let Step = λ (keep : BTreeSet (String Global)).
    KeepsLoud (contains_text keep) c.args.keep.now
    × ((k : ℕ) (m : Member) → k < i + 1 → slice_get rows k ≡ Some m → is_needed m ≡ true → contains_text keep m.name.now ≡ true)
    × ((q : List ℕ) → contains_text keep q ≡ true → (contains_text c.args.keep.now q || is_needed_name rows q) ≡ true) in
    elim c.if-is_needed.branch [
      | then-is_needed+in_ok-keep_name w ↦
          let kept = w.in_ok-keep_name.ensures in
          let now = contains_text w.keep_name.new.keep in
          let needed = sym c.is_needed.ensures ∙ w.if-is_needed.true in
          subst Step (sym w.keep-is) (
            λ q has. kept.old q (old.0 q has),
            needed_step rows i _ before now (omega arith) kept.old (λ n. kept.new) old.1,
            λ q. one_more_needed rows i _ q (contains_text c.args.keep.now q) (before q) (now q) (omega arith) needed (old.2 q) (kept.only q),
          )
      | else-is_needed w ↦
          subst Step (sym w.keep-is) (
            old.0,
            needed_step rows i _ before before (omega arith) (λ q has. has) (λ n. let never : false ≡ true = sym w.if-is_needed.false ∙ c.is_needed.ensures ∙ n in absurd (cc)) old.1,
            old.2,
          )
    ]
