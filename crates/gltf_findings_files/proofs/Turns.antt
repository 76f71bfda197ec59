-- What the chunks from an offset on give, at each turn of a loop over them.
use Rattle.std.proofs.Common.{◌≡◌, ℕ, zero, suc, ◌+◌, ◌-◌, ◌<◌, ◌≤◌, Bool, true, false, cond, ◌||◌, List, [], ◌++◌, length, refl, sym, subst, ap, ◌∙◌, append-nil, append_assoc, ltb, arith}
use Rattle.std.proofs.lemmas.Bool.{ltb-false}
use Rattle.gltf_findings_files.specs.declared.chunk.Before.{Before}
use Rattle.gltf_findings_files.specs.declared.chunk.Chunk.{Chunk}
use Rattle.gltf_findings_files.specs.declared.finding.GlbFinding.{GlbFinding}
use Rattle.gltf_findings_files.specs.declared.rules.Lengths.{Lengths}
use Rattle.gltf_findings_files.specs.Chunks.{chunk_at, end_of, after}
use Rattle.gltf_findings_files.specs.Found.{found}
use Rattle.gltf_findings_files.specs.Rules.{is_at_end, end_rules, is_last, chunk_rules}
use Rattle.gltf_findings_files.specs.Findings.{chunk_findings}

-- what a chunk and those behind it give
abbrev from_chunk : ℕ → Lengths → List ℕ → Before → Chunk → List GlbFinding
from_chunk n l bytes b c = found (chunk_rules l b c) ++ cond (is_last l c) [] (chunk_findings n l bytes (after b c.kind) (end_of c))

at_end : (n : ℕ) (l : Lengths) (bytes : List ℕ) (b : Before) (offset : ℕ) → 0 < n → is_at_end l offset ≡ true → chunk_findings n l bytes b offset ≡ found (end_rules l offset)
unfolding chunk_findings
at_end zero l bytes b offset some e = absurd (omega (arith, some))
at_end (suc n) l bytes b offset some e = ap (λ (t : Bool). cond t (found (end_rules l offset)) (from_chunk n l bytes b (chunk_at offset bytes))) e

at_chunk : (n : ℕ) (l : Lengths) (bytes : List ℕ) (b : Before) (offset : ℕ) → is_at_end l offset ≡ false → chunk_findings (suc n) l bytes b offset ≡ from_chunk n l bytes b (chunk_at offset bytes)
unfolding chunk_findings
at_chunk n l bytes b offset e = ap (λ (t : Bool). cond t (found (end_rules l offset)) (from_chunk n l bytes b (chunk_at offset bytes))) e

at_last : (n : ℕ) (l : Lengths) (bytes : List ℕ) (b : Before) (offset : ℕ) → 0 < n → is_at_end l offset ≡ false → is_last l (chunk_at offset bytes) ≡ true → chunk_findings n l bytes b offset ≡ found (chunk_rules l b (chunk_at offset bytes))
at_last zero l bytes b offset some e f = absurd (omega (arith, some))
at_last (suc n) l bytes b offset some e f =
    let c = chunk_at offset bytes in
    at_chunk n l bytes b offset e
    ∙ ap (λ (t : Bool). found (chunk_rules l b c) ++ cond t [] (chunk_findings n l bytes (after b c.kind) (end_of c))) f
    ∙ append-nil (found (chunk_rules l b c))

at_other : (n : ℕ) (l : Lengths) (bytes : List ℕ) (b : Before) (offset : ℕ) → 0 < n → is_at_end l offset ≡ false → is_last l (chunk_at offset bytes) ≡ false → chunk_findings n l bytes b offset ≡ found (chunk_rules l b (chunk_at offset bytes)) ++ chunk_findings (n - 1) l bytes (after b (chunk_at offset bytes).kind) (end_of (chunk_at offset bytes))
at_other zero l bytes b offset some e f = absurd (omega (arith, some))
at_other (suc n) l bytes b offset some e f =
    let c = chunk_at offset bytes in
    at_chunk n l bytes b offset e
    ∙ ap (λ (t : Bool). found (chunk_rules l b c) ++ cond t [] (chunk_findings n l bytes (after b c.kind) (end_of c))) f
    ∙ ap (λ (m : ℕ). found (chunk_rules l b c) ++ chunk_findings m l bytes (after b c.kind) (end_of c)) (omega arith)

-- what is added, and then the findings of the chunks from an offset on, is all
pub record AreLeft (added all : List GlbFinding) (l : Lengths) (bytes : List ℕ) (b : Before) (offset : ℕ) : Type 0 where
  pub within : offset ≤ length bytes
  pub turns : ℕ
  pub enough : length bytes < turns + offset
  pub left : added ++ chunk_findings turns l bytes b offset ≡ all

some_turns : (n size offset : ℕ) → size < n + offset → offset ≤ size → 0 < n
some_turns n size offset h k = omega (arith, h, k)

pub left_end : (added all : List GlbFinding) (l : Lengths) (bytes : List ℕ) (b : Before) (offset : ℕ) → AreLeft added all l bytes b offset → is_at_end l offset ≡ true → added ++ found (end_rules l offset) ≡ all
left_end added all l bytes b offset h e =
    ap (λ (xs : List GlbFinding). added ++ xs) (sym (at_end h.turns l bytes b offset (some_turns h.turns (length bytes) offset h.enough h.within) e)) ∙ h.left

pub left_last : (added all : List GlbFinding) (l : Lengths) (bytes : List ℕ) (b : Before) (offset : ℕ) → AreLeft added all l bytes b offset → is_at_end l offset ≡ false → is_last l (chunk_at offset bytes) ≡ true → added ++ found (chunk_rules l b (chunk_at offset bytes)) ≡ all
left_last added all l bytes b offset h e f =
    ap (λ (xs : List GlbFinding). added ++ xs) (sym (at_last h.turns l bytes b offset (some_turns h.turns (length bytes) offset h.enough h.within) e f)) ∙ h.left

or_false : (a b : Bool) → (a || b) ≡ false → b ≡ false
or_false true b h = absurd cc
or_false false b h = h

fewer_turns : (n size offset more end : ℕ) → size < n + offset → offset ≤ size → end ≡ offset + 8 + more → size < (n - 1) + end
fewer_turns n size offset more end h k e = omega (arith, h, k, e)

pub left_other : (added all : List GlbFinding) (l : Lengths) (bytes : List ℕ) (b : Before) (offset : ℕ) → l.actual ≡ length bytes → AreLeft added all l bytes b offset → is_at_end l offset ≡ false → is_last l (chunk_at offset bytes) ≡ false
    → AreLeft (added ++ found (chunk_rules l b (chunk_at offset bytes))) all l bytes (after b (chunk_at offset bytes).kind) (end_of (chunk_at offset bytes))
left_other added all l bytes b offset same h e f =
    let c = chunk_at offset bytes in
    let fits : end_of c ≤ l.actual = ltb-false _ _ (or_false (ltb l.declared (end_of c)) (ltb l.actual (end_of c)) f) in
    let behind = chunk_findings (h.turns - 1) l bytes (after b c.kind) (end_of c) in
    record {
      within = subst (λ (n : ℕ). end_of c ≤ n) same fits;
      turns = h.turns - 1;
      enough = fewer_turns h.turns (length bytes) offset c.size (end_of c) h.enough h.within refl;
      left = append_assoc added (found (chunk_rules l b c)) behind
          ∙ ap (λ (xs : List GlbFinding). added ++ xs) (sym (at_other h.turns l bytes b offset (some_turns h.turns (length bytes) offset h.enough h.within) e f))
          ∙ h.left;
    }
