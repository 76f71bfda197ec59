-- A byte that begins a token is one more start, and any other is a separator.
use Rattle.std.proofs.Common.{◌≡◌, ℕ, ◌+◌, true, false, List, length, get_or, slice_get, Some, refl, sym, ◌∙◌, subst, arith}
use Rattle.std.proofs.lemmas.Option.{none-some}
use Rattle.gltf_findings_lines.specs.declared.position.Position.{Position}
use Rattle.gltf_findings_lines.specs.Positions.{BeginsAt}
use Rattle.gltf_findings_lines.specs.Modes.{begun_at}
use Rattle.gltf_findings_lines.proofs.Lexing.{tokens_begun-nil, rests_between, rest_count, rest_behind, separator_behind, each_push}
use Rattle.gltf_findings_lines.proofs.starts.starts_of.Goals as goal

abbrev EachBegins : List ℕ → List Position → Type 0
EachBegins text starts = (n : ℕ) (p : Position) → slice_get starts n ≡ Some p → BeginsAt text n p

pub loop-cursor-init : goal.loop-cursor-init
loop-cursor-init c =
    let bytes = c.as_bytes-bytes.result.now in
    record {
      cursor = record { within = omega arith; line = refl; column = refl };
      rests = rests_between bytes 0 refl;
      count = c.new-starts.ensures.len ∙ sym tokens_begun-nil;
      each = subst (EachBegins bytes) (sym c.new-starts.ensures.items) (λ n p e. absurd (none-some p e));
    }

pub loop-cursor-preserved-then-begins_token : goal.loop-cursor-preserved-then-begins_token
loop-cursor-preserved-then-begins_token c =
    let bytes = c.as_bytes-bytes.result.now in
    let old = c.loop-cursor.starts in
    let i = c.loop-cursor.cursor.offset in
    let known = c.loop-cursor.invariant in
    let begins = rest_count bytes i (i + 1) c.loop-cursor-test.true refl known.rests true (sym c.begins_token.ensures ∙ c.if-begins_token.true) in
    let number : length old.items ≡ begun_at bytes i = omega (arith, old.ok.0) in
    let here : BeginsAt bytes (length old.items) c.position.result =
    record { offset = i; before = sym number; begins = omega arith; line = omega arith; column = omega (arith, known.cursor.column) } in
    record {
      cursor = c.past_token-cursor.ensures.cursor;
      rests = c.past_token-cursor.ensures.rests;
      count = omega (arith, c.in_ok-push.ensures.len, c.past_token-cursor.ensures.count);
      each = subst (EachBegins bytes) (sym {A = List Position} c.in_ok-push.ensures.items) (each_push (BeginsAt bytes) old.items c.position.result known.each here);
    }

pub loop-cursor-preserved : goal.loop-cursor-preserved
loop-cursor-preserved c =
    let bytes = c.as_bytes-bytes.result.now in
    let i = c.loop-cursor.cursor.offset in
    let j = c.past-cursor.result.offset in
    let known = c.loop-cursor.invariant in
    let begins = sym c.begins_token.ensures ∙ c.if-begins_token.false in
    let count = rest_count bytes i j c.loop-cursor-test.true c.past-cursor.ensures.offset known.rests false begins in
    record {
      cursor = c.past-cursor.ensures.cursor;
      rests = rests_between bytes j (rest_behind bytes i j c.loop-cursor-test.true c.past-cursor.ensures.offset known.rests ∙ separator_behind (get_or bytes i 0) begins);
      count = omega arith;
      each = known.each;
    }
