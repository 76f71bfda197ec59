-- A word that is there, and the token that it is.
use Rattle.std.proofs.Common.{◌≡◌, ℕ, ◌+◌, true, false, cond, List, ◌∷◌, ◌++◌, length, take, drop, nat_eq, sym, ap, ◌∙◌}
use Rattle.std.proofs.lemmas.List.{take-append-drop, drop-drop}
use Rattle.std.proofs.lemmas.Slice.Eq.{bytes_eq-Decides}
use Rattle.std.specs.List.{starts_with}
use Rattle.json.specs.Token.{boolean, null, bad}
use Rattle.json.specs.Ascii.{true_text, false_text, null_text}
use Rattle.json.specs.Word.{ends_word, word}
use Rattle.json.specs.Lex.{token, between, in_word, lex}
use Rattle.gltf_schema.specs.Lexemes.{IsTokenAt}
use Rattle.gltf_schema.specs.NumberParts.{IsWordAt}
use Rattle.gltf_schema.proofs.Lexing.{past_word}

pub word_there : (d w : List ℕ) (at : ℕ) → starts_with nat_eq (drop at d) w ≡ true → drop at d ≡ w ++ drop (at + length w) d
word_there d w at e =
    let t = drop at d in
    let front : w ≡ take (length w) t = (bytes_eq-Decides w (take (length w) t)).0 e in
    sym (take-append-drop (length w) t) ∙ ap (λ l. l ++ drop (length w) t) (sym front) ∙ ap (λ l. w ++ l) (drop-drop (length w) at d)

null_first : (r : List ℕ) → ends_word r ≡ true → lex between (null_text ++ r) ≡ token null ∷ lex in_word r
unfolding lex word
null_first r e = ap (λ b. token (cond b null bad) ∷ lex in_word r) e

true_first : (r : List ℕ) → ends_word r ≡ true → lex between (true_text ++ r) ≡ token (boolean true) ∷ lex in_word r
unfolding lex word
true_first r e = ap (λ b. token (cond b (boolean true) bad) ∷ lex in_word r) e

false_first : (r : List ℕ) → ends_word r ≡ true → lex between (false_text ++ r) ≡ token (boolean false) ∷ lex in_word r
unfolding lex word
false_first r e = ap (λ b. token (cond b (boolean false) bad) ∷ lex in_word r) e

pub null_at : (d : List ℕ) (at end : ℕ) → IsWordAt d at null_text end → IsTokenAt d at null end
null_at d at end is = ap (lex between) is.0 ∙ null_first (drop end d) is.1 ∙ ap (λ ls. token null ∷ ls) (past_word (drop end d) is.1)

pub true_at : (d : List ℕ) (at end : ℕ) → IsWordAt d at true_text end → IsTokenAt d at (boolean true) end
true_at d at end is = ap (lex between) is.0 ∙ true_first (drop end d) is.1 ∙ ap (λ ls. token (boolean true) ∷ ls) (past_word (drop end d) is.1)

pub false_at : (d : List ℕ) (at end : ℕ) → IsWordAt d at false_text end → IsTokenAt d at (boolean false) end
false_at d at end is = ap (lex between) is.0 ∙ false_first (drop end d) is.1 ∙ ap (λ ls. token (boolean false) ∷ ls) (past_word (drop end d) is.1)
