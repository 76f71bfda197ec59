-- What is printed for a document: the tokens that a writer takes, the bytes that it makes of them,
-- and what these are read as.
use Rattle.std.proofs.Common.{◌≡◌, ◌≤◌, ◌∙◌, ap, sym, subst, ℕ, List, [], ◌++◌, Bool, true, Option, Some, None, option_and_then, Result, Ok, Err, IfOk, IsSomeAnd, append-nil, arith, IsUtf8}
use Rattle.std.proofs.lemmas.Option.{MatchOption-at_none}
use Rattle.json.proofs.Printed.Trees.{value-json_tokens}
use Rattle.json.specs.Json as json
use Rattle.json.specs.Layout.{pretty as pretty_print}
use Rattle.json.specs.Lex.{tokens}
use Rattle.json.specs.Print.{print}
use Rattle.json.specs.Token.{Token}
use Rattle.serde_json.specs.Data.{Data, depth}
use Rattle.serde_json.specs.Read.{of_json, read as read_json, max_depth}
use Rattle.serde_json.specs.Written.{IsInOrder, WritesValue}
use Rattle.serde_json.proofs.Texts.{tokens_from_order, print-outline}
use Rattle.gltf_base.specs.declared.error.Error.{Error}
use Rattle.gltf_schema.specs.Printings.{Printed, Begins, PrintsValue, Finishes}
use Rattle.gltf_schema.specs.Plain.{is_plain}
use Rattle.gltf_schema.specs.Tree.{Tree}
use Rattle.gltf_schema.specs.Write.{write}
use Rattle.gltf_schema.proofs.ReadBack.{read_back}
use Rattle.gltf_root.specs.Answer.{answer, document, tree_answer}
use Rattle.gltf_root.specs.Root.{root_kind}
use Rattle.gltf_root.specs.RootDerived.{root_sound}
use Rattle.gltf_root.specs.Written.{IsCompact, IsCompactOf, IsPretty, IsPrettyOf, IsReadBack}
use Rattle.gltf_root.proofs.AnswerLemmas.{answer-json}

-- ---- what a writer takes

-- a writer that was finished has taken the value's tokens behind those that it had
pub taken_tokens : {W : Type 0} (tokens_of : W → List Token) (before : W → List ℕ) (d : Option Data) (invalid : Bool) (out : W) (begun done : Printed) (r : Result W Error)
    → Begins tokens_of before out begun → PrintsValue begun d invalid done → Finishes tokens_of before done r → IfOk r (λ w. IsSomeAnd d (λ x. WritesValue x (tokens_of out) (tokens_of w)))
taken_tokens tokens_of before d invalid out begun done (Ok w) begins prints ends =
    let fresh = subst (λ (p : Printed). PrintsValue p d invalid done) begins.is prints in
    subst (λ ts. IsSomeAnd d (λ x. WritesValue x (tokens_of out) ts)) ends.is.1 (MatchOption-at_none _ _ ends.is.0 fresh.is).2
taken_tokens tokens_of before d invalid out begun done (Err e) begins prints ends = tt

-- ---- the bytes of these tokens

-- a text of the tokens has what they were written for, in order
in_order : (d : Data) (ts : List Token) (bytes : List ℕ) → WritesValue d [] ts → tokens bytes ≡ ts → IsInOrder bytes d
in_order d ts bytes w same = (w.0, same ∙ w.1, w.4)

-- what is read of a text that has a value and nothing behind it
abbrev alone : Option (json.Json × List Token) → Option Data
alone o = option_and_then of_json (option_and_then (λ p. json.if_last p.0 p.1) o)

-- and reads as that
read_again : (d : Data) (ts : List Token) (bytes : List ℕ) → WritesValue d [] ts → tokens bytes ≡ ts → depth d ≤ max_depth → read_json bytes ≡ Some d
read_again d ts bytes w same shallow =
    let all = same ∙ w.1 ∙ sym (append-nil _) in
    ap alone (ap (json.value max_depth) all ∙ value-json_tokens w.0 max_depth [] (omega (arith, w.3))) ∙ w.2

compact_of : (d : Data) (ts : List Token) (bytes : List ℕ) → WritesValue d [] ts → bytes ≡ print ts → tokens (print ts) ≡ ts → IsUtf8 bytes → IsCompact d bytes
compact_of d ts bytes w printed back utf8 =
    let same : tokens bytes ≡ ts = ap tokens printed ∙ back in
    let compact : bytes ≡ print (tokens bytes) = printed ∙ ap print (sym same) in
    let order = in_order d ts bytes w same in
    record {
      utf8 = utf8;
      exact = λ none. compact ∙ ap print (tokens_from_order bytes d order none) ∙ print-outline d;
      compact = compact;
      in_order = order;
      reads_back = read_again d ts bytes w same;
    }

pretty_of : (d : Data) (ts : List Token) (bytes : List ℕ) → WritesValue d [] ts → tokens bytes ≡ ts → bytes ≡ pretty_print ts → IsUtf8 bytes → IsPretty d bytes
pretty_of d ts bytes w same printed utf8 =
    let laid_out : bytes ≡ pretty_print (tokens bytes) = printed ∙ ap pretty_print (sym same) in
    let order = in_order d ts bytes w same in
    record {
      utf8 = utf8;
      exact = λ none. laid_out ∙ ap pretty_print (tokens_from_order bytes d order none);
      laid_out = laid_out;
      in_order = order;
      reads_back = read_again d ts bytes w same;
    }

-- the text in one line, from what a writer had at first and has at the end
pub compact_bytes : (d : Option Data) (old ts : List Token) (before start bytes : List ℕ) → IsSomeAnd d (λ x. WritesValue x old ts) → old ≡ [] → before ≡ start → start ≡ []
    → bytes ≡ before ++ print ts → tokens (print ts) ≡ ts → IsUtf8 (print ts) → IsSomeAnd d (λ x. IsCompact x bytes)
compact_bytes None old ts before start bytes w first kept empty printed back utf8 = absurd w
compact_bytes (Some d) old ts before start bytes w first kept empty printed back utf8 =
    let whole : bytes ≡ print ts = printed ∙ ap (λ l. l ++ print ts) (kept ∙ empty) in
    compact_of d ts bytes (subst (λ l. WritesValue d l ts) first w) whole back (subst IsUtf8 (sym whole) utf8)

-- and the text in lines
pub pretty_bytes : (d : Option Data) (old ts : List Token) (bytes : List ℕ) → IsSomeAnd d (λ x. WritesValue x old ts) → old ≡ [] → tokens bytes ≡ ts → bytes ≡ pretty_print ts → IsUtf8 bytes
    → IsSomeAnd d (λ x. IsPretty x bytes)
pretty_bytes None old ts bytes w first same printed utf8 = absurd w
pretty_bytes (Some d) old ts bytes w first same printed utf8 = pretty_of d ts bytes (subst (λ l. WritesValue d l ts) first w) same printed utf8

-- ---- what the bytes are read as

-- a plain document reads back from bytes that read as its JSON
document_again : (t : Tree) (d : Data) (bytes : List ℕ) → write root_kind t ≡ Some d → IsUtf8 bytes → (depth d ≤ max_depth → read_json bytes ≡ Some d) → depth d ≤ max_depth
    → is_plain root_kind t ≡ true → answer bytes ≡ document t
document_again t d bytes written utf8 reads shallow plain = answer-json bytes d utf8 (reads shallow) ∙ ap tree_answer (read_back root_kind t d root_sound plain written)

pub compact_read_back : (t : Tree) (bytes : List ℕ) → IsCompactOf t bytes → IsReadBack t bytes
compact_read_back t bytes h d written =
    let text = subst (λ o. IsSomeAnd o (λ x. IsCompact x bytes)) written h in document_again t d bytes written text.utf8 text.reads_back

pub pretty_read_back : (t : Tree) (bytes : List ℕ) → IsPrettyOf t bytes → IsReadBack t bytes
pretty_read_back t bytes h d written =
    let text = subst (λ o. IsSomeAnd o (λ x. IsPretty x bytes)) written h in document_again t d bytes written text.utf8 text.reads_back
