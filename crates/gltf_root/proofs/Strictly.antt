-- What is printed for a document without nulls for absent members.
use Rattle.std.proofs.Common.{◌≡◌, ◌≤◌, ◌∙◌, ap, sym, subst, ℕ, List, Bool, true, Option, Some, Result, Ok, Err, IfErr, IsSomeAnd}
use Rattle.std.proofs.lemmas.Option.{MatchOption-at_none, MatchOption-at_some}
use Rattle.json.specs.Token.{Token}
use Rattle.serde_json.specs.Data.{Data, depth}
use Rattle.serde_json.specs.Read.{max_depth}
use Rattle.gltf_base.specs.declared.error.Error.{Error}
use Rattle.gltf_schema.specs.Invalid.{holds_invalid}
use Rattle.gltf_schema.specs.Nulls.{without_nulls}
use Rattle.gltf_schema.specs.Outcome.{Withholds}
use Rattle.gltf_schema.specs.Plain.{is_plain}
use Rattle.gltf_schema.specs.Printings.{Printed, Begins, PrintsValue, Finishes}
use Rattle.gltf_schema.specs.Tree.{Tree}
use Rattle.gltf_schema.specs.Write.{write}
use Rattle.gltf_schema.proofs.NullsLeftOut.{back_without_nulls, none_with_nulls}
use Rattle.gltf_schema.proofs.Putting.{withheld_through}
use Rattle.gltf_root.specs.Answer.{answer, document, tree_answer}
use Rattle.gltf_root.specs.Root.{root_kind}
use Rattle.gltf_root.specs.RootDerived.{root_sound}
use Rattle.gltf_root.specs.Styled.{strict_json}
use Rattle.gltf_root.specs.Written.{IsCompact, IsPretty, IsWithheld}
use Rattle.gltf_root.proofs.AnswerLemmas.{answer-json}
use Rattle.std.specs.Prelude.{IsUtf8}
use Rattle.serde_json.specs.Read.{read as read_json}

-- what is withheld without nulls is withheld with them
withheld_with_nulls : (t : Tree) (e : Error) → Withholds e (strict_json t) (holds_invalid t) → IsWithheld t e
withheld_with_nulls t e h =
    withheld_through e (strict_json t) (write root_kind t) (holds_invalid t) (holds_invalid t) (λ g. (none_with_nulls root_kind t g.0, g.1)) h

-- a writer that is not finished met what withholds the document
pub strictly_withheld : {W : Type 0} (tokens_of : W → List Token) (before : W → List ℕ) (t : Tree) (out : W) (begun done : Printed) (r : Result W Error)
    → Begins tokens_of before out begun → PrintsValue begun (strict_json t) (holds_invalid t) done → Finishes tokens_of before done r → IfErr r (IsWithheld t)
strictly_withheld tokens_of before t out begun done (Ok w) begins prints ends = tt
strictly_withheld tokens_of before t out begun done (Err e) begins prints ends =
    let fresh = subst (λ (p : Printed). PrintsValue p (strict_json t) (holds_invalid t) done) begins.is prints in
    withheld_with_nulls t e (MatchOption-at_some _ _ e ends.is fresh.is)

-- a plain document reads back from bytes that read as its JSON without nulls
document_again : (t : Tree) (d : Data) (bytes : List ℕ) → strict_json t ≡ Some d → IsUtf8 bytes → (depth d ≤ max_depth → read_json bytes ≡ Some d) → depth d ≤ max_depth
    → is_plain root_kind t ≡ true → answer bytes ≡ document t
document_again t d bytes written utf8 reads shallow plain =
    answer-json bytes d utf8 (reads shallow) ∙ ap tree_answer (back_without_nulls root_kind t d root_sound plain written)

pub compact_strictly_back : (t : Tree) (bytes : List ℕ) → IsSomeAnd (strict_json t) (λ d. IsCompact d bytes)
    → (d : Data) → strict_json t ≡ Some d → depth d ≤ max_depth → is_plain root_kind t ≡ true → answer bytes ≡ document t
compact_strictly_back t bytes h d written =
    let text = subst (λ o. IsSomeAnd o (λ x. IsCompact x bytes)) written h in document_again t d bytes written text.utf8 text.reads_back

pub pretty_strictly_back : (t : Tree) (bytes : List ℕ) → IsSomeAnd (strict_json t) (λ d. IsPretty d bytes)
    → (d : Data) → strict_json t ≡ Some d → depth d ≤ max_depth → is_plain root_kind t ≡ true → answer bytes ≡ document t
pretty_strictly_back t bytes h d written =
    let text = subst (λ o. IsSomeAnd o (λ x. IsPretty x bytes)) written h in document_again t d bytes written text.utf8 text.reads_back
