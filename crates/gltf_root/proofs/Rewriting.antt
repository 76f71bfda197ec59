-- Texts of a document, and what they are read as.
use Rattle.std.proofs.Common.{◌≡◌, ◌≤◌, ◌∙◌, sym, ℕ, List, true, false, Option, Some, None, IsSomeAnd, refl, subst}
use Rattle.serde_json.specs.Data.{Data, depth}
use Rattle.serde_json.specs.Read.{max_depth}
use Rattle.serde_json.specs.Written.{has_float}
use Rattle.gltf_schema.specs.Plain.{is_plain}
use Rattle.gltf_schema.specs.Tree.{Tree}
use Rattle.gltf_schema.specs.Write.{write}
use Rattle.gltf_root.specs.Answer.{answer, document}
use Rattle.gltf_root.specs.Root.{root_kind}
use Rattle.gltf_root.specs.Rewritten.{IsShallow, HoldsNoFloat}
use Rattle.gltf_root.specs.Written.{IsCompact, IsCompactOf, IsPretty, IsPrettyOf, IsReadBack}
use Rattle.gltf_root.proofs.Printed.{compact_read_back, pretty_read_back}

compact_alike : (o : Option Data) (a b : List ℕ) → IsSomeAnd o (λ d. has_float d ≡ false) → IsSomeAnd o (λ d. IsCompact d a) → IsSomeAnd o (λ d. IsCompact d b) → b ≡ a
compact_alike None a b none first again = absurd none
compact_alike (Some d) a b none first again = again.exact none ∙ sym (first.exact none)

pretty_alike : (o : Option Data) (a b : List ℕ) → IsSomeAnd o (λ d. has_float d ≡ false) → IsSomeAnd o (λ d. IsPretty d a) → IsSomeAnd o (λ d. IsPretty d b) → b ≡ a
pretty_alike None a b none first again = absurd none
pretty_alike (Some d) a b none first again = again.exact none ∙ sym (first.exact none)

-- a document without floats has one text in one line, and one in lines
pub one_compact : (t : Tree) (a b : List ℕ) → HoldsNoFloat t → IsCompactOf t a → IsCompactOf t b → b ≡ a
one_compact t a b none first again = compact_alike (write root_kind t) a b none first again

pub one_pretty : (t : Tree) (a b : List ℕ) → HoldsNoFloat t → IsPrettyOf t a → IsPrettyOf t b → b ≡ a
one_pretty t a b none first again = pretty_alike (write root_kind t) a b none first again

same_document : (t u : Tree) → document t ≡ document u → t ≡ u
same_document t u e = cc

same_answer : (t u : Tree) (o : Option Data) (bytes : List ℕ) → write root_kind t ≡ o → IsReadBack t bytes → IsSomeAnd o (λ d. depth d ≤ max_depth) → is_plain root_kind t ≡ true
    → answer bytes ≡ document u → u ≡ t
same_answer t u None bytes written back shallow plain read = absurd shallow
same_answer t u (Some d) bytes written back shallow plain read = same_document u t (sym read ∙ back d written shallow plain)

-- the text of a plain document is read as that document
pub same_read : (t u : Tree) (bytes : List ℕ) → is_plain root_kind t ≡ true → IsShallow t → IsReadBack t bytes → answer bytes ≡ document u → u ≡ t
same_read t u bytes plain shallow back read = same_answer t u _ bytes refl back shallow plain read

-- and written again as the same text
pub compact_again : (t u : Tree) (a b : List ℕ) → is_plain root_kind t ≡ true → IsShallow t → HoldsNoFloat t → IsCompactOf t a → answer a ≡ document u → IsCompactOf u b → b ≡ a
compact_again t u a b plain shallow none first read again =
    one_compact t a b none first (subst (λ x. IsCompactOf x b) (same_read t u a plain shallow (compact_read_back t a first) read) again)

pub pretty_again : (t u : Tree) (a b : List ℕ) → is_plain root_kind t ≡ true → IsShallow t → HoldsNoFloat t → IsPrettyOf t a → answer a ≡ document u → IsPrettyOf u b → b ≡ a
pretty_again t u a b plain shallow none first read again =
    one_pretty t a b none first (subst (λ x. IsPrettyOf x b) (same_read t u a plain shallow (pretty_read_back t a first) read) again)
