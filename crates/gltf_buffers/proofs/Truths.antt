-- What is at fault is no data URI and no path: the faults are no false alarms.
use Rattle.std.proofs.Common.{◌≡◌, ℕ, ◌+◌, ◌⊎◌, true, List, Some, None, subst, sym, ◌∙◌, ap, arith, inl, inr, take, drop}
use Rattle.std.specs.Prelude.{Result, Ok, Err, IfErr, IsUtf8}
use Rattle.std.proofs.lemmas.Bool.{false≢true}
use Rattle.percent_encoding.specs.Percent.{percent_decode}
use Rattle.gltf_buffers.specs.declared.data.DataFault.{DataFault}
use Rattle.gltf_buffers.specs.declared.data.DataFault.TheVariants.{NoComma, NotBase64, Undecodable}
use Rattle.gltf_buffers.specs.declared.data.DataError.{DataError}
use Rattle.gltf_buffers.specs.declared.data.DataError.TheVariants.{Fault, Memory as NoMemory}
use Rattle.gltf_buffers.specs.declared.path.PathFault.{PathFault}
use Rattle.gltf_buffers.specs.declared.path.PathFault.TheVariants.{Empty, Escape, Parameters, NotUtf8, Absolute, Colon, Backslash, Nul, Parent, Memory}
use Rattle.gltf_buffers.specs.Data.{comma_of, says_base64, IsData, IsDataFault, IsDataError, IsOutOfMemory}
use Rattle.gltf_buffers.specs.Paths.{IsRelative, IsPathOf, IsTextFault, IsRelativeFault, IsPathFault, IsPathMemory}

same_comma : (text bytes : List ℕ) (comma : ℕ) (is : IsData text bytes) → comma_of text ≡ Some comma → is.comma ≡ comma
same_comma text bytes comma is at = let both : Some is.comma ≡ Some comma = sym is.first_comma ∙ at in cc

no_data : (text bytes : List ℕ) (f : DataFault) → IsDataFault text f → IsData text bytes → ⊥
no_data text bytes NoComma h is = let both : None ≡ Some is.comma = sym h ∙ is.first_comma in cc
no_data text bytes NotBase64 h is =
    let same : is.comma ≡ h.0 = same_comma text bytes h.0 is h.1 in
    let says : says_base64 (take h.0 text) ≡ true = subst (λ n. says_base64 (take n text) ≡ true) same is.base64 in
    false≢true (sym h.2 ∙ says)
no_data text bytes (Undecodable e) h is =
    let same : is.comma ≡ h.0 = same_comma text bytes h.0 is h.1 in
    h.3.none bytes is.are_bytes (ap (λ n. drop (n + 1) text) (sym same) ∙ is.encoding)

pub only_memory : {T : Type 0} (text bytes : List ℕ) (r : Result T DataError) → IfErr r (IsDataError text) → IsData text bytes → IfErr r IsOutOfMemory
only_memory text bytes (Ok v) h is = tt
only_memory text bytes (Err (Fault f)) h is = absurd (no_data text bytes f h is)
only_memory text bytes (Err (NoMemory e)) h is = tt

no_text : (uri path : List ℕ) (f : PathFault) → IsTextFault uri f → IsPathOf uri path → ⊥
no_text uri path Parameters h is = (is.path_alone h.0 h.1).no_parameter h.2
no_text uri path Escape h is = h.3 ((is.path_alone h.0 h.1).escape h.2)
no_text uri path f h is = h

no_relative : (path : List ℕ) (f : PathFault) → IsRelativeFault path f → IsRelative path → ⊥
no_relative path Empty h is = omega (arith, h, is.some)
no_relative path Absolute h is = is.no_root h
no_relative path Colon h is = (is.plain h.0 h.1).no_colon h.2
no_relative path Backslash h is = (is.plain h.0 h.1).no_backslash h.2
no_relative path Nul h is = (is.plain h.0 h.1).no_zero h.2
no_relative path Parent h is = (is.plain h.0 (omega (arith, h.1.within))).no_parent h.1
no_relative path f h is = h

no_either : (uri path : List ℕ) (f : PathFault) → IsTextFault uri f ⊎ IsRelativeFault (percent_decode uri) f → IsPathOf uri path → ⊥
no_either uri path f h is = elim h [
  | inl t ↦ no_text uri path f t is
  | inr r ↦ no_relative path f (subst (λ p. IsRelativeFault p f) (sym is.decoded) r) is.relative
]

path_memory : (uri path : List ℕ) (f : PathFault) → IsPathFault uri f → IsPathOf uri path → IsUtf8 path → IsPathMemory f
path_memory uri path NotUtf8 h is utf8 = absurd (h (subst IsUtf8 is.decoded utf8))
path_memory uri path (Memory e) h is utf8 = tt
path_memory uri path f h is utf8 = absurd (no_either uri path f h is)

pub only_path_memory : {T : Type 0} (uri path : List ℕ) (r : Result T PathFault) → IfErr r (IsPathFault uri) → IsPathOf uri path → IsUtf8 path → IfErr r IsPathMemory
only_path_memory uri path (Ok v) h is utf8 = tt
only_path_memory uri path (Err f) h is utf8 = path_memory uri path f h is utf8
