-- The status of a document that was written.
use Rattle.std.proofs.Common.{◌≡◌, false, ℕ, List, Option, Some, None, refl}
use Rattle.std.specs.Prelude.{IsSomeAnd}
use Rattle.serde_json.specs.Data.{Data}
use Rattle.gltf_schema.specs.Invalid.{holds_invalid}
use Rattle.gltf_schema.specs.Tree.{Tree}
use Rattle.gltf_schema.specs.Nulls.{without_nulls}
use Rattle.gltf_schema.proofs.RefusedWhereInvalid.{written_valid}
use Rattle.gltf_root.specs.Answer.{Answer}
use Rattle.gltf_root.specs.Root.{root_kind}
use Rattle.gltf_root.specs.Styled.{strict_json}
use Rattle.gltf_root.specs.Written.{IsCompact}
use Rattle.gltf_c.specs.Calls.{IsWritingOf, rewrite_status}

-- a tree that has JSON holds nothing invalid
has_valid : (t : Tree) (bytes : List ℕ) (o : Option Data) → strict_json t ≡ o → IsSomeAnd o (λ d. IsCompact d bytes) → holds_invalid t ≡ false
has_valid t bytes (Some d) e compact = written_valid (without_nulls root_kind) t d e
has_valid t bytes None e none = absurd none

pub written_status : (due : Answer) (bytes : List ℕ) → IsWritingOf due bytes → 0 ≡ rewrite_status due
written_status due bytes w =
    let valid : holds_invalid w.0 ≡ false = has_valid w.0 bytes (strict_json w.0) refl w.2 in
    rw (w.1, valid) refl
