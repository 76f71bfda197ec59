-- Relative paths in URIs (RFC 3986, sections 2.1, 3.3 and 4.2), which can't leave the folder that they begin in.
use Rattle.std.specs.Prelude.{◌≡◌, ◌≢◌, ◌⊎◌, ℕ, ◌+◌, ◌-◌, ◌<◌, true, List, length, slice_index, IsUtf8}
use Rattle.std.specs.Char.{is_ascii_hexdigit}
use Rattle.percent_encoding.specs.Percent.{percent_decode}
use Rattle.gltf_buffers.specs.declared.path.PathFault.{PathFault}
use Rattle.gltf_buffers.specs.declared.path.PathFault.TheVariants.{Empty, Escape, Parameters, NotUtf8, Absolute, Colon, Backslash, Nul, Parent, Memory}

-- "?" and "#" begin a query and a fragment
abbrev pub IsParameter : ℕ → Type 0
IsParameter b = (b ≡ 63) ⊎ (b ≡ 35)

-- section 2.1: two hexadecimal digits are behind "%"
abbrev pub IsEscape : List ℕ → ℕ → Type 0
IsEscape uri i = (is_ascii_hexdigit (slice_index uri (i + 1)) ≡ true) × (is_ascii_hexdigit (slice_index uri (i + 2)) ≡ true)

-- a byte of a URI that is a path alone
pub record IsPathByte (uri : List ℕ) (i : ℕ) : Type 0 where
  pub no_parameter : IsParameter (slice_index uri i) → ⊥
  pub escape : slice_index uri i ≡ 37 → IsEscape uri i

-- section 3.3: the segment at i is "..". Slashes separate segments
pub record IsParent (path : List ℕ) (i : ℕ) : Type 0 where
  pub within : i + 1 < length path
  pub first : slice_index path i ≡ 46
  pub second : slice_index path (i + 1) ≡ 46
  pub begins : (i ≡ 0) ⊎ (slice_index path (i - 1) ≡ 47)
  pub ends : (i + 2 ≡ length path) ⊎ (slice_index path (i + 2) ≡ 47)

-- at i is no zero, no backslash, no colon (which ends a scheme or the name of a drive) and no ".."
pub record IsPlain (path : List ℕ) (i : ℕ) : Type 0 where
  pub no_zero : slice_index path i ≢ 0
  pub no_backslash : slice_index path i ≢ 92
  pub no_colon : slice_index path i ≢ 58
  pub no_parent : IsParent path i → ⊥

-- a path without a root, whose segments are no parents
pub record IsRelative (path : List ℕ) : Type 0 where
  pub some : 0 < length path
  pub no_root : slice_index path 0 ≢ 47
  pub plain : (i : ℕ) → i < length path → IsPlain path i

-- the path that a URI is
pub record IsPathOf (uri path : List ℕ) : Type 0 where
  pub path_alone : (i : ℕ) → i < length uri → IsPathByte uri i
  pub decoded : path ≡ percent_decode uri
  pub relative : IsRelative path

abbrev pub HasByte : List ℕ → ℕ → Type 0
HasByte xs b = (i : ℕ) × (i < length xs) × (slice_index xs i ≡ b)

-- why the text of a URI is no path alone
abbrev pub IsTextFault : List ℕ → PathFault → Type 0
IsTextFault uri Parameters = (i : ℕ) × (i < length uri) × IsParameter (slice_index uri i)
IsTextFault uri Escape = (i : ℕ) × (i < length uri) × (slice_index uri i ≡ 37) × (IsEscape uri i → ⊥)
IsTextFault uri f = ⊥

-- why a path isn't relative
abbrev pub IsRelativeFault : List ℕ → PathFault → Type 0
IsRelativeFault path Empty = length path ≡ 0
IsRelativeFault path Absolute = slice_index path 0 ≡ 47
IsRelativeFault path Colon = HasByte path 58
IsRelativeFault path Backslash = HasByte path 92
IsRelativeFault path Nul = HasByte path 0
IsRelativeFault path Parent = (i : ℕ) × IsParent path i
IsRelativeFault path f = ⊥

-- why a URI is no relative path
abbrev pub IsPathFault : List ℕ → PathFault → Type 0
IsPathFault uri NotUtf8 = IsUtf8 (percent_decode uri) → ⊥
IsPathFault uri (Memory e) = Unit {0}
IsPathFault uri f = IsTextFault uri f ⊎ IsRelativeFault (percent_decode uri) f

abbrev pub IsPathMemory : PathFault → Type 0
IsPathMemory (Memory e) = Unit {0}
IsPathMemory f = ⊥
