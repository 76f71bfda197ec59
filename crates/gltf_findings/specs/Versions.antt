-- The versions of a document (glTF 2.0, sections 3.2 and 5.9).
use Rattle.std.specs.Prelude.{ℕ, ◌+◌, ◌-◌, ◌*◌, ◌^◌, min, ◌==◌, List, [], ◌∷◌, take, drop, length, Bool, false, not, ◌&&◌, ◌||◌, if◌then◌else◌, nat_lt, nat_le, is_some, is_none, option_map, Option, Some, None, String, string_bytes}
use Rattle.std.specs.declared.alloc.Global.{Global}
use Rattle.gltf_scene.specs.declared.asset.Asset.{Asset as Metadata}
use Rattle.gltf_findings.specs.declared.version.Version.{Version as Pair}
use Rattle.gltf_findings_codes.specs.declared.code.Code.TheVariants.{PatternMismatch, UnknownAssetMajorVersion, UnknownAssetMinorVersion, AssetMinVersionGreaterThanVersion}
use Rattle.gltf_findings_codes.specs.declared.name.Name.TheVariants.{Asset, Version, MinVersion}
use Rattle.gltf_findings_codes.specs.declared.finding.Object.{Object}
use Rattle.gltf_findings_codes.specs.declared.finding.Object.TheVariants.{Top}
use Rattle.gltf_findings_codes.specs.declared.finding.Subject.TheVariants.{Member}
use Rattle.gltf_findings_codes.specs.declared.finding.Finding.{Finding}
use Rattle.gltf_findings_codes.specs.Found.{broken}

abbrev pub is_digit : ℕ → Bool
is_digit c = nat_le 48 c && nat_le c 57

-- what digits behind a number make of it; a number that a machine word cannot be counts as the greatest that it can
abbrev pub value_from : ℕ → List ℕ → Option ℕ
value_from n [] = Some n
value_from n (c ∷ cs) = if is_digit c then value_from (min (min (n * 10) (2 ^ 64 - 1) + (c - 48)) (2 ^ 64 - 1)) cs else None

-- the number that digits are, of which there is one at least
abbrev pub digits_of : List ℕ → Option ℕ
digits_of [] = None
digits_of (c ∷ cs) = value_from 0 (c ∷ cs)

-- how many bytes stand before the first point
abbrev pub point_in : List ℕ → ℕ
point_in [] = 0
point_in (c ∷ cs) = if c == 46 then 0 else point_in cs + 1

abbrev pub pair_of : Option ℕ → Option ℕ → Option (ℕ × ℕ)
pair_of (Some a) (Some b) = Some (a, b)
pair_of _ _ = None

-- section 5.9.3: `^[0-9]+\.[0-9]+$`, as major and minor version
abbrev pub version_of : List ℕ → Option (ℕ × ℕ)
version_of text = if point_in text == length text then None else pair_of (digits_of (take (point_in text) text)) (digits_of (drop (point_in text + 1) text))

abbrev pub least_of : Option (String Global) → Option (ℕ × ℕ)
least_of None = None
least_of (Some text) = version_of (string_bytes text)

abbrev pub numbers_of : Option Pair → Option (ℕ × ℕ)
numbers_of None = None
numbers_of (Some v) = Some (v.major, v.minor)

abbrev pub is_other_major : Option (ℕ × ℕ) → Bool
is_other_major None = false
is_other_major (Some v) = not (v.0 == 2)

abbrev pub is_later_minor : Option (ℕ × ℕ) → Bool
is_later_minor None = false
is_later_minor (Some v) = v.0 == 2 && nat_lt 0 v.1

abbrev pub is_greater : Option (ℕ × ℕ) → Option (ℕ × ℕ) → Bool
is_greater (Some a) (Some b) = nat_lt b.0 a.0 || (b.0 == a.0 && nat_lt b.1 a.1)
is_greater _ _ = false

abbrev pub asset_rules : Metadata → List (Option Finding)
asset_rules a =
    broken (is_none (version_of (string_bytes a.version))) PatternMismatch (Member (Top Asset) Version)
    ∷ broken (is_some a.min_version && is_none (least_of a.min_version)) PatternMismatch (Member (Top Asset) MinVersion)
    -- section 3.2: this is the specification of version 2.0
    ∷ broken (is_other_major (version_of (string_bytes a.version))) UnknownAssetMajorVersion (Member (Top Asset) Version)
    ∷ broken (is_later_minor (version_of (string_bytes a.version))) UnknownAssetMinorVersion (Member (Top Asset) Version)
    -- section 5.9.4: `minVersion` "MUST NOT be greater than the asset version"
    ∷ broken (is_greater (least_of a.min_version) (version_of (string_bytes a.version))) AssetMinVersionGreaterThanVersion (Member (Top Asset) MinVersion)
    ∷ []
