-- The names of extensions (glTF 2.0, section 3.12).
use Rattle.std.specs.Prelude.{ℕ, ◌+◌, ◌==◌, List, [], ◌∷◌, ◌++◌, length, Bool, true, false, not, ◌&&◌, ◌||◌, if◌then◌else◌, nat_le, bytes_eq, codes, Option, String, string_bytes}
use Rattle.std.specs.declared.alloc.Global.{Global}
use Rattle.gltf_findings_codes.specs.declared.code.Code.TheVariants.{DuplicateElements, InvalidExtensionNameFormat, NonRequiredExtension, UnsupportedExtension, UnusedExtensionRequired}
use Rattle.gltf_findings_codes.specs.declared.name.Name.TheVariants.{ExtensionsUsed, ExtensionsRequired}
use Rattle.gltf_findings_codes.specs.declared.name.Name.{Name}
use Rattle.gltf_findings_codes.specs.declared.finding.Object.TheVariants.{Document}
use Rattle.gltf_findings_codes.specs.declared.finding.Subject.TheVariants.{Member, Entry}
use Rattle.gltf_findings_codes.specs.declared.finding.Finding.{Finding}
use Rattle.gltf_findings_codes.specs.Found.{broken, found}

abbrev pub is_listed : List (String Global) → List ℕ → Bool
is_listed [] name = false
is_listed (x ∷ xs) name = bytes_eq (string_bytes x) name || is_listed xs name

abbrev pub is_capital : ℕ → Bool
is_capital c = (nat_le 65 c && nat_le c 90) || (nat_le 48 c && nat_le c 57)

abbrev pub is_word_byte : ℕ → Bool
is_word_byte c = (is_capital c || (nat_le 97 c && nat_le c 122)) || c == 95

abbrev pub all_word : List ℕ → Bool
all_word [] = true
all_word (c ∷ cs) = is_word_byte c && all_word cs

abbrev pub is_word : List ℕ → Bool
is_word cs = all_word cs && not (length cs == 0)

-- `[A-Z0-9]+_[A-Za-z0-9_]+`, behind a part of the prefix or at its start
abbrev pub name_from : Bool → List ℕ → Bool
name_from is_begun [] = false
name_from is_begun (c ∷ cs) = if is_capital c then name_from true cs else ((is_begun && c == 95) && is_word cs)

abbrev pub is_material_extension : List ℕ → Bool
is_material_extension name = ((((((bytes_eq name (codes "KHR_materials_emissive_strength") || bytes_eq name (codes "KHR_materials_ior")) || bytes_eq name (codes "KHR_materials_pbrSpecularGlossiness")) || bytes_eq name (codes "KHR_materials_specular")) || bytes_eq name (codes "KHR_materials_transmission")) || bytes_eq name (codes "KHR_materials_unlit")) || bytes_eq name (codes "KHR_materials_variants")) || bytes_eq name (codes "KHR_materials_volume")

abbrev pub is_other_extension : List ℕ → Bool
is_other_extension name = (bytes_eq name (codes "KHR_lights_punctual") || bytes_eq name (codes "KHR_mesh_quantization")) || bytes_eq name (codes "KHR_texture_transform")

-- the rules know what the objects of an extension name
abbrev pub is_supported : List ℕ → Bool
is_supported name = is_material_extension name || is_other_extension name

abbrev pub are_supported : List (String Global) → Bool
are_supported [] = true
are_supported (x ∷ xs) = is_supported (string_bytes x) && are_supported xs

abbrev pub name_rules : ℕ → List ℕ → List Finding
name_rules k name =
    found (broken (not (name_from false name)) InvalidExtensionNameFormat (Entry Document ExtensionsUsed k)
    ∷ broken (not (is_supported name)) UnsupportedExtension (Entry Document ExtensionsUsed k)
    ∷ [])

-- KHR_mesh_quantization: "MUST be included in extensionsRequired"
abbrev pub use_rules : List (String Global) → List (String Global) → List (Option Finding)
use_rules used required = broken (is_listed used (codes "KHR_mesh_quantization") && not (is_listed required (codes "KHR_mesh_quantization"))) NonRequiredExtension (Member Document ExtensionsUsed) ∷ []

-- an extension that is required and not used
abbrev pub required_findings : List (String Global) → ℕ → String Global → List Finding
required_findings used k name = found (broken (not (is_listed used (string_bytes name))) UnusedExtensionRequired (Entry Document ExtensionsRequired k) ∷ [])

-- sections 5.17.1 and 5.17.2: "Each element in the array MUST be unique"; the names from a place on, behind others
abbrev pub name_repeats : Name → List (String Global) → ℕ → List (String Global) → List Finding
name_repeats list before k [] = []
name_repeats list before k (x ∷ xs) =
    found (broken (is_listed before (string_bytes x)) DuplicateElements (Entry Document list k) ∷ [])
    ++ name_repeats list (x ∷ before) (k + 1) xs
