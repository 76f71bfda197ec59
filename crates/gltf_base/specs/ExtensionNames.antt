-- The extensions that a document may require where nobody rules otherwise, each by its name.
use Rattle.std.specs.Prelude.{ℕ, List, [], ◌∷◌, codes}

abbrev pub enabled_extensions : List (List ℕ)
enabled_extensions =
    codes "KHR_lights_punctual"
    ∷ codes "KHR_materials_pbrSpecularGlossiness"
    ∷ codes "KHR_materials_unlit"
    ∷ codes "KHR_texture_transform"
    ∷ codes "KHR_materials_transmission"
    ∷ codes "KHR_materials_ior"
    ∷ codes "KHR_materials_emissive_strength"
    ∷ []
