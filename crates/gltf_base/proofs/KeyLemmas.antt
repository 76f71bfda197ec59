-- The text of a key, read again.
use Rattle.std.proofs.Common.{◌≡◌, ℕ, ◌^◌, Bool, true, false, codes, List, refl}
use Rattle.std.specs.Str.{bytes_eq}
use Rattle.std.proofs.lemmas.Bool.{false≢true, ltb-true}
use Rattle.std.proofs.lemmas.Slice.Eq.{bytes_eq-Decides}
use Rattle.gltf_base.specs.Keys.{Key, extras, positions, normals, tangents, colors, tex_coords, joints, weights, unknown, key_text}
use Rattle.gltf_base.specs.Names.{set_key, plain_key, key_named, is_named}
use Rattle.gltf_base.proofs.SetLemmas.{set_number-decimal}

-- the text of a semantic's key is read as that key
pub key_named-key_text : (key : Key) → is_named key ≡ true → key_named (key_text key) ≡ key
unfolding key_named
key_named-key_text (extras name) named = refl
key_named-key_text positions named = refl
key_named-key_text normals named = refl
key_named-key_text tangents named = refl
key_named-key_text (colors set) small = rw (set_number-decimal set (ltb-true set (2 ^ 32) small)) refl
key_named-key_text (tex_coords set) small = rw (set_number-decimal set (ltb-true set (2 ^ 32) small)) refl
key_named-key_text (joints set) small = rw (set_number-decimal set (ltb-true set (2 ^ 32) small)) refl
key_named-key_text (weights set) small = rw (set_number-decimal set (ltb-true set (2 ^ 32) small)) refl
key_named-key_text unknown named = absurd (false≢true named)

-- texts that differ are not equal by their bytes
bytes_eq-other : (s t : List ℕ) (b : Bool) → bytes_eq s t ≡ b → (s ≡ t → ⊥) → b ≡ false
bytes_eq-other s t true h other = absurd (other ((bytes_eq-Decides s t).0 h))
bytes_eq-other s t false h other = refl

-- a text that is none of the three names is that of a set, or of nothing
pub plain_key-others : (text : List ℕ) → (text ≡ codes "POSITION" → ⊥) → (text ≡ codes "NORMAL" → ⊥) → (text ≡ codes "TANGENT" → ⊥) → plain_key text ≡ set_key text
plain_key-others text not_position not_normal not_tangent =
    let position = bytes_eq-other text (codes "POSITION") (bytes_eq text (codes "POSITION")) refl not_position in
    let normal = bytes_eq-other text (codes "NORMAL") (bytes_eq text (codes "NORMAL")) refl not_normal in
    let tangent = bytes_eq-other text (codes "TANGENT") (bytes_eq text (codes "TANGENT")) refl not_tangent in
    rw (position, normal, tangent) refl
