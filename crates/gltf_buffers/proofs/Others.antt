-- Chunks of other kinds, one after the other, as a loop passes over them.
use Rattle.std.proofs.Common.{◌≡◌, ℕ, zero, suc, ◌≤◌, cond, eqb, true, false, List, [], ◌∷◌, length, Result, Ok, Err, refl, ap, ◌∙◌, arith}
use Rattle.std.proofs.lemmas.Bool.{eqb-true, eq-eqb, ne_eqb}
use Rattle.gltf_buffers.specs.declared.error.GlbError.{GlbError}
use Rattle.gltf_buffers.specs.declared.error.GlbError.TheVariants.{SecondJson, MisplacedBin}
use Rattle.gltf_buffers.specs.Container.{json_kind, bin_kind}
use Rattle.gltf_buffers.specs.Reading.{◌>>=◌, chunk_at, others_at, others_of}
use Rattle.gltf_buffers.proofs.Steps.{chunk_shortens}

bind_same : {A B : Type 0} (r : Result A GlbError) (f g : A → Result B GlbError) → ((x : A) → r ≡ Ok x → f x ≡ g x) → (r >>= f) ≡ (r >>= g)
bind_same (Ok x) f g h = h x refl
bind_same (Err e) f g h = refl

-- what is behind a chunk, if it is of another kind
abbrev pub behind : ℕ → ℕ × List ℕ × List ℕ → Result (Unit {0}) GlbError
behind n c = cond (eqb c.0 json_kind) (Err SecondJson) (cond (eqb c.0 bin_kind) (Err MisplacedBin) (others_at n c.2))

-- any number of chunks does that is no less than that of the bytes
pub others_same : (n m : ℕ) (bytes : List ℕ) → length bytes ≤ n → length bytes ≤ m → others_at n bytes ≡ others_at m bytes
unfolding others_at
others_same zero zero bytes h k = refl
others_same zero (suc m) [] h k = refl
others_same (suc n) zero [] h k = refl
others_same (suc n) (suc m) [] h k = refl
others_same zero (suc m) (b ∷ bytes) h k = absurd (omega (arith, h))
others_same (suc n) zero (b ∷ bytes) h k = absurd (omega (arith, k))
others_same (suc n) (suc m) (b ∷ bytes) h k =
    bind_same (chunk_at (b ∷ bytes)) (behind n) (behind m) (λ c e.
    let shorter = chunk_shortens (b ∷ bytes) c e in
    ap (λ (r : Result (Unit {0}) GlbError). cond (eqb c.0 json_kind) (Err SecondJson) (cond (eqb c.0 bin_kind) (Err MisplacedBin) r))
    (others_same n m c.2 (omega (arith, shorter, h)) (omega (arith, shorter, k))))

pub others_of-cons : (b : ℕ) (bytes : List ℕ) → others_of (b ∷ bytes) ≡ (chunk_at (b ∷ bytes) >>= λ c. cond (eqb c.0 json_kind) (Err SecondJson) (cond (eqb c.0 bin_kind) (Err MisplacedBin) (others_of c.2)))
unfolding others_at
others_of-cons b bytes =
    bind_same (chunk_at (b ∷ bytes)) (behind (length bytes)) (λ c. behind (length c.2) c) (λ c e.
    let shorter = chunk_shortens (b ∷ bytes) c e in
    ap (λ (r : Result (Unit {0}) GlbError). cond (eqb c.0 json_kind) (Err SecondJson) (cond (eqb c.0 bin_kind) (Err MisplacedBin) r))
    (others_same (length bytes) (length c.2) c.2 (omega (arith, shorter)) (omega arith)))

pub others_of-faulty : (bytes : List ℕ) (e : GlbError) → eqb (length bytes) 0 ≡ false → chunk_at bytes ≡ Err e → others_of bytes ≡ Err e
others_of-faulty [] e some h = absurd cc
others_of-faulty (b ∷ bytes) e some h = others_of-cons b bytes ∙ rw h refl

pub others_of-json : (bytes : List ℕ) (c : ℕ × List ℕ × List ℕ) → eqb (length bytes) 0 ≡ false → chunk_at bytes ≡ Ok c → c.0 ≡ json_kind → others_of bytes ≡ Err SecondJson
others_of-json [] c some h is = absurd cc
others_of-json (b ∷ bytes) c some h is = others_of-cons b bytes ∙ rw (h, eq-eqb _ _ is) refl

pub others_of-bin : (bytes : List ℕ) (c : ℕ × List ℕ × List ℕ) → eqb (length bytes) 0 ≡ false → chunk_at bytes ≡ Ok c → (c.0 ≡ json_kind → ⊥) → c.0 ≡ bin_kind → others_of bytes ≡ Err MisplacedBin
others_of-bin [] c some h no_json is = absurd cc
others_of-bin (b ∷ bytes) c some h no_json is = others_of-cons b bytes ∙ rw (h, ne_eqb _ _ no_json, eq-eqb _ _ is) refl

pub others_of-other : (bytes : List ℕ) (c : ℕ × List ℕ × List ℕ) → eqb (length bytes) 0 ≡ false → chunk_at bytes ≡ Ok c → (c.0 ≡ json_kind → ⊥) → (c.0 ≡ bin_kind → ⊥) → others_of bytes ≡ others_of c.2
others_of-other [] c some h no_json no_bin = absurd cc
others_of-other (b ∷ bytes) c some h no_json no_bin = others_of-cons b bytes ∙ rw (h, ne_eqb _ _ no_json, ne_eqb _ _ no_bin) refl

pub others_of-nothing : (bytes : List ℕ) → eqb (length bytes) 0 ≡ true → others_of bytes ≡ Ok tt
unfolding others_at
others_of-nothing [] none = refl
others_of-nothing (b ∷ bytes) none = absurd (omega (arith, eqb-true _ _ none))
