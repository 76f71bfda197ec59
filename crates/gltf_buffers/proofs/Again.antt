-- A container is read as its parts.
use Rattle.std.proofs.Common.{◌≡◌, ℕ, zero, suc, ◌-◌, ◌^◌, ◌<◌, ◌≤◌, Bool, false, cond, ltb, List, [], ◌∷◌, ◌++◌, length, get_or, take, drop, Option, Some, None, Result, Ok, Err, refl, sym, ap, subst, ◌∙◌, append_assoc, arith}
use Rattle.std.specs.Prelude.{IfSome}
use Rattle.std.specs.List.{AllByRecursion}
use Rattle.std.specs.Int.{w32, from_le_bytes}
use Rattle.std.proofs.lemmas.Bool.{le-ltb, eq-eqb, ne_eqb}
use Rattle.std.proofs.lemmas.List.{take_at, drop_at, length-append}
use Rattle.std.proofs.lemmas.List.Concat.{flat_map-cons}
use Rattle.std.proofs.lemmas.Nat.{from_le_bytes-to_le_bytes_4}
use Rattle.gltf_buffers.specs.declared.error.GlbError.{GlbError}
use Rattle.gltf_buffers.specs.declared.error.GlbError.TheVariants.{HeaderCutOff, ChunkHeaderCutOff}
use Rattle.gltf_buffers.specs.Container.{number, json_kind, bin_kind, chunk, IsContent, Parts, bin_chunk, IsOther, other_chunks, IsGlb}
use Rattle.gltf_buffers.specs.Reading.{◌>>=◌, number_at, magic, header_at, chunk_at, json_at, bin_at, others_at, glb_of}
use Rattle.gltf_buffers.proofs.Steps.{cut, after_magic, header}

abbrev read_of : ℕ → List ℕ → Result (ℕ × List ℕ) GlbError
read_of n rest = Ok (n, rest)

number_again : (missing : GlbError) (n : ℕ) (rest : List ℕ) → n < 2 ^ 32 → number_at missing (number n ++ rest) ≡ Ok (n, rest)
number_again missing n rest lt =
    let long : ltb (length (number n ++ rest)) 4 ≡ false = le-ltb _ _ (omega (arith, length-append (number n) rest)) in
    let text = number n ++ rest in
    ap (λ (b : Bool). cond b (Err missing) (read_of (from_le_bytes w32 (take 4 text)) (drop 4 text))) long ∙ ap (λ (k : ℕ). read_of k rest) (from_le_bytes-to_le_bytes_4 n lt)

chunk_again : (kind : ℕ) (content rest : List ℕ) → kind < 2 ^ 32 → IsContent content → chunk_at (chunk kind content ++ rest) ≡ Ok (kind, content, rest)
unfolding chunk_at
chunk_again kind content rest lt fits =
    let after : List ℕ = number kind ++ (content ++ rest) in
    let long : ltb (length (content ++ rest)) (length content) ≡ false = le-ltb _ _ (omega (arith, length-append content rest)) in
    ap (λ (r : Result (ℕ × List ℕ) GlbError). r >>= λ len. number_at ChunkHeaderCutOff len.1 >>= cut len.0) (number_again ChunkHeaderCutOff (length content) after fits.short)
    ∙ ap (λ (r : Result (ℕ × List ℕ) GlbError). r >>= cut (length content)) (number_again ChunkHeaderCutOff kind (content ++ rest) lt)
    ∙ rw (eq-eqb _ _ fits.aligned, long, take_at content rest (length content) refl, drop_at content rest (length content) refl) refl

header_again : (bytes body : List ℕ) → length bytes < 2 ^ 32 → bytes ≡ header (length bytes) ++ body → header_at bytes ≡ Ok body
unfolding header_at
header_again bytes body short whole =
    let n = length bytes in
    ap (λ (b : List ℕ). number_at HeaderCutOff b >>= after_magic bytes) whole
    ∙ ap (λ (r : Result (ℕ × List ℕ) GlbError). r >>= after_magic bytes) (number_again HeaderCutOff magic (number 2 ++ (number n ++ body)) (omega arith))
    ∙ rw (number_again HeaderCutOff 2 (number n ++ body) (omega arith), number_again HeaderCutOff n body short, eq-eqb n n refl) refl

json_again : (json rest : List ℕ) → IsContent json → (get_or json (length json - 1) 1 ≡ 0 → ⊥) → json_at (chunk json_kind json ++ rest) ≡ Ok (json, rest)
unfolding json_at
json_again json rest fits end = rw (chunk_again json_kind json rest (omega arith) fits, ne_eqb _ _ end) refl

others_cons : (c : ℕ × List ℕ) (others : List (ℕ × List ℕ)) → other_chunks (c ∷ others) ≡ chunk c.0 c.1 ++ other_chunks others
others_cons c others = flat_map-cons (λ (x : ℕ × List ℕ). chunk x.0 x.1) c others

bin_again : (bin : Option (List ℕ)) (others : List (ℕ × List ℕ)) → IfSome bin IsContent → AllByRecursion IsOther others → bin_at (bin_chunk bin ++ other_chunks others) ≡ Ok (bin, other_chunks others)
unfolding bin_at
bin_again (Some bin) others fits each = rw (chunk_again bin_kind bin (other_chunks others) (omega arith) fits) refl
bin_again None [] fits each = refl
bin_again None (c ∷ others) fits each =
    let rest = other_chunks others in
    let one : bin_at (chunk c.0 c.1 ++ rest) ≡ Ok (None, chunk c.0 c.1 ++ rest) = rw (chunk_again c.0 c.1 rest each.0.kind each.0.content, ne_eqb _ _ each.0.no_bin) refl in
    subst (λ (x : List ℕ). bin_at x ≡ Ok (None, x)) (sym (others_cons c others)) one

others_again : (others : List (ℕ × List ℕ)) (n : ℕ) → length (other_chunks others) ≤ n → AllByRecursion IsOther others → others_at n (other_chunks others) ≡ Ok tt
unfolding others_at
others_again [] zero le each = refl
others_again [] (suc n) le each = refl
others_again (c ∷ others) zero le each =
    let rest = other_chunks others in
    let whole : length (other_chunks (c ∷ others)) ≡ length (chunk c.0 c.1 ++ rest) = ap length (others_cons c others) in
    absurd (omega (arith, le, whole, length-append c.1 rest))
others_again (c ∷ others) (suc n) le each =
    let rest = other_chunks others in
    let whole : length (other_chunks (c ∷ others)) ≡ length (chunk c.0 c.1 ++ rest) = ap length (others_cons c others) in
    let shorter : length rest ≤ n = omega (arith, le, whole, length-append c.1 rest) in
    ap (others_at (suc n)) (others_cons c others)
    ∙ rw (chunk_again c.0 c.1 rest each.0.kind each.0.content, ne_eqb _ _ each.0.no_json, ne_eqb _ _ each.0.no_bin) (others_again others n shorter each.1)

pub glb_again : (bytes : List ℕ) (p : Parts) → IsGlb bytes p → glb_of bytes ≡ Ok p
unfolding glb_of
glb_again bytes p g =
    let others = other_chunks g.others in
    let behind_json = bin_chunk p.bin ++ others in
    let body = chunk json_kind p.json ++ behind_json in
    let head = header (length bytes) in
    let whole : bytes ≡ head ++ body = g.whole ∙ append_assoc (head ++ chunk json_kind p.json) (bin_chunk p.bin) others ∙ append_assoc head (chunk json_kind p.json) behind_json in
    rw (header_again bytes body g.short whole, json_again p.json behind_json g.json g.json_end, bin_again p.bin g.others g.bin g.are_others, others_again g.others (length others) (omega arith) g.are_others) refl
