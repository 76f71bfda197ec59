-- The pieces of a file are a container.
use Rattle.std.proofs.Common.{◌≡◌, ℕ, zero, suc, ◌<◌, ◌+◌, ◌-◌, ◌%◌, ◌^◌, List, [], ◌++◌, length, get_or, Option, Some, None, Ok, refl, sym, ◌∙◌, ap, subst, arith, append-nil, length-append, replicate}
use Rattle.std.specs.Prelude.{option_map, IfSome}
use Rattle.std.proofs.lemmas.List.{get_or-replicate, get_or-append-add}
use Rattle.gltf_buffers.specs.Container.{json_kind, bin_kind, chunk, IsContent, bin_chunk, IsGlb}
use Rattle.gltf_buffers.specs.Reading.{glb_of}
use Rattle.gltf_buffers.specs.Writing.{padding_of, padded, padded_parts, header, bin_length, file_length, file_bytes, EndsWithZero, IsWritable, IsFileLength, IsShort}
use Rattle.gltf_buffers.proofs.Again.{glb_again}
use Rattle.gltf_buffers.proofs.Joined.{length_padded}

pub aligned : (n : ℕ) → (n + padding_of n) % 4 ≡ 0
aligned n = omega arith

pub is_content : (fill : ℕ) (content : List ℕ) → length content + padding_of (length content) < 2 ^ 32 → IsContent (padded fill content)
is_content fill content h = record { short = rw (length_padded fill content) h; aligned = rw (length_padded fill content) (aligned (length content)) }

pub length_chunk : (kind : ℕ) (content : List ℕ) → length (chunk kind content) ≡ 8 + length content
length_chunk kind content = omega arith

pub length_header : (n : ℕ) → length (header n) ≡ 12
length_header n = refl

-- the document doesn't end with a zero once it is padded
pub end_padded : (json : List ℕ) (p : ℕ) → (get_or json (length json - 1) 1 ≡ 0 → ⊥) → get_or (json ++ replicate p 32) (length json + p - 1) 1 ≡ 0 → ⊥
end_padded json zero end h = end (subst (λ (x : List ℕ). get_or x (length json - 1) 1 ≡ 0) (append-nil json) (subst (λ i. get_or (json ++ replicate zero 32) i 1 ≡ 0) (omega arith) h))
end_padded json (suc p) end h =
    let at : length json + suc p - 1 ≡ length json + p = omega arith in
    let last : get_or (json ++ replicate (suc p) 32) (length json + p) 1 ≡ 32 = get_or-append-add json (replicate (suc p) 32) p 1 ∙ get_or-replicate (suc p) p 32 1 (omega arith) in
    let both : 32 ≡ 0 = sym last ∙ subst (λ i. get_or (json ++ replicate (suc p) 32) i 1 ≡ 0) at h in
    omega (arith, both)

pub bin_content : (bin : Option (List ℕ)) → IsShort bin → IfSome (option_map (λ b. padded 0 b) bin) IsContent
bin_content None h = tt
bin_content (Some b) h = is_content 0 b h

pub length_bin : (bin : Option (List ℕ)) → length (bin_chunk (option_map (λ b. padded 0 b) bin)) ≡ bin_length bin
length_bin None = refl
length_bin (Some b) = length_chunk bin_kind (padded 0 b) ∙ ap (λ n. 8 + n) (length_padded 0 b)

pub is_bytes : (json : List ℕ) (bin : Option (List ℕ)) (len : ℕ) (b0 b1 : List ℕ) → IsFileLength len json bin → b0 ≡ []
    → b1 ≡ ((b0 ++ header len) ++ chunk json_kind (padded 32 json)) ++ bin_chunk (option_map (λ b. padded 0 b) bin) → b1 ≡ file_bytes json bin
is_bytes json bin len b0 b1 is e0 e1 =
    let j : List ℕ = chunk json_kind (padded 32 json) in
    let d : List ℕ = bin_chunk (option_map (λ b. padded 0 b) bin) in
    e1 ∙ ap (λ x. ((x ++ header len) ++ j) ++ d) e0 ∙ ap (λ n. (header n ++ j) ++ d) is.whole

pub is_file : (json : List ℕ) (bin : Option (List ℕ)) (len : ℕ) (bytes : List ℕ) → (EndsWithZero json → ⊥) → IsFileLength len json bin → bytes ≡ file_bytes json bin → IsGlb bytes (padded_parts json bin)
is_file json bin len bytes end is pieces =
    let j : List ℕ = chunk json_kind (padded 32 json) in
    let d : List ℕ = bin_chunk (option_map (λ b. padded 0 b) bin) in
    let n : ℕ = file_length json bin in
    let length_pieces : length (file_bytes json bin) ≡ n =
    length-append (header n ++ j) d ∙ ap (λ m. m + length d) (length-append (header n) j) ∙ ap (λ m. 12 + length j + m) (length_bin bin)
    ∙ ap (λ m. 12 + m + bin_length bin) (length_chunk json_kind (padded 32 json) ∙ ap (λ m. 8 + m) (length_padded 32 json)) in
    let count : length bytes ≡ n = ap length pieces ∙ length_pieces in
    record {
      others = [];
      are_others = tt;
      short = rw count (omega (arith, is.whole, is.short));
      whole = rw count (pieces ∙ sym (append-nil (file_bytes json bin)));
      json = is_content 32 json is.json_short;
      json_end = λ h. end_padded json (padding_of (length json)) end (subst (λ m. get_or (padded 32 json) (m - 1) 1 ≡ 0) (length_padded 32 json) h);
      bin = bin_content bin is.bin_short;
    }

pub is_read : (json : List ℕ) (bin : Option (List ℕ)) (len : ℕ) (bytes : List ℕ) → (EndsWithZero json → ⊥) → IsFileLength len json bin → bytes ≡ file_bytes json bin → glb_of bytes ≡ Ok (padded_parts json bin)
is_read json bin len bytes end is e = glb_again bytes (padded_parts json bin) (is_file json bin len bytes end is e)

pub is_writable : (json : List ℕ) (bin : Option (List ℕ)) (len : ℕ) → (EndsWithZero json → ⊥) → IsFileLength len json bin → IsWritable json bin
is_writable json bin len end is = record { short = omega (arith, is.whole, is.short); end = end }
