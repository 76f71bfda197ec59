-- What is said with codes of different names is different: a text ends in the name of its code, behind a blank, and no name has one.
use Rattle.std.proofs.Common.{◌≡◌, ◌⊎◌, inl, inr, ℕ, ◌+◌, ◌<◌, length, drop, get_or, subst, List, [], ◌∷◌, ◌++◌, Bool, true, false, map, bytes_eq, String, Global, refl, sym, ap, ◌∙◌}
use Rattle.std.specs.Prelude.{◌==◌, ◌||◌, codes}
use Rattle.std.proofs.lemmas.List.{append_assoc, drop_more}
use Rattle.std.proofs.lemmas.Slice.Eq.{bytes_eq-Decides}
use Rattle.std.specs.BTreeSet.{BTreeSet, contains_text}
use Rattle.gltf_findings_codes.specs.declared.code.Code.{Code}
use Rattle.gltf_findings_codes.specs.declared.code.Code.TheVariants.{EmptyEntity, MeshPrimitiveInvalidAttribute}
use Rattle.gltf_findings_codes.specs.Codes.{code_name}
use Rattle.gltf_findings_members.specs.declared.notice.Notice.{Notice}
use Rattle.gltf_findings_members.specs.Noted.{noted}
use Rattle.gltf_findings_lines.specs.Sources.{IsSaidBy, codes_in, has_name, is_named, is_said, pointed, said, says_noted}

abbrev pub has_blank : List ℕ → Bool
has_blank [] = false
has_blank (x ∷ xs) = (x == 32) || has_blank xs

or_true : (b : Bool) → (b || true) ≡ true
or_true true = refl
or_true false = refl

or_false : (b : Bool) → (b || false) ≡ b
or_false true = refl
or_false false = refl

or_assoc : (a b c : Bool) → ((a || b) || c) ≡ (a || (b || c))
or_assoc true b c = refl
or_assoc false b c = refl

same_names : (cs : List Code) (c d : Code) → code_name c ≡ code_name d → has_name cs c ≡ has_name cs d
same_names [] c d same = refl
same_names (k ∷ cs) c d same = ap (λ n. bytes_eq (code_name k) n || has_name cs c) same ∙ ap (λ b. is_named d k || b) (same_names cs c d same)

behind_blank : (a p : List ℕ) → has_blank (a ++ 32 ∷ p) ≡ true
behind_blank [] p = refl
behind_blank (x ∷ a) p = ap (λ b. (x == 32) || b) (behind_blank a p) ∙ or_true (x == 32)

no_blank : (c : Code) → has_blank (code_name c) ≡ false
no_blank EmptyEntity = refl
no_blank c = refl

head_same : (x y : ℕ) (p q : List ℕ) → x ∷ p ≡ y ∷ q → p ≡ q
head_same x y p q e = cc

never : (a p q : List ℕ) → has_blank p ≡ false → p ≡ a ++ 32 ∷ q → ⊥
never a p q none e = let both : false ≡ true = sym none ∙ ap has_blank e ∙ behind_blank a q in absurd (cc)

-- what is behind the last blank
same_end : (a b p q : List ℕ) → has_blank p ≡ false → has_blank q ≡ false → a ++ 32 ∷ p ≡ b ++ 32 ∷ q → p ≡ q
same_end [] [] p q hp hq e = head_same 32 32 p q e
same_end [] (y ∷ b) p q hp hq e = absurd (never b p q hp (head_same 32 y p (b ++ 32 ∷ q) e))
same_end (x ∷ a) [] p q hp hq e = absurd (never a q p hq (sym (head_same x 32 (a ++ 32 ∷ p) q e)))
same_end (x ∷ a) (y ∷ b) p q hp hq e = same_end a b p q hp hq (head_same x y (a ++ 32 ∷ p) (b ++ 32 ∷ q) e)

-- a text is the name of a code, alone or behind a blank
abbrev pub Ends : Code → List ℕ → Type 0
Ends c t = (t ≡ code_name c) ⊎ ((a : List ℕ) × (t ≡ a ++ 32 ∷ code_name c))

pointed_ends : (c : Code) (p : List ℕ) → pointed c p ≡ (p ++ (58 ∷ [])) ++ (32 ∷ code_name c)
pointed_ends c p = append_assoc p (codes ": ") (code_name c) ∙ sym (append_assoc p (58 ∷ []) (32 ∷ code_name c))

said_ends : (c : Code) (p : List ℕ) → Ends c (said c p)
said_ends MeshPrimitiveInvalidAttribute p = inl refl
said_ends c p = inr (p ++ (58 ∷ []), pointed_ends c p)

ends_same : (c d : Code) (s t : List ℕ) → Ends c s → Ends d t → s ≡ t → code_name c ≡ code_name d
ends_same c d s t (inl e) (inl f) same = sym e ∙ same ∙ f
ends_same c d s t (inl e) (inr f) same = absurd (never f.0 (code_name c) (code_name d) (no_blank c) (sym e ∙ same ∙ f.1))
ends_same c d s t (inr e) (inl f) same = absurd (never e.0 (code_name d) (code_name c) (no_blank d) (sym f ∙ sym same ∙ e.1))
ends_same c d s t (inr e) (inr f) same = same_end e.0 f.0 (code_name c) (code_name d) (no_blank c) (no_blank d) (sym e.1 ∙ same ∙ f.1)

-- texts of codes with other names are other texts
apart_at : (known code : Code) (p q : List ℕ) (b : Bool) → bytes_eq (said known p) (said code q) ≡ b → is_named code known ≡ false → b ≡ false
apart_at known code p q false is other = refl
apart_at known code p q true is other =
    let same = ends_same known code (said known p) (said code q) (said_ends known p) (said_ends code q) ((bytes_eq-Decides (said known p) (said code q)).0 is) in
    let named : is_named code known ≡ true = (bytes_eq-Decides (code_name known) (code_name code)).1 same in
    sym named ∙ other

none_said_at : (ns : List Notice) (code : Code) (q : List ℕ) (a : Bool) (n : Notice) → is_named code n.code ≡ a → (a || has_name (codes_in ns) code) ≡ false
    → (has_name (codes_in ns) code ≡ false → is_said (map noted ns) (said code q) ≡ false)
    → (says_noted (noted n) (said code q) || is_said (map noted ns) (said code q)) ≡ false
none_said_at ns code q true n is none rest = absurd (cc)
none_said_at ns code q false n is none rest =
    ap (λ b. b || is_said (map noted ns) (said code q)) (apart_at n.code code (noted n).0 q (says_noted (noted n) (said code q)) refl is) ∙ rest none

-- a code that no notice has is said by none
none_said : (ns : List Notice) (code : Code) (q : List ℕ) → has_name (codes_in ns) code ≡ false → is_said (map noted ns) (said code q) ≡ false
none_said [] code q none = refl
none_said (n ∷ ns) code q none = none_said_at ns code q (is_named code n.code) n refl none (none_said ns code q)

pub said_by_codes : (ns : List Notice) (cs : List Code) (s : BTreeSet (String Global)) → ((q : List ℕ) → contains_text s q ≡ is_said (map noted ns) q) → ((code : Code) → has_name cs code ≡ has_name (codes_in ns) code) → IsSaidBy cs s
said_by_codes ns cs s texts names code pointer none = texts (said code pointer) ∙ none_said ns code pointer (sym (names code) ∙ none)

-- a code that is there already adds none
pub named_before : (cs : List Code) (code other : Code) → has_name cs code ≡ true → has_name cs other ≡ (has_name cs other || is_named other code)
named_before cs code other there = by (is_named other code) refl
  where
    by : (b : Bool) → is_named other code ≡ b → has_name cs other ≡ (has_name cs other || b)
    by false is = sym (or_false (has_name cs other))
    by true is =
        let same : code_name code ≡ code_name other = (bytes_eq-Decides (code_name code) (code_name other)).0 is in
        let found : has_name cs other ≡ true = sym (same_names cs code other same) ∙ there in
        found ∙ sym (or_true (has_name cs other))

pub named_behind : (cs : List Code) (code other : Code) → has_name (cs ++ (code ∷ [])) other ≡ (has_name cs other || is_named other code)
named_behind [] code other = or_false (is_named other code)
named_behind (c ∷ cs) code other = ap (λ b. is_named other c || b) (named_behind cs code other) ∙ sym (or_assoc (is_named other c) (has_name cs other) (is_named other code))

pub one_code_more : (code : Code) (ns : List Notice) (k : ℕ) (d : Notice) (now later due : Bool) → (now || has_name (codes_in (drop k ns)) code) ≡ due → k < length ns → later ≡ (now || is_named code (get_or ns k d).code) → (later || has_name (codes_in (drop (k + 1) ns)) code) ≡ due
one_code_more code ns k d now later due before small added =
    let n = get_or ns k d in
    let rest = has_name (codes_in (drop (k + 1) ns)) code in
    ap (λ b. b || rest) added ∙ or_assoc now (is_named code n.code) rest ∙ subst (λ xs. (now || has_name (codes_in xs) code) ≡ due) (drop_more ns k d small) before
