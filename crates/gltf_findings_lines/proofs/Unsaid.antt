-- What is left out depends on which texts are said alone.
use Rattle.std.proofs.Common.{◌≡◌, ◌∙◌, ℕ, ◌+◌, ◌<◌, List, [], ◌∷◌, ◌++◌, length, drop, get_or, map, Bool, cond, String, refl, ap, ap₂, subst}
use Rattle.std.proofs.lemmas.List.{append_assoc, drop_more}
use Rattle.std.specs.declared.alloc.Global.{Global}
use Rattle.std.specs.BTreeSet.{BTreeSet, contains_text}
use Rattle.gltf_base.specs.Pointers.{pointer_text}
use Rattle.gltf_findings_codes.specs.Places.{place_steps}
use Rattle.gltf_findings_codes.specs.declared.finding.Finding.{Finding}
use Rattle.gltf_findings_lines.specs.Located.{Located}
use Rattle.gltf_findings_lines.specs.Sources.{is_said, said, unsaid, unsaid_in, unsaid_one, located_finding}

one_same : (p q : List ℕ → Bool) (f : Finding) → ((t : List ℕ) → p t ≡ q t) → unsaid_one p f ≡ unsaid_one q f
one_same p q f h = ap (λ (b : Bool). cond b [] (located_finding f ∷ [])) (h (said f.code (pointer_text (place_steps f.place))))

pub unsaid_same : (s : BTreeSet (String Global)) (q : List ℕ → Bool) (fs : List Finding) → ((t : List ℕ) → contains_text s t ≡ q t) → unsaid_in s fs ≡ unsaid q fs
unsaid_same s q [] h = refl
unsaid_same s q (f ∷ fs) h = ap₂ (λ (xs ys : List Located). xs ++ ys) (one_same (contains_text s) q f h) (unsaid_same s q fs h)

-- without members nothing is left out
pub all_unsaid : (fs : List Finding) → unsaid (is_said []) fs ≡ map located_finding fs
all_unsaid [] = refl
all_unsaid (f ∷ fs) = ap (λ xs. located_finding f ∷ xs) (all_unsaid fs)

-- a finding more leaves the rest to come
pub one_finding_more : (s : BTreeSet (String Global)) (now later due : List Located) (fs : List Finding) (k : ℕ) (d : Finding) → now ++ unsaid_in s (drop k fs) ≡ due → k < length fs → later ≡ now ++ unsaid_one (contains_text s) (get_or fs k d) → later ++ unsaid_in s (drop (k + 1) fs) ≡ due
one_finding_more s now later due fs k d before small added =
    let f = get_or fs k d in
    let rest = drop (k + 1) fs in
    ap (λ l. l ++ unsaid_in s rest) added ∙ append_assoc now (unsaid_one (contains_text s) f) (unsaid_in s rest) ∙ subst (λ xs. now ++ unsaid_in s xs ≡ due) (drop_more fs k d small) before
