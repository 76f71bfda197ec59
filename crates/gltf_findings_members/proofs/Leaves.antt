-- Values that hold no others, and values where anything is wanted.
use Rattle.std.proofs.Common.{◌≡◌, ℕ, List, [], Bool, true, false, Option, Some, None, option_map, refl, ap}
use Rattle.json.specs.Json as tree
use Rattle.serde_json.specs.Data.{Num, Data, null, boolean, number, string, array, object}
use Rattle.serde_json.specs.Read.{number_of}
use Rattle.gltf_base.specs.Steps.{Step}
use Rattle.gltf_schema.specs.declared.outline.Shape.{Shape}
use Rattle.gltf_schema.specs.declared.outline.Shape.TheVariants.{Whole32, Whole64, Number, Numbers, Text, Truth, Any, Indexes, List as ListOf, Object}
use Rattle.gltf_findings_members.specs.Format.{Format}
use Rattle.gltf_findings_members.specs.Misfits.{index_misfit, item_code, misfit, misfit_in}
use Rattle.gltf_findings_members.specs.Noted.{maybe_note}
use Rattle.gltf_findings_members.specs.Quiet.{IsQuiet, Reading, wants_any, wants_text, wants_truth}
use Rattle.gltf_findings_members.specs.Walk.{notices}
use Rattle.gltf_findings_members.proofs.NoneNoted.{number_reads, reads_as}

fits_in : (l : Bool) (s : Option Shape) (d : Data) (at : List Step) → misfit s d ≡ None → maybe_note at (misfit_in l s d) ≡ []
fits_in false s d at fits = ap (maybe_note at) fits
fits_in true s d at fits = ap (λ o. maybe_note at (option_map (item_code s) o)) fits

-- ---- anything

any_fits : (s : Option Shape) (d : Data) → wants_any s ≡ true → misfit s d ≡ None
any_fits None d is = refl
any_fits (Some Any) d is = refl
any_fits (Some Whole32) d is = absurd (cc)
any_fits (Some Whole64) d is = absurd (cc)
any_fits (Some Number) d is = absurd (cc)
any_fits (Some (Numbers n i)) d is = absurd (cc)
any_fits (Some Text) d is = absurd (cc)
any_fits (Some Truth) d is = absurd (cc)
any_fits (Some (Indexes i)) d is = absurd (cc)
any_fits (Some (ListOf i)) d is = absurd (cc)
any_fits (Some (Object rows keeps)) d is = absurd (cc)

any_data : (f : Format) (l : Bool) (s : Option Shape) (at : List Step) (d : Data) → wants_any s ≡ true → notices f l s at d ≡ []
any_data f l s at null is = fits_in l s null at (any_fits s null is)
any_data f l s at (boolean b) is = fits_in l s (boolean b) at (any_fits s (boolean b) is)
any_data f l s at (number n) is = fits_in l s (number n) at (any_fits s (number n) is)
any_data f l s at (string t) is = fits_in l s (string t) at (any_fits s (string t) is)
any_data f l None at (array ds) is = fits_in l None (array ds) at refl
any_data f l (Some Any) at (array ds) is = fits_in l (Some Any) (array ds) at refl
any_data f l (Some Whole32) at (array ds) is = absurd (cc)
any_data f l (Some Whole64) at (array ds) is = absurd (cc)
any_data f l (Some Number) at (array ds) is = absurd (cc)
any_data f l (Some (Numbers n i)) at (array ds) is = absurd (cc)
any_data f l (Some Text) at (array ds) is = absurd (cc)
any_data f l (Some Truth) at (array ds) is = absurd (cc)
any_data f l (Some (Indexes i)) at (array ds) is = absurd (cc)
any_data f l (Some (ListOf i)) at (array ds) is = absurd (cc)
any_data f l (Some (Object rows keeps)) at (array ds) is = absurd (cc)
any_data f l None at (object ms) is = fits_in l None (object ms) at refl
any_data f l (Some Any) at (object ms) is = fits_in l (Some Any) (object ms) at refl
any_data f l (Some Whole32) at (object ms) is = absurd (cc)
any_data f l (Some Whole64) at (object ms) is = absurd (cc)
any_data f l (Some Number) at (object ms) is = absurd (cc)
any_data f l (Some (Numbers n i)) at (object ms) is = absurd (cc)
any_data f l (Some Text) at (object ms) is = absurd (cc)
any_data f l (Some Truth) at (object ms) is = absurd (cc)
any_data f l (Some (Indexes i)) at (object ms) is = absurd (cc)
any_data f l (Some (ListOf i)) at (object ms) is = absurd (cc)
any_data f l (Some (Object rows keeps)) at (object ms) is = absurd (cc)

pub any_quiet : (f : Format) (s : Option Shape) (j : tree.Json) → wants_any s ≡ true → IsQuiet f s j
any_quiet f s j is l at d read = any_data f l s at d is

-- ---- texts, truth values, null, numbers

text_fits : (s : Option Shape) (t : List ℕ) → wants_text s ≡ true → misfit s (string t) ≡ None
text_fits None t is = refl
text_fits (Some Any) t is = refl
text_fits (Some Text) t is = refl
text_fits (Some Whole32) t is = absurd (cc)
text_fits (Some Whole64) t is = absurd (cc)
text_fits (Some Number) t is = absurd (cc)
text_fits (Some (Numbers n i)) t is = absurd (cc)
text_fits (Some Truth) t is = absurd (cc)
text_fits (Some (Indexes i)) t is = absurd (cc)
text_fits (Some (ListOf i)) t is = absurd (cc)
text_fits (Some (Object rows keeps)) t is = absurd (cc)

truth_fits : (s : Option Shape) (b : Bool) → wants_truth s ≡ true → misfit s (boolean b) ≡ None
truth_fits None b is = refl
truth_fits (Some Any) b is = refl
truth_fits (Some Truth) b is = refl
truth_fits (Some Whole32) b is = absurd (cc)
truth_fits (Some Whole64) b is = absurd (cc)
truth_fits (Some Number) b is = absurd (cc)
truth_fits (Some (Numbers n i)) b is = absurd (cc)
truth_fits (Some Text) b is = absurd (cc)
truth_fits (Some (Indexes i)) b is = absurd (cc)
truth_fits (Some (ListOf i)) b is = absurd (cc)
truth_fits (Some (Object rows keeps)) b is = absurd (cc)

pub text_quiet : (f : Format) (s : Option Shape) (t : List ℕ) → wants_text s ≡ true → IsQuiet f s (tree.string t)
text_quiet f s t is l at = reads_as (tree.string t) (string t) (λ d. notices f l s at d ≡ []) refl (fits_in l s (string t) at (text_fits s t is))

pub truth_quiet : (f : Format) (s : Option Shape) (b : Bool) → wants_truth s ≡ true → IsQuiet f s (tree.boolean b)
truth_quiet f s b is l at = reads_as (tree.boolean b) (boolean b) (λ d. notices f l s at d ≡ []) refl (fits_in l s (boolean b) at (truth_fits s b is))

pub number_quiet : (f : Format) (s : Option Shape) (t : List ℕ) → ((n : Num) → number_of t ≡ Some n → misfit s (number n) ≡ None) → IsQuiet f s (tree.number t)
number_quiet f s t fits l at = number_reads t (λ d. notices f l s at d ≡ []) (λ n e. fits_in l s (number n) at (fits n e))

pub index_fits : (t : List ℕ) → Reading (tree.number t) (λ d. index_misfit d ≡ None) → (n : Num) → number_of t ≡ Some n → index_misfit (number n) ≡ None
index_fits t fits n e = fits (number n) (ap (option_map number) e)
