-- From how an accessor is read to how the accessor that a document names is.
use Rattle.std.proofs.Common.{◌≡◌, ℕ, List, Option, Some, None, refl, sym, subst, ap, ◌∙◌}
use Rattle.std.specs.Prelude.{Result, Ok, Err}
use Rattle.gltf_layout.specs.declared.place.Place.{Place}
use Rattle.gltf_accessors.specs.declared.data.AccessorData.{AccessorData}
use Rattle.gltf_accessors.specs.declared.format.Usage.{Usage}
use Rattle.gltf_accessors.specs.declared.fault.AccessorDataFault.{AccessorDataFault}
use Rattle.gltf_accessors.specs.declared.fault.AccessFault.{AccessFault}
use Rattle.gltf_accessors.specs.Reads.{ReadsData}
use Rattle.gltf_load.specs.declared.accessors.Accessors.{Accessors}
use Rattle.gltf_load.specs.declared.fault.ReadFault.{ReadFault}
use Rattle.gltf_load.specs.declared.fault.ReadFault.TheVariants as read
use Rattle.gltf_load.specs.Read.{IsDataOf, IsMissing, IsMissingFault, ReadsAt, ReadsNamed, with_number, optional_with_number}

pub reads_at : {X : Type 0} (u : Usage) (is : (ℕ → Option (List ℕ)) → Place → X → Type 0) (fails : (ℕ → Option (List ℕ)) → Place → AccessorDataFault → Type 0) (s : Accessors) (n : ℕ) (d : AccessorData) (r : Result X AccessFault) → IsDataOf s n d → ReadsData u is fails d r → ReadsAt u is fails s n (with_number n r)
reads_at u is fails s n d (Ok x) of reads = (d, of, reads)
reads_at u is fails s n d (Err f) of reads = (refl, d, of, reads)

pub reads_named : {X : Type 0} (u : Usage) (is : (ℕ → Option (List ℕ)) → Place → X → Type 0) (fails : (ℕ → Option (List ℕ)) → Place → AccessorDataFault → Type 0) (s : Accessors) (n : ℕ) (d : AccessorData) (r : Result X AccessFault) → IsDataOf s n d → ReadsData u is fails d r → ReadsNamed u is fails s (Some n) (optional_with_number n r)
reads_named u is fails s n d (Ok x) of reads = (d, of, reads)
reads_named u is fails s n d (Err f) of reads = (refl, d, of, reads)

-- the same where the accessor's number, and what is returned, are other terms for these
pub named_ok : {X : Type 0} (u : Usage) (is : (ℕ → Option (List ℕ)) → Place → X → Type 0) (fails : (ℕ → Option (List ℕ)) → Place → AccessorDataFault → Type 0) (s : Accessors) (o : Option ℕ) (n m k : ℕ) (d : AccessorData) (r : Result X AccessFault) (out : Result (Option X) ReadFault) → o ≡ Some n → m ≡ n → k ≡ n → IsDataOf s m d → ReadsData u is fails d r → out ≡ optional_with_number k r → ReadsNamed u is fails s o out
named_ok {X} u is fails s o n m k d r out named same number of reads returned =
    let there : IsDataOf s n d = subst (λ x. IsDataOf s x d) same of in
    let end : out ≡ optional_with_number n r = returned ∙ ap (λ x. optional_with_number x r) number in
    subst (λ x. ReadsNamed u is fails s x out) (sym named) (subst (λ x. ReadsNamed u is fails s (Some n) x) (sym end) (reads_named u is fails s n d r there reads))

pub named_err : {X : Type 0} (u : Usage) (is : (ℕ → Option (List ℕ)) → Place → X → Type 0) (fails : (ℕ → Option (List ℕ)) → Place → AccessorDataFault → Type 0) (s : Accessors) (o : Option ℕ) (n m : ℕ) (f : ReadFault) → o ≡ Some n → m ≡ n → IsMissingFault s m f → ReadsNamed {X = X} u is fails s o (Err f)
named_err {X} u is fails s o n m (read.NoSuchAccessor x) named same missing = subst (λ y. ReadsNamed {X = X} u is fails s y (Err (read.NoSuchAccessor x))) (sym named) (missing.0 ∙ same, subst (λ y. IsMissing s y) same missing.1)
named_err {X} u is fails s o n m (read.Accessor x f) named same missing = absurd missing

pub at_ok : {X : Type 0} (u : Usage) (is : (ℕ → Option (List ℕ)) → Place → X → Type 0) (fails : (ℕ → Option (List ℕ)) → Place → AccessorDataFault → Type 0) (s : Accessors) (n m : ℕ) (d : AccessorData) (r : Result X AccessFault) (out : Result X ReadFault) → m ≡ n → IsDataOf s m d → ReadsData u is fails d r → out ≡ with_number m r → ReadsAt u is fails s n out
at_ok {X} u is fails s n m d r out same of reads returned =
    subst (λ x. ReadsAt u is fails s x out) same (subst (λ x. ReadsAt u is fails s m x) (sym returned) (reads_at u is fails s m d r of reads))

pub at_err : {X : Type 0} (u : Usage) (is : (ℕ → Option (List ℕ)) → Place → X → Type 0) (fails : (ℕ → Option (List ℕ)) → Place → AccessorDataFault → Type 0) (s : Accessors) (n m : ℕ) (f : ReadFault) → m ≡ n → IsMissingFault s m f → ReadsAt {X = X} u is fails s n (Err f)
at_err {X} u is fails s n m (read.NoSuchAccessor x) same missing = (missing.0 ∙ same, subst (λ y. IsMissing s y) same missing.1)
at_err {X} u is fails s n m (read.Accessor x f) same missing = absurd missing
