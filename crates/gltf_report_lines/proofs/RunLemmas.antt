-- What a run wrote, from how its document was read and what the writer took.
use Rattle.std.proofs.Common.{◌≡◌, ◌⊎◌, inl, inr, ℕ, List, Bool, true, Option, None, Some, IfSome, IsSomeAnd, Result, Ok, Err, refl, sym, ◌∙◌, subst}
use Rattle.std.proofs.lemmas.Bool.{true≢false}
use Rattle.gltf_base.specs.declared.error.Error.{Error}
use Rattle.gltf_base.specs.declared.error.Error.TheVariants.{Json, Schema, InvalidItem, Read, Write, Memory, TooLong}
use Rattle.gltf_root.specs.Answer.{no_json, no_document, document, answer, IsReadAnswer, IsReading}
use Rattle.gltf_base.specs.Device.{Seen, IsWithin, AppendsFront}
use Rattle.gltf_validation_rules.specs.Context.{Rules}
use Rattle.gltf_root.specs.Root.{root_tree}
use Rattle.gltf_root.specs.declared.root.Root.{Root}
use Rattle.gltf_report_lines.specs.Output.{Output, refusal}
use Rattle.gltf_report_lines.specs.Run.{IsRun, IsWritten, reading_output}

module _ (rules : Rules) (input old new : Option (List ℕ)) (failed_before failed : Bool) (status : ℕ) where
  IsRun-read : (r : Result Root Error) → IfSome input (λ bytes. IsReadAnswer (answer bytes) r)
      → IsSomeAnd (reading_output rules r) (λ due. IsWritten due old new failed_before failed status) → IsRun rules input old new failed_before failed status
  IsRun-read (Ok root) told h = record { is = inr (document (root_tree root), told, h) }
  IsRun-read (Err Json) told h = record { is = inr (no_json, told, h) }
  IsRun-read (Err Schema) told h = record { is = inr (no_document, told, h) }
  IsRun-read (Err (Memory e)) told h = absurd h
  IsRun-read (Err Read) told h = absurd h
  IsRun-read (Err Write) told h = absurd h
  IsRun-read (Err TooLong) told h = absurd h
  IsRun-read (Err InvalidItem) told h = absurd h

  -- one of the two was written, by how the document was read
  pub IsRun-either : (r : Result Root Error) → IfSome input (λ bytes. IsReadAnswer (answer bytes) r)
      → IsWritten refusal old new failed_before failed status ⊎ IsSomeAnd (reading_output rules r) (λ due. IsWritten due old new failed_before failed status)
      → IsRun rules input old new failed_before failed status
  IsRun-either r told (inl h) = record { is = inl h }
  IsRun-either r told (inr h) = IsRun-read r told h

-- there is no output, or a fresh reader was read within the limits
none-or-read : (rules : Rules) (bytes calls : ℕ) (seen : Seen) (r : Result Root Error) → IsReading bytes calls seen r → (reading_output rules r ≡ None) ⊎ IsWithin bytes calls seen
none-or-read rules bytes calls seen (Ok root) h = inr h
none-or-read rules bytes calls seen (Err Json) h = inr h
none-or-read rules bytes calls seen (Err Schema) h = inr h
none-or-read rules bytes calls seen (Err (Memory e)) h = inl refl
none-or-read rules bytes calls seen (Err Read) h = inl refl
none-or-read rules bytes calls seen (Err Write) h = inl refl
none-or-read rules bytes calls seen (Err TooLong) h = inl refl
none-or-read rules bytes calls seen (Err InvalidItem) h = inl refl

-- what was done with what an outcome says was done with the refusal, or with the output of its reading
pub said-either : (P : Output → Type 0) (due : Option Output) (said : Output) → (due ≡ Some said) ⊎ (said ≡ refusal) → P said → P refusal ⊎ IsSomeAnd due P
said-either P due said (inl is) h = inr (subst (λ (x : Option Output). IsSomeAnd x P) (sym is) h)
said-either P due said (inr is) h = inl (subst P is h)

-- the same either way
pub same-either : {A : Type 0} → A ⊎ A → A
same-either (inl a) = a
same-either (inr a) = a

-- what was written of an outcome that is the refusal
pub said-refusal : (old new : Option (List ℕ)) (status : ℕ) (said : Output) → said ≡ refusal → (status ≡ said.status) ⊎ (status ≡ 4) → AppendsFront old new said.text
    → (status ≡ 4) × AppendsFront old new refusal.text
said-refusal old new status said is either front = (
  same-either (subst (λ (x : Output). (status ≡ x.status) ⊎ (status ≡ 4)) is either),
  subst (λ (x : Output). AppendsFront old new x.text) is front,
)

-- of two things one of which holds, the one holds where the other doesn't
first-of : {A B : Type 0} → A ⊎ B → (B → ⊥) → A
first-of (inl a) other = a
first-of (inr b) other = absurd (other b)

second-of : {A B : Type 0} → A ⊎ B → (A → ⊥) → B
second-of (inl a) other = absurd (other a)
second-of (inr b) other = b

-- where a fresh reader was not read within the limits there is no output
pub reading_output-unread : (rules : Rules) (bytes calls : ℕ) (seen : Seen) (r : Result Root Error) → IsReading bytes calls seen r → (IsWithin bytes calls seen → ⊥) → reading_output rules r ≡ None
reading_output-unread rules bytes calls seen r h = first-of (none-or-read rules bytes calls seen r h)

-- where there is an output a fresh reader was read within the limits
pub IsReading-output : (rules : Rules) (bytes calls : ℕ) (seen : Seen) (r : Result Root Error) → IsReading bytes calls seen r → (reading_output rules r ≡ None → ⊥) → IsWithin bytes calls seen
IsReading-output rules bytes calls seen r h = second-of (none-or-read rules bytes calls seen r h)

-- a reader that failed was not read within the limits
pub failed-unread : (bytes calls : ℕ) (seen : Seen) → seen.has_failed ≡ true → IsWithin bytes calls seen → ⊥
failed-unread bytes calls seen failed within = true≢false (sym failed ∙ within.works)
