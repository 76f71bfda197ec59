-- What a run has written and answered.
use Rattle.std.specs.Prelude.{◌≡◌, ◌⊎◌, ℕ, List, Bool, true, Option, Some, None, IfSome, Result, Ok, Err}
use Rattle.std.specs.Io.KnownBytes.{Appends}
use Rattle.gltf_base.specs.declared.error.Error.{Error}
use Rattle.gltf_base.specs.declared.error.Error.TheVariants as errors
use Rattle.gltf_root.specs.Answer.{Answer, no_json, no_document, document, answer, byte_limit, call_limit}
use Rattle.gltf_base.specs.Device.{Seen, IsWithin, AppendsFront}
use Rattle.gltf_validation_rules.specs.Context.{Rules}
use Rattle.gltf_root.specs.Root.{root_tree}
use Rattle.gltf_root.specs.declared.root.Root.{Root}
use Rattle.gltf_report_lines.specs.Output.{Output, answer_output, refusal}

-- an output was written whole, and the writer failed no more than it had before
pub record IsWhole (due : Output) (old new : Option (List ℕ)) (failed_before failed : Bool) (status : ℕ) : Type 0 where
  pub answered : status ≡ due.status
  pub works : failed ≡ failed_before
  pub appends : Appends old new due.text

-- the writer failed, behind a front of a text
pub record BrokeOff (text : List ℕ) (old new : Option (List ℕ)) (failed : Bool) (status : ℕ) : Type 0 where
  pub answered : status ≡ 4
  pub fails : failed ≡ true
  pub front : AppendsFront old new text

-- an output was written, as far as the writer took it
unfoldable pub IsWritten : Output → Option (List ℕ) → Option (List ℕ) → Bool → Bool → ℕ → Type 0
IsWritten due old new failed_before failed status = IsWhole due old new failed_before failed status ⊎ BrokeOff due.text old new failed status

-- what a run wrote and returned, by the rules: the refusal, or the output of an answer. That is the answer to the bytes that the
-- reader has at the start, if it states any. The last five are what the writer states before and after, whether it had failed
-- before and has failed then, and the status.
pub record IsRun (rules : Rules) (input old new : Option (List ℕ)) (failed_before failed : Bool) (status : ℕ) : Type 0 where
  pub is : IsWritten refusal old new failed_before failed status
      ⊎ ((a : Answer) × IfSome input (λ bytes. answer bytes ≡ a) × IsWritten (answer_output rules a) old new failed_before failed status)

-- a reader that was fresh gave its end within the limits of a document
abbrev pub IsReadWhole : Seen → Type 0
IsReadWhole seen = IsWithin byte_limit call_limit seen

-- the output of a document that was read or refused; none where reading was given up
abbrev pub reading_output : Rules → Result Root Error → Option Output
reading_output rules (Ok root) = Some (answer_output rules (document (root_tree root)))
reading_output rules (Err errors.Json) = Some (answer_output rules no_json)
reading_output rules (Err errors.Schema) = Some (answer_output rules no_document)
reading_output rules (Err _) = None
