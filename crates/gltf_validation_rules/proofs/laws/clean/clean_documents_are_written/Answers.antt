use Rattle.std.proofs.Common.{◌≡◌, ◌∙◌, sym, [], Bool, false, Option, true≢false}
use Rattle.serde_json.specs.Data.{Data}
use Rattle.gltf_base.specs.declared.error.Error.{Error}
use Rattle.gltf_base.specs.declared.error.Error.TheVariants as errors
use Rattle.gltf_schema.specs.Invalid.{holds_invalid}
use Rattle.gltf_schema.specs.Outcome.{Withholds}
use Rattle.gltf_schema.specs.Tree.{absent}
use Rattle.gltf_schema.specs.Write.{write}
use Rattle.gltf_root.specs.Root.{root_kind, root_tree}
use Rattle.gltf_root.specs.Written.{IsOutOfMemory}
use Rattle.gltf_validation_rules.specs.Context.{under}
use Rattle.gltf_validation_rules.proofs.ReportedDocuments.{document_reported}
use Rattle.gltf_validation_rules.proofs.laws.clean.clean_documents_are_written.Goals as goal

memory_alone : (d : Option Data) (is_invalid : Bool) (e : Error) → is_invalid ≡ false → Withholds e d is_invalid → IsOutOfMemory e
memory_alone d is_invalid (errors.Memory a) valid h = tt
memory_alone d is_invalid errors.InvalidItem valid h = absurd (true≢false (sym h.1 ∙ valid))
memory_alone d is_invalid _ valid h = absurd h

pub returns-clause-valid : goal.returns-clause-valid
returns-clause-valid c rules r clean = (document_reported r).valid (under rules (root_tree r)) absent [] clean

pub returns-clause-memory : goal.returns-clause-memory
returns-clause-memory c rules r e clean withheld =
    memory_alone (write root_kind (root_tree r)) (holds_invalid (root_tree r)) e (returns-clause-valid c rules r clean) withheld
