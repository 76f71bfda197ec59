-- What is printed of why something was refused.
use Rattle.std.specs.Prelude.{ℕ, List}
use Rattle.gltf_base.specs.Errors.{error_text}
use Rattle.gltf_base.specs.Pushes.{push_error_text}
use Rattle.gltf_base.specs.declared.index.PushError.TheVariants as pushes
use Rattle.gltf_base.specs.declared.validation.Error.TheVariants.{IndexOutOfBounds}
use Rattle.gltf_validation.specs.FirstReport.{report_text}
use Rattle.gltf_validation.specs.declared.push.CleanError.{CleanError}
use Rattle.gltf_validation.specs.declared.push.CleanError.TheVariants.{Full, Memory, Faulty}
use Rattle.gltf_validation.specs.declared.refused.Refused.{Refused}
use Rattle.gltf_validation.specs.declared.refused.Refused.TheVariants as refused

-- what the error of any refused push prints, and of a faulty item what is wrong first
abbrev pub clean_error_text : {X : Type 0} → CleanError X → List ℕ
clean_error_text (Full x) = push_error_text (pushes.Full x)
clean_error_text (Memory x) = push_error_text (pushes.Memory x)
clean_error_text (Faulty x error) = error_text error

-- the same, and of a faulty value its first report
abbrev pub refused_text : {X : Type 0} → Refused X → List ℕ
refused_text (refused.Full x) = push_error_text (pushes.Full x)
refused_text (refused.Memory x) = push_error_text (pushes.Memory x)
refused_text (refused.NoItem x) = error_text IndexOutOfBounds
refused_text (refused.Faulty x report) = report_text report
