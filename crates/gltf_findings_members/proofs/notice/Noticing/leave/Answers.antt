-- The last step is taken away.
use Rattle.std.proofs.Common.{rules}
use Rattle.gltf_base.specs.Steps.{step_of}
use Rattle.gltf_findings_members.proofs.Stepping.{left}
use Rattle.gltf_findings_members.proofs.notice.Noticing.leave.Goals as goal

pub returns-clause-steps : goal.returns-clause-steps
returns-clause-steps c = left step_of c.args.self.now.steps.items c.pop-last.new.self.items c.pop-last.result c.pop-last.ensures.items (λ h. c.pop-last.ensures.variant.1 (search rules))
