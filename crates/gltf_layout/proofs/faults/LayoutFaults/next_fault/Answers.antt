use Rattle.gltf_layout.proofs.Truths.{no_next_accessor}
use Rattle.gltf_layout.proofs.faults.LayoutFaults.next_fault.Goals as goal

pub returns-in-Some-next_accessor_fault-clause-none : goal.returns-in-Some-next_accessor_fault-clause-none
returns-in-Some-next_accessor_fault-clause-none g c = (
  λ none. cc,
  λ faultless. absurd (no_next_accessor (g.D.Storage.stored c.args.self.now.document) c.args.self.now.next_accessor c.in-Some-next_accessor_fault.accessor c.in-Some-next_accessor_fault.fault c.in-Some-next_accessor_fault.ensures.found faultless.1),
)
