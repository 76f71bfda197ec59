use Rattle.gltf_findings.proofs.Digited.{version_read, version_written}
use Rattle.gltf_findings.proofs.laws.versions_are_what_their_digits_say.Goals as goal

pub returns-clause-read : goal.returns-clause-read
returns-clause-read c = version_read

pub returns-clause-written : goal.returns-clause-written
returns-clause-written c = version_written
