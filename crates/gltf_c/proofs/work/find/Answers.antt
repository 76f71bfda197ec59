-- What is found is what is put out.
use Rattle.std.proofs.Common.{inl, refl}
use Rattle.gltf_c.proofs.Findings.{found_of}
use Rattle.gltf_c.proofs.work.find.Goals as goal

pub returns-in-Ok : goal.returns-in-Ok
returns-in-Ok c =
    inl (c.in-Ok.found, found_of _ c.in-Ok.ensures refl refl c.starts_with.ensures.value, rw (c.deref.ensures, c.findings_status.ensures) at c.give.ensures)
