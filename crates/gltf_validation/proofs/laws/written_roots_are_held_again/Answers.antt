use Rattle.gltf_root.proofs.Printed.{compact_read_back, pretty_read_back}
use Rattle.gltf_validation.specs.Held.{tree_held}
use Rattle.gltf_validation.proofs.HeldAgain.{held_again}
use Rattle.gltf_validation.proofs.laws.written_roots_are_held_again.Goals as goal

pub returns-clause-compact : goal.returns-clause-compact
returns-clause-compact c held root bytes result plain shallow text read is_held =
    held_again held root bytes result plain shallow (compact_read_back (tree_held held) bytes text) read is_held

pub returns-clause-pretty : goal.returns-clause-pretty
returns-clause-pretty c held root bytes result plain shallow text read is_held =
    held_again held root bytes result plain shallow (pretty_read_back (tree_held held) bytes text) read is_held
