-- A document is written as an object is.
use Rattle.gltf_root.proofs.root.Root.to_value.Goals as goal

pub returns-clause-by_table : goal.returns-clause-by_table
returns-clause-by_table c = c.encode.ensures.by_table

pub returns-clause-reads_back : goal.returns-clause-reads_back
returns-clause-reads_back c = c.encode.ensures.reads_back

pub returns-clause-valid : goal.returns-clause-valid
returns-clause-valid c = c.encode.ensures.valid
