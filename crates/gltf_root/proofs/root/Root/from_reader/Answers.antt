-- What holds within any limits holds within those of documents.
use Rattle.gltf_root.proofs.root.Root.from_reader.Goals as goal

pub returns-clause-told : goal.returns-clause-told
returns-clause-told g c = c.from_reader_within.ensures.told

pub returns-clause-fresh : goal.returns-clause-fresh
returns-clause-fresh g c = c.from_reader_within.ensures.fresh

pub returns-clause-refused : goal.returns-clause-refused
returns-clause-refused g c = c.from_reader_within.ensures.refused

pub returns-clause-soon : goal.returns-clause-soon
returns-clause-soon g c = c.from_reader_within.ensures.soon

pub returns-clause-plain : goal.returns-clause-plain
returns-clause-plain g c = c.from_reader_within.ensures.plain
