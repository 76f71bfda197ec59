use Rattle.gltf_schema.proofs.NullsLeftOut.{same_read, back_without_nulls, none_with_nulls, none_without_nulls}
use Rattle.gltf_schema.proofs.laws.kinds_without_nulls_read_the_same.Goals as goal

pub returns-clause-reads : goal.returns-clause-reads
returns-clause-reads c = same_read

pub returns-clause-reads_back : goal.returns-clause-reads_back
returns-clause-reads_back c = back_without_nulls

pub returns-clause-refused : goal.returns-clause-refused
returns-clause-refused c = λ kind t. (none_with_nulls kind t, none_without_nulls kind t)
