-- What an index names lives as long as the pointer's type.
use Rattle.gltf_base.proofs.index.PtrNames.TheImpl.Goals as goal

pub Self-Item-lives : goal.Self-Item-lives
Self-Item-lives x = x.outlives.n1
