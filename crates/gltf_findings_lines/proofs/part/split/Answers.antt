-- What `split` gives are the parts, in order.
use Rattle.std.proofs.Common.{lit<}
use Rattle.std.proofs.lemmas.Iterator.Consumers.{map_from_collect}
use Rattle.std.proofs.lemmas.Iterator.Splits.{YieldsList-from_str_split}
use Rattle.gltf_findings_lines.proofs.part.split.Goals as goal

pub returns : goal.returns
returns c = map_from_collect _ c.collect.ensures.ran (YieldsList-from_str_split 47 c.args.pointer.now (lit< tt) c.split.ensures.text c.split.ensures.has_more c.split.ensures.pattern)
