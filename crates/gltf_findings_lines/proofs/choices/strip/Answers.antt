-- What std strips is what is behind the prefix.
use Rattle.gltf_base.proofs.PrefixLemmas.{strip_prefix-behind}
use Rattle.gltf_findings_lines.proofs.choices.strip.Goals as goal

pub returns : goal.returns
returns c = strip_prefix-behind c.args.prefix.now c.args.text.now _ c.strip_prefix.ensures.cases
