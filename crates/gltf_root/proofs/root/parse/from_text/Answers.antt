use Rattle.serde_json.specs.Read.{read as read_json}
use Rattle.gltf_root.proofs.AnswerLemmas.{IsAnswer-decoded, decoded_is_plain}
use Rattle.gltf_root.proofs.root.parse.from_text.Goals as goal

pub returns-clause-by_text : goal.returns-clause-by_text
returns-clause-by_text c = λ utf8. IsAnswer-decoded c.args.text.now c.decode_text.result utf8 c.decode_text.ensures

pub returns-clause-plain : goal.returns-clause-plain
returns-clause-plain c = decoded_is_plain (read_json c.args.text.now) c.decode_text.result c.decode_text.ensures
