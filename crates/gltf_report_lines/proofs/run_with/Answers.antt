-- What a run wrote, by what its reading answered.
use Rattle.gltf_root.specs.Answer.{byte_limit, call_limit}
use Rattle.gltf_report_lines.proofs.RunLemmas.{IsRun-either, reading_output-unread, failed-unread, IsReading-output}
use Rattle.gltf_report_lines.proofs.run_with.Goals as goal

pub returns-clause-run : goal.returns-clause-run
returns-clause-run g c = IsRun-either _ _ _ _ _ _ _ c.from_reader-reading.result c.from_reader-reading.ensures.told c.answer.ensures.written

pub returns-clause-reader_failed : goal.returns-clause-reader_failed
returns-clause-reader_failed g c = λ fresh failed.
    c.answer.ensures.given_up (reading_output-unread _ byte_limit call_limit _ c.from_reader-reading.result (c.from_reader-reading.ensures.fresh fresh) (failed-unread byte_limit call_limit _ failed))

pub returns-clause-not_read : goal.returns-clause-not_read
returns-clause-not_read g c = λ fresh unread.
    c.answer.ensures.given_up (reading_output-unread _ byte_limit call_limit _ c.from_reader-reading.result (c.from_reader-reading.ensures.fresh fresh) unread)

pub returns-clause-within : goal.returns-clause-within
returns-clause-within g c = λ fresh some.
    IsReading-output _ byte_limit call_limit _ c.from_reader-reading.result (c.from_reader-reading.ensures.fresh fresh) (λ none. some (c.answer.ensures.given_up none).0)
