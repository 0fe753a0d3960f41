use Rattle.dnsv_files.specs.Files.Capture.{NewEvidence}
use Rattle.dnsv_work.proofs.LawLemmas.Answers.{file_answer}
use Rattle.dnsv_work.proofs.LawLemmas.Listed.{evidence_or_fails, listed}
use Rattle.dnsv_work.proofs.laws.every_file_is_listed_or_refused.Goals as goal

pub returns : goal.returns
returns c = λ format moment file are.
    listed c.one_signed_data.ensures.some c.rrsets_are_well_formed.ensures format moment file _
    (λ frames is. c.one_answer.ensures.octets file frames are is)
    (file_answer NewEvidence c.message_or_fault.ensures c.no_fault_of_memory.ensures
    (λ held message is. evidence_or_fails held message (c.evidence_or_one_refusal.ensures.some held message is)) file
    (c.one_answer.ensures.some file are) (λ frames is. c.one_answer.ensures.octets file frames are is))
