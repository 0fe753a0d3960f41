use Rattle.std.proofs.Common.{inl}
use Rattle.dnsv_files.specs.Files.Capture.{AnyMessage}
use Rattle.dnsv_work.proofs.LawLemmas.Answers.{file_answer, shown}
use Rattle.dnsv_work.proofs.laws.every_file_is_shown_or_refused.Goals as goal

pub returns : goal.returns
returns c = λ file are.
    shown file _ (file_answer AnyMessage c.message_or_fault.ensures c.no_fault_of_memory.ensures (λ held message is. inl tt) file
    (c.one_answer.ensures.some file are) (λ frames is. c.one_answer.ensures.octets file frames are is))
