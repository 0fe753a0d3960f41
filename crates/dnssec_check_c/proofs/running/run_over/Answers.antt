use Rattle.std.proofs.Common.{◌≡◌, refl, ap, ◌∙◌}
use Rattle.dnsv_message.specs.Streams.Counted.{inner_of}
use Rattle.dnsv_files.specs.Status.{fault_code}
use Rattle.dnssec_check_c.specs.Ends.{told_of_fault}
use Rattle.dnssec_check_c.specs.Octets.{files_of}
use Rattle.dnssec_check_c.proofs.EndLemmas.{fault_ends, question_told, text_ends}
use Rattle.dnssec_check_c.proofs.running.run_over.Goals as goal

pub returns-in-Ok-clause-ends : goal.returns-in-Ok-clause-ends
returns-in-Ok-clause-ends c =
    let done = c.in-Ok.ensures.done (files_of c.args.octets.now) c.readers.ensures in
    let first : (inner_of c.new-output.result).items ≡ c.new.result.items = rw c.new-output.ensures.inner refl in
    let shown : c.as_slice.result.now ≡ (inner_of c.run.new.output).items = rw (c.as_slice.ensures.value, c.get_ref.ensures) refl in
    text_ends c.args.request.now (files_of c.args.octets.now) c.in-Ok.status done.0 c.give.ensures done.1 (shown ∙ done.2) (first ∙ c.new.ensures.items)

pub returns-clause-ends : goal.returns-clause-ends
returns-clause-ends c =
    let files = files_of c.args.octets.now in
    let told = c.refuse.ensures.told ∙ ap told_of_fault c.in_memory.ensures in
    fault_ends c.args.request.now files c.in-Err.fault (c.in-Err.ensures.faults.first files c.readers.ensures)
    c.in-Err.ensures.faults.reads.opened (told, refl, c.refuse.ensures.status ∙ ap fault_code c.in_memory.ensures)

pub returns-clause-question : goal.returns-clause-question
returns-clause-question c =
    question_told c.args.request.now c.in-Err.fault c.in-Err.ensures.question (c.refuse.ensures.told ∙ ap told_of_fault c.in_memory.ensures)
