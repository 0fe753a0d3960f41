use Rattle.dnsv_message.specs.Streams.Frames.{octets_at_each}
use Rattle.dnsv_files.proofs.FileLemmas.Answers.{digest_of, other_refused, other_told, said_for}
use Rattle.dnsv_files.proofs.files.answers.test_list.Goals as goal

pub returns-in-Ok-clause-are : goal.returns-in-Ok-clause-are
returns-in-Ok-clause-are c = λ capture framed.
    said_for capture c.args.moments.now c.capture_digest-digest.result c.args.answers.now
    (digest_of capture (octets_at_each c.args.frames.now) c.capture_digest-digest.result framed c.capture_digest-digest.ensures) c.in-Ok.ensures.are

pub returns-in-Err-clause-other : goal.returns-in-Err-clause-other
returns-in-Err-clause-other c = λ capture framed.
    other_told capture c.args.moments.now c.capture_digest-digest.result c.args.answers.now
    (digest_of capture (octets_at_each c.args.frames.now) c.capture_digest-digest.result framed c.capture_digest-digest.ensures)
    c.in-Err.error c.answers_fault.result c.in-Err.ensures.other c.answers_fault.ensures.told

pub returns-in-Err-clause-refused : goal.returns-in-Err-clause-refused
returns-in-Err-clause-refused c =
    other_refused c.args.answers.now c.capture_digest-digest.result c.args.moments.now c.in-Err.error c.answers_fault.result c.in-Err.ensures.other c.answers_fault.ensures.told
