use Rattle.std.proofs.Common.{ℕ}
use Rattle.dnsv_answers.specs.AnswerFile.{AreMiscounted}
use Rattle.dnsv_answers.specs.Answered.{IsNumberAskedWithin}
use Rattle.dnsv_files.proofs.FileLemmas.Answers.{refused_for}
use Rattle.dnsv_files.specs.Bounds.{begin_of, end_of}
use Rattle.dnsv_work.specs.Span.{moments_of}
use Rattle.dnsv_work.proofs.known.table_of.Goals as goal

pub returns-in-Err-clause-fault : goal.returns-in-Err-clause-fault
returns-in-Err-clause-fault c =
    let moments = moments_of c.args.span.now in
    refused_for (λ error. (count : ℕ) × IsNumberAskedWithin (begin_of moments) (end_of moments) c.args.held.now.rrsets count × AreMiscounted c.args.answers.now count error)
    c.in-Err.error c.answers_fault.result c.answers_fault.ensures.told (rw (c.range.ensures.from, c.range.ensures.to) at c.in-Err.ensures.fault)
