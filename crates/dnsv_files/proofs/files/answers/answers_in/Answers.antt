use Rattle.std.proofs.lemmas.Result.{err_from_is_err_and}
use Rattle.std.specs.Prelude.{Err}
use Rattle.dnsv_files.specs.Files.{IsGiven, octets_or_none}
use Rattle.dnsv_files.specs.declared.status.InputFile.TheVariants.{Answers}
use Rattle.dnsv_files.proofs.FileLemmas.Answers.{other_before, refused_about, refused_of_reads, refused_unread, text_before}
use Rattle.dnsv_files.proofs.FileLemmas.Faults.{reads_then}
use Rattle.dnsv_files.proofs.files.answers.answers_in.Goals as goal

pub returns-in_err-answers-clause-faults : goal.returns-in_err-answers-clause-faults
returns-in_err-answers-clause-faults g c = λ capture octets framed told.
    let p = err_from_is_err_and c.from_residual.result c.from_residual.ensures.1 in
    rw (p.1, p.2) (text_before capture c.args.moments (octets_or_none octets) c.in_err-answers.field-0.0 (c.in_err-answers.ensures.faults octets told))

pub returns-in_err-test_list-clause-faults : goal.returns-in_err-test_list-clause-faults
returns-in_err-test_list-clause-faults g c = λ capture octets framed told.
    let p = err_from_is_err_and c.from_residual-in_err-test_list.result c.from_residual-in_err-test_list.ensures.1 in
    rw (p.1, p.2) (other_before capture c.args.moments (octets_or_none octets) c.in_ok-answers.answers (c.in_ok-answers.ensures.said octets told) c.in_err-test_list.field-0.0
    (c.in_err-test_list.ensures.other capture framed))

pub returns-in_err-test_list-clause-reads : goal.returns-in_err-test_list-clause-reads
returns-in_err-test_list-clause-reads g c =
    let p = err_from_is_err_and c.from_residual-in_err-test_list.result c.from_residual-in_err-test_list.ensures.1 in
    rw (p.1, p.2) (reads_then c.in_ok-answers.answers (Err c.in_err-test_list.field-0.0) c.in_ok-answers.ensures.reads
    (refused_unread Answers c.in_err-test_list.field-0.0 c.in_err-test_list.ensures.refused))

pub returns-in_err-test_list-clause-about : goal.returns-in_err-test_list-clause-about
returns-in_err-test_list-clause-about g c =
    let p = err_from_is_err_and c.from_residual-in_err-test_list.result c.from_residual-in_err-test_list.ensures.1 in
    rw (p.1, p.2) (refused_about Answers c.in_err-test_list.field-0.0 c.in_err-test_list.ensures.refused)

pub returns-in_err-test_list-clause-given : goal.returns-in_err-test_list-clause-given
returns-in_err-test_list-clause-given g c =
    let p = err_from_is_err_and c.from_residual-in_err-test_list.result c.from_residual-in_err-test_list.ensures.1 in
    rw (p.1, p.2) (refused_of_reads (λ _. IsGiven c.args.reader.now) c.in_err-test_list.field-0.0 c.in_err-test_list.ensures.refused)
