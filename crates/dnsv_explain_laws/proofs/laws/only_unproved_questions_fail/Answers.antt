use Rattle.dnsv_lines.specs.declared.line.Line.TheVariants as line
use Rattle.dnsv_explain_laws.proofs.lemmas.whole.ProvedLemmas.{line_holds}
use Rattle.dnsv_explain_laws.proofs.laws.only_unproved_questions_fail.Goals as goal

pub returns-clause-reasons : goal.returns-clause-reasons
returns-clause-reasons c = λ explained t links last verdict lines proved is reason there.
    line_holds explained t links last verdict proved lines is (line.Reason reason) there

pub returns-clause-signers : goal.returns-clause-signers
returns-clause-signers c = λ explained t links last verdict lines proved is untrusted there.
    line_holds explained t links last verdict proved lines is (line.Follows untrusted) there

pub returns-clause-keys : goal.returns-clause-keys
returns-clause-keys c = λ explained t links last verdict lines proved is key there.
    line_holds explained t links last verdict proved lines is (line.Key key) there
