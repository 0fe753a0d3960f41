use Rattle.dnsv_asking.proofs.JudgedLemmas.{answered_so, refused_so}
use Rattle.dnsv_asking.proofs.asking.answer.Goals as goal

pub returns-in-Ok-clause-answer : goal.returns-in-Ok-clause-answer
returns-in-Ok-clause-answer c = λ basis is same at.
    answered_so c.args.reporting.now.telling.format c.args.reporting.now.telling.why c.args.reporting.now.numbers.now basis c.args.question.now
    c.name-name.result c.rtype.result.0 c.args.reporting.now.moment c.args.reporting.now.rrsets.now c.in-Ok.report c.in-Ok.told c.outcome_by.result c.name-name.ensures c.rtype.ensures same at
    (c.in-Ok.ensures.question basis is) (c.in-Ok.ensures.verdict basis is) (rw c.requires.why at (c.in-Ok.ensures.why basis is))
    c.outcome_by.ensures.status c.outcome_by.ensures.text

pub returns-in-Err-clause-answer : goal.returns-in-Err-clause-answer
returns-in-Err-clause-answer c = λ basis is same at.
    refused_so c.args.reporting.now.telling.format c.args.reporting.now.telling.why c.args.reporting.now.numbers.now basis c.args.question.now
    c.name-name.result c.rtype.result.0 c.refused.result c.name-name.ensures c.rtype.ensures (c.refused.ensures basis at (c.in-Err.ensures.refused basis is))
