use Rattle.dnsv_chain.specs.Trust.{SecuredIn}
use Rattle.dnsv_denial.specs.WildcardAnswers.{AreAnswers}
use Rattle.dnsv_denial.proofs.wildcard_answers.wildcard_answers.Given as goal

-- what is kept so far is so
abbrev pub invariant-loop-rtype : goal.invariant-loop-rtype
invariant-loop-rtype l = AreAnswers (SecuredIn l.trust) l.capture.rrsets l.name l.answers
