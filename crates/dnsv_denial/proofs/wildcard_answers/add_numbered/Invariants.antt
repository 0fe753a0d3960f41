use Rattle.std.proofs.Common.{List}
use Rattle.dnsv_canonical.specs.Rrsets.{ReceivedRrset}
use Rattle.dnsv_chain.specs.Trust.{KeptTrust, SecuredIn}
use Rattle.dnsv_denial.specs.WildcardAnswers.{AreAnswers}
use Rattle.dnsv_denial.specs.gathering.Kept.{IsViewOf}
use Rattle.dnsv_denial.proofs.wildcard_answers.add_numbered.Given as goal

-- what is kept so far is so
abbrev pub invariant-loop-number : goal.invariant-loop-number
invariant-loop-number l =
    (trust : KeptTrust) (rrsets : List ReceivedRrset) → IsViewOf (SecuredIn trust) rrsets l.name l.sets l.zones
    → AreAnswers (SecuredIn trust) rrsets l.name l.fn.answers → AreAnswers (SecuredIn trust) rrsets l.name l.answers
