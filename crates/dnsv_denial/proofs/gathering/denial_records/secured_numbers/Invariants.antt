-- those of the numbers so far
use Rattle.dnsv_chain.specs.Trust.{SecuredIn}
use Rattle.dnsv_denial.specs.gathering.Evidence.{IsSecuredBy}
use Rattle.dnsv_denial.proofs.lemmas.gathering.FilterLemmas.{AreSuchTo}
use Rattle.dnsv_denial.proofs.gathering.denial_records.secured_numbers.Given as goal

abbrev pub invariant-loop-number : goal.invariant-loop-number
invariant-loop-number l = AreSuchTo (IsSecuredBy (SecuredIn l.trust) l.capture.rrsets l.zone) l.listed l.number-index l.numbers.items
