-- none of the signatures so far is such
use Rattle.dnsv_verdict.proofs.SearchLemmas.{NoneSoFar}
use Rattle.dnsv_verdict.proofs.at_name.search.first_signature.Given as goal

abbrev pub invariant-loop-place : goal.invariant-loop-place
invariant-loop-place g l = NoneSoFar (g.T.Test.passes l.test) l.rrset l.numbers l.signatures l.place
