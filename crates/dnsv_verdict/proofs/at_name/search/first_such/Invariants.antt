-- none of the RRsets so far has one
use Rattle.dnsv_verdict.proofs.SearchLemmas.{NoneSoFarAt}
use Rattle.dnsv_verdict.proofs.at_name.search.first_such.Given as goal

abbrev pub invariant-loop-number : goal.invariant-loop-number
invariant-loop-number g l = NoneSoFarAt (g.T.Test.passes l.test) l.trust l.capture.rrsets l.at_name l.number-index
