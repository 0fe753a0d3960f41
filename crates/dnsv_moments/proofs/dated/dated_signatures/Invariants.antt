use Rattle.dnsv_moments.proofs.DatedLemmas.{AreDatedTo}
use Rattle.dnsv_moments.proofs.dated.dated_signatures.Given as goal

-- those so far
abbrev pub invariant-loop-number : goal.invariant-loop-number
invariant-loop-number l = AreDatedTo l.capture.rrsets l.numbers l.number-index l.all.items
