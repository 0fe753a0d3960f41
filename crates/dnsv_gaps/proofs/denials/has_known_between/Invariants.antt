use Rattle.dnsv_gaps.specs.Asking.{asking}
use Rattle.dnsv_gaps.proofs.DenialLemmas.{NoneTo}
use Rattle.dnsv_gaps.proofs.denials.has_known_between.Given as goal

-- no number of labels so far is that of a known zone above the owner
abbrev pub invariant-loop-count : goal.invariant-loop-count
invariant-loop-count l = NoneTo (asking l.question) l.labels l.owner l.count
