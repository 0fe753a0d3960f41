use Rattle.dnsv_names.specs.Name.{rightmost}
use Rattle.dnsv_gaps.specs.Asking.{asking}
use Rattle.dnsv_gaps.specs.Denials.{IsDenialOf}
use Rattle.dnsv_gaps.proofs.DenialLemmas.{AreTo}
use Rattle.dnsv_gaps.proofs.denials.denials_of.Given as goal

-- the denials among the RRsets so far
abbrev pub invariant-loop-place : goal.invariant-loop-place
invariant-loop-place l =
    AreTo (IsDenialOf (asking l.question) (rightmost l.question.name.now l.labels)) l.rrset-items l.place l.numbers.items
