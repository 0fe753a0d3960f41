use Rattle.dnsv_derivations.specs.Saying.{Adds}
use Rattle.dnsv_derivations.specs.unsigned_cuts.UnsignedCuts.{AreFirstTold}
use Rattle.dnsv_derivations.proofs.unsigned_cuts.unusable.add_why.Given as goal

abbrev pub invariant-loop-place : goal.invariant-loop-place
invariant-loop-place l =
    Adds (AreFirstTold l.evidence.rrsets l.number l.place) l.initial.lines.items l.lines.items
