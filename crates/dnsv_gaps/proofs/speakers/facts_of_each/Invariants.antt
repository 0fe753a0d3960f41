use Rattle.std.proofs.Common.{take}
use Rattle.dnsv_gaps.proofs.SpeakerLemmas.{Told}
use Rattle.dnsv_gaps.proofs.speakers.facts_of_each.Given as goal

-- what is told of the sources so far
abbrev pub invariant-loop-place : goal.invariant-loop-place
invariant-loop-place l = Told l.question l.labels l.sources (take l.place l.sources) l.facts.items
