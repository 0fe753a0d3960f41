use Rattle.std.proofs.Common.{length}
use Rattle.dnsv_names.proofs.WireLemmas.{LabelsSoFar}
use Rattle.dnsv_names.proofs.text.parse.wire_of_labels.Given as goal

-- the text in front of the rest spells labels, and the octets are their wire form without the root
abbrev pub invariant-loop-rest : goal.invariant-loop-rest
invariant-loop-rest l = LabelsSoFar l.text l.octets.items l.rest

abbrev pub decreases-loop-rest : goal.decreases-loop-rest
decreases-loop-rest l = length l.rest
