use Rattle.std.proofs.Common.{◌≤◌, length}
use Rattle.dnsv_names.proofs.ParseLemmas.{SpelledSoFar}
use Rattle.dnsv_names.proofs.text.parse.label_of.Given as goal

-- the text in front of the rest spells the octets of the label
abbrev pub invariant-loop-rest : goal.invariant-loop-rest
invariant-loop-rest l = SpelledSoFar l.text l.label.items l.rest × (length l.label.items ≤ 63)

abbrev pub decreases-loop-rest : goal.decreases-loop-rest
decreases-loop-rest l = length l.rest
