use Rattle.std.proofs.Common.{◌≡◌, map, take}
use Rattle.dnsv_gaps.proofs.PartLemmas.{rrset_of}
use Rattle.dnsv_gaps.proofs.parts.rrsets_of.Given as goal

-- those of the records so far
abbrev pub invariant-loop-number : goal.invariant-loop-number
invariant-loop-number l = l.rrsets.items ≡ map rrset_of (take l.number-index l.numbers)
