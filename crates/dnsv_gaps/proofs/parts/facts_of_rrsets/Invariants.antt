use Rattle.std.proofs.Common.{take}
use Rattle.std.specs.List.{AllZip}
use Rattle.dnsv_chain.specs.Basis.{basis_by}
use Rattle.dnsv_faults.specs.Rrsets.{AreRrsetFacts}
use Rattle.dnsv_gaps.proofs.parts.facts_of_rrsets.Given as goal

-- what is so of those so far
abbrev pub invariant-loop-number : goal.invariant-loop-number
invariant-loop-number l = AllZip (AreRrsetFacts (basis_by l.facts)) (take l.number-index l.rrsets) l.found.items
