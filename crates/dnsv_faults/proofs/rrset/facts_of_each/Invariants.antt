use Rattle.std.proofs.Common.{take}
use Rattle.std.specs.List.{AllZip}
use Rattle.dnsv_chain.specs.Basis.{basis_by}
use Rattle.dnsv_faults.specs.Signatures.{AreSignatureFacts}
use Rattle.dnsv_faults.proofs.rrset.facts_of_each.Given as goal

-- what is so of the signatures so far
abbrev pub invariant-loop-signature : goal.invariant-loop-signature
invariant-loop-signature l =
    AllZip (λ signature known. AreSignatureFacts (basis_by l.facts) l.number l.rrset signature.number known) (take l.signature-index l.order) l.each.items
