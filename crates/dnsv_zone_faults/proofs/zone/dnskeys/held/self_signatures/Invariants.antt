use Rattle.std.proofs.Common.{take}
use Rattle.dnsv_verifier.specs.Asking.{GivesEach}
use Rattle.dnsv_zone_faults.specs.Dnskeys.{MayBeBy}
use Rattle.dnsv_zone_faults.specs.Dnskeys.DnskeySearch.{IsSelfOf, basis_of_set}
use Rattle.dnsv_zone_faults.specs.declared.zone.dnskeys.tagged.OwnSignature.{OwnSignature}
use Rattle.dnsv_zone_faults.proofs.zone.dnskeys.held.self_signatures.Given as goal

-- those of the signatures so far
abbrev pub invariant-loop-own : goal.invariant-loop-own
invariant-loop-own l =
    GivesEach (IsSelfOf (basis_of_set l.set) l.set.number l.set.rrset.now l.placed.key)
    (λ (own : OwnSignature). MayBeBy (basis_of_set l.set) l.set.rrset.now l.placed.key own.rrsig.now) (take l.own-index l.own-items) l.found.items
