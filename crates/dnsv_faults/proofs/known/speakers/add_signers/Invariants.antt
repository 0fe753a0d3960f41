use Rattle.std.proofs.Common.{take}
use Rattle.dnsv_records.specs.declared.rrsig.Rrsig.{Rrsig}
use Rattle.dnsv_verifier.specs.Asking.{AddsJust, ComesOfSome}
use Rattle.dnsv_faults.specs.KnownZones.KnownSearch.{IsSignerAbove}
use Rattle.dnsv_faults.proofs.known.speakers.add_signers.Given as goal

-- the signers so far
abbrev pub invariant-loop-rrsig : goal.invariant-loop-rrsig
invariant-loop-rrsig l =
    AddsJust (ComesOfSome (λ (rrsig : Rrsig). IsSignerAbove l.name l.from_above rrsig.signer) (take l.rrsig-index l.rrsig-items))
    l.initial.numbers.items l.numbers.items
