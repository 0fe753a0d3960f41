use Rattle.dnsv_records.specs.declared.rrsig.Rrsig.{Rrsig}
use Rattle.dnsv_verifier.proofs.AskLemmas.{some_all, some_more, some_none}
use Rattle.dnsv_faults.specs.KnownZones.KnownSearch.{IsSignerAbove}
use Rattle.dnsv_faults.proofs.lemmas.KnownLemmas.{signers_added}
use Rattle.dnsv_faults.proofs.known.speakers.add_signers.Goals as goal

pub loop-rrsig-init : goal.loop-rrsig-init
loop-rrsig-init c =
    some_none (λ (rrsig : Rrsig). IsSignerAbove c.args.name.now c.args.from_above rrsig.signer) c.signatures-rrsig-items.result.now _

pub loop-rrsig-preserved : goal.loop-rrsig-preserved
loop-rrsig-preserved c =
    some_more (λ (rrsig : Rrsig). IsSignerAbove c.args.name.now c.args.from_above rrsig.signer) c.signatures-rrsig-items.result.now
    c.loop-rrsig.rrsig-index c.rrsig-item.result _ _ _ c.loop-rrsig-test.true c.rrsig-item.is c.loop-rrsig.invariant
    (rw c.to_name.ensures at c.in_ok-add_signer.ensures)

pub returns : goal.returns
returns c =
    signers_added c.args.rrset.now c.signatures-rrsig-items.result.now c.signatures-rrsig-items.ensures c.args.name.now c.args.from_above _ _
    (some_all (λ (rrsig : Rrsig). IsSignerAbove c.args.name.now c.args.from_above rrsig.signer) c.signatures-rrsig-items.result.now
    c.loop-rrsig.rrsig-index _ _ c.loop-rrsig-test.false c.loop-rrsig.invariant)
