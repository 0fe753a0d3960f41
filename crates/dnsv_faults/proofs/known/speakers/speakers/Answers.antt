use Rattle.dnsv_verifier.proofs.AskLemmas.{some_all, some_more}
use Rattle.dnsv_faults.specs.KnownZones.KnownSearch.{IsSpokenBy}
use Rattle.dnsv_faults.proofs.lemmas.KnownLemmas.{all_spoken}
use Rattle.dnsv_faults.proofs.known.speakers.speakers.Goals as goal

pub loop-rrset-preserved : goal.loop-rrset-preserved
loop-rrset-preserved c =
    some_more (IsSpokenBy c.args.name.now c.args.rtype.0) c.args.rrsets.now c.loop-rrset.rrset-index c.rrset-item.result _ _ _
    c.loop-rrset-test.true c.rrset-item.is c.loop-rrset.invariant c.in_ok-add_speakers.ensures

pub returns : goal.returns
returns c =
    all_spoken c.args.rrsets.now c.args.name.now c.args.rtype.0 c.loop-rrset.numbers.items
    (some_all (IsSpokenBy c.args.name.now c.args.rtype.0) c.args.rrsets.now c.loop-rrset.rrset-index _ _ c.loop-rrset-test.false
    c.loop-rrset.invariant)
