use Rattle.std.proofs.Common.{◌-◌, List, get_or, length, rules, subst, sym}
use Rattle.dnsv_canonical.specs.Rrsets.{ReceivedRrset}
use Rattle.dnsv_verifier.specs.Admissible.{DnskeyRecord, IsGood}
use Rattle.dnsv_derivations.specs.Explained.{setting_in}
use Rattle.dnsv_derivations.specs.derivations.SignerSearch.{IsFirstTo}
use Rattle.dnsv_derivations.proofs.lemmas.IndexLemmas.{same_numbers}
use Rattle.dnsv_derivations.proofs.lemmas.NumberedLemmas.{in_list}
use Rattle.dnsv_derivations.proofs.lemmas.derivations.ValidLemmas.{never_good}
use Rattle.dnsv_derivations.proofs.lemmas.derivations.SignersAtLemmas.{key_set_there, lowest_next, set_there, signers_begin, signers_end, signers_more, signers_next}
use Rattle.dnsv_derivations.proofs.derivations.signers.first_signer.Goals as goal

pub returns-in_default : goal.returns-in_default
returns-in_default c =
    let setting = setting_in c.args.evidence.now in
    let none : (key : DnskeyRecord) → ¬ IsGood setting.meaning setting.moment c.args.rrset.now c.args.rrsig.now key = search rules in
    never_good setting c.args.number c.args.rrset.now c.args.rrsig.now c.requires.rrset c.requires.rrsig none (length c.args.rrsets.now)

pub loop-k-init : goal.loop-k-init
loop-k-init c =
    signers_begin (setting_in c.args.evidence.now) c.args.number c.args.rrset.now c.args.rrsig.now c.requires.rrset c.requires.rrsig
    c.at-k-items.result.now
    (same_numbers c.capture-capture.result.now.rrsets c.args.evidence.now.rrsets c.to_name-signer.result c.args.rrsig.now.signer 48
    c.at-k-items.result.now c.at-k-items.ensures c.capture-capture.ensures c.to_name-signer.ensures)

pub lowest_in-requires-clause-set : goal.lowest_in-requires-clause-set
lowest_in-requires-clause-set c =
    in_list c.args.evidence.now.rrsets c.args.rrsets.now (get_or c.at-k-items.result.now c.loop-k.k-index 0) c.in-Some-numbered.set.now c.requires.all c.in-Some-numbered.ensures

pub lowest_in-requires-clause-rtype : goal.lowest_in-requires-clause-rtype
lowest_in-requires-clause-rtype c =
    key_set_there (setting_in c.args.evidence.now) c.args.number c.args.rrset.now c.args.rrsig.now c.requires.rrset c.requires.rrsig
    c.at-k-items.result.now
    (same_numbers c.capture-capture.result.now.rrsets c.args.evidence.now.rrsets c.to_name-signer.result c.args.rrsig.now.signer 48
    c.at-k-items.result.now c.at-k-items.ensures c.capture-capture.ensures c.to_name-signer.ensures)
    c.loop-k.k-index c.loop-k-test.true c.in-Some-numbered.set.now
    (in_list c.args.evidence.now.rrsets c.args.rrsets.now (get_or c.at-k-items.result.now c.loop-k.k-index 0) c.in-Some-numbered.set.now c.requires.all c.in-Some-numbered.ensures)

pub loop-k-preserved : goal.loop-k-preserved
loop-k-preserved c =
    signers_more (setting_in c.args.evidence.now) c.args.number c.args.rrset.now c.args.rrsig.now c.requires.rrset c.requires.rrsig
    c.at-k-items.result.now
    (same_numbers c.capture-capture.result.now.rrsets c.args.evidence.now.rrsets c.to_name-signer.result c.args.rrsig.now.signer 48
    c.at-k-items.result.now c.at-k-items.ensures c.capture-capture.ensures c.to_name-signer.ensures)
    c.loop-k.k-index c.earlier-first.result c.loop-k-test.true
    (c.earlier-first.ensures (setting_in c.args.evidence.now) c.args.number ((get_or c.at-k-items.result.now c.loop-k.k-index 0) - 1)
    (signers_next (setting_in c.args.evidence.now) c.args.number c.args.rrset.now c.args.rrsig.now c.requires.rrset c.requires.rrsig
    c.at-k-items.result.now
    (same_numbers c.capture-capture.result.now.rrsets c.args.evidence.now.rrsets c.to_name-signer.result c.args.rrsig.now.signer 48
    c.at-k-items.result.now c.at-k-items.ensures c.capture-capture.ensures c.to_name-signer.ensures)
    c.loop-k.k-index c.loop-k.first c.loop-k-test.true c.loop-k.invariant)
    (lowest_next (setting_in c.args.evidence.now) c.args.number c.args.rrset.now c.args.rrsig.now c.requires.rrset c.requires.rrsig
    c.at-k-items.result.now
    (same_numbers c.capture-capture.result.now.rrsets c.args.evidence.now.rrsets c.to_name-signer.result c.args.rrsig.now.signer 48
    c.at-k-items.result.now c.at-k-items.ensures c.capture-capture.ensures c.to_name-signer.ensures)
    c.loop-k.k-index c.in_ok-found.found c.loop-k-test.true c.in_ok-found.ensures))

pub loop-k-preserved-in_default-numbered : goal.loop-k-preserved-in_default-numbered
loop-k-preserved-in_default-numbered c =
    absurd (set_there (setting_in c.args.evidence.now) c.args.number c.args.rrset.now c.args.rrsig.now c.requires.rrset c.requires.rrsig
    c.at-k-items.result.now
    (same_numbers c.capture-capture.result.now.rrsets c.args.evidence.now.rrsets c.to_name-signer.result c.args.rrsig.now.signer 48
    c.at-k-items.result.now c.at-k-items.ensures c.capture-capture.ensures c.to_name-signer.ensures)
    c.loop-k.k-index c.loop-k-test.true
    (λ each numbered. c.in_default-numbered.ensures each
    (in_list c.args.rrsets.now c.args.evidence.now.rrsets (get_or c.at-k-items.result.now c.loop-k.k-index 0) each (sym c.requires.all) numbered)))

pub returns : goal.returns
returns c =
    let To : List ReceivedRrset → Type 0 =
    λ rrsets. IsFirstTo (setting_in c.args.evidence.now) c.args.number (length rrsets) c.loop-k.first in
    subst To (sym c.requires.all)
    (signers_end (setting_in c.args.evidence.now) c.args.number c.args.rrset.now c.args.rrsig.now c.requires.rrset c.requires.rrsig
    c.at-k-items.result.now
    (same_numbers c.capture-capture.result.now.rrsets c.args.evidence.now.rrsets c.to_name-signer.result c.args.rrsig.now.signer 48
    c.at-k-items.result.now c.at-k-items.ensures c.capture-capture.ensures c.to_name-signer.ensures)
    c.loop-k.k-index c.loop-k.first c.loop-k-test.false c.loop-k.invariant)
