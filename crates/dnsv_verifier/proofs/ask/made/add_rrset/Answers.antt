use Rattle.dnsv_verifier.proofs.AskLemmas.{some_none, some_more, some_all}
use Rattle.dnsv_verifier.proofs.EntryLemmas.{adds_made_in}
use Rattle.dnsv_verifier.proofs.PlaceLemmas.{has_number_here}
use Rattle.dnsv_verifier.specs.Asking.{IsMadeOf}
use Rattle.dnsv_verifier.proofs.ask.made.add_rrset.Goals as goal

pub loop-place-init : goal.loop-place-init
loop-place-init c =
    let sought = c.args.sought.now in
    record {
      adds = some_none (IsMadeOf sought.range.from sought.range.to sought.keys.now c.args.rrset.now) c.signatures-rrsig-items.result.now _;
      numbers = λ rrsets numbered are. are;
    }

pub loop-place-preserved : goal.loop-place-preserved
loop-place-preserved c =
    let sought = c.args.sought.now in
    let rrset = c.args.rrset.now in
    let all = c.signatures-rrsig-items.result.now in
    let i = c.loop-place.place in
    record {
      adds = some_more (IsMadeOf sought.range.from sought.range.to sought.keys.now rrset) all i c.rrsig-item.result _ _ _ c.loop-place-test.true c.rrsig-item.is c.loop-place.invariant.adds c.in_ok-add_signature.ensures.adds;
      numbers = λ rrsets numbered are. c.in_ok-add_signature.ensures.numbers rrsets
          (has_number_here rrsets c.args.number rrset all i c.rrsig-item.result c.signatures-rrsig-items.ensures c.loop-place-test.true c.rrsig-item.is numbered)
          (c.loop-place.invariant.numbers rrsets numbered are);
    }

pub returns-clause-adds : goal.returns-clause-adds
returns-clause-adds c =
    let sought = c.args.sought.now in
    let rrset = c.args.rrset.now in
    let all = c.signatures-rrsig-items.result.now in
    adds_made_in rrset all c.signatures-rrsig-items.ensures sought.range.from sought.range.to sought.keys.now _ _
    (some_all (IsMadeOf sought.range.from sought.range.to sought.keys.now rrset) all c.loop-place.place _ _ c.loop-place-test.false c.loop-place.invariant.adds)

pub returns-clause-numbers : goal.returns-clause-numbers
returns-clause-numbers c = c.loop-place.invariant.numbers
