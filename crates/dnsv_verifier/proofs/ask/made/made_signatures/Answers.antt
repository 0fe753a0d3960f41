use Rattle.std.proofs.Common.{[], List, sym, subst}
use Rattle.dnsv_verifier.specs.Asking.{AddsJust, AreMadeAt, ComesOfSome, IsMadeIn, MadeSignature}
use Rattle.dnsv_verifier.proofs.AskLemmas.{some_none, some_more, some_all}
use Rattle.dnsv_verifier.proofs.PlaceLemmas.{numbered_here}
use Rattle.dnsv_canonical.specs.declared.number.SignatureNumber.{SignatureNumber}
use Rattle.dnsv_verifier.proofs.ask.made.made_signatures.Goals as goal

pub loop-place-init : goal.loop-place-init
loop-place-init c = record {
  adds = subst (λ (made : List MadeSignature). AddsJust (ComesOfSome (IsMadeIn c.args.range.from c.args.range.to c.args.keys.now) []) [] made) (sym c.new-2.ensures.items)
      (some_none (IsMadeIn c.args.range.from c.args.range.to c.args.keys.now) c.args.rrsets.now []);
  numbers = subst (λ (numbers : List SignatureNumber). AreMadeAt c.args.rrsets.now numbers c.new-2.result.items) (sym c.new-3.ensures.items)
      (subst (λ (made : List MadeSignature). AreMadeAt c.args.rrsets.now [] made) (sym c.new-2.ensures.items) tt);
}

pub loop-place-preserved : goal.loop-place-preserved
loop-place-preserved c =
    let rrsets = c.args.rrsets.now in
    let i = c.loop-place.place in
    record {
      adds = some_more (IsMadeIn c.args.range.from c.args.range.to c.args.keys.now) rrsets i c.index-rrsets-place.result _ _ _ c.loop-place-test.true c.index-rrsets-place.is c.loop-place.invariant.adds c.in_ok-add_rrset.ensures.adds;
      numbers = c.in_ok-add_rrset.ensures.numbers rrsets (numbered_here rrsets i c.index-rrsets-place.result c.loop-place-test.true c.index-rrsets-place.is) c.loop-place.invariant.numbers;
    }

pub returns-clause-adds : goal.returns-clause-adds
returns-clause-adds c =
    some_all (IsMadeIn c.args.range.from c.args.range.to c.args.keys.now) c.args.rrsets.now c.loop-place.place _ _ c.loop-place-test.false c.loop-place.invariant.adds
