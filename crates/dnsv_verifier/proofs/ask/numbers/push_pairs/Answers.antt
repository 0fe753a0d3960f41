use Rattle.std.proofs.Common.{List, sym, ◌∙◌, subst}
use Rattle.dnsv_verifier.specs.Asking.{AddsJust}
use Rattle.dnsv_verifier.specs.Numbers.{IsPairOf}
use Rattle.dnsv_verifier.specs.declared.entry.parts.EntryNumbers.{EntryNumbers}
use Rattle.dnsv_verifier.proofs.AskLemmas.{adds_one, some_none, some_more, some_all}
use Rattle.dnsv_verifier.proofs.ask.numbers.push_pairs.Goals as goal

pub loop-each-init : goal.loop-each-init
loop-each-init c = some_none (IsPairOf c.args.key) c.args.signatures.now _

pub loop-each-preserved : goal.loop-each-preserved
loop-each-preserved c =
    let pair : EntryNumbers = record { key = c.args.key; signature = c.number-signature.result } in
    let is : IsPairOf c.args.key c.each-item.result pair = λ i. record { key = c.args.key; signature = c.number-signature.ensures i } in
    some_more (IsPairOf c.args.key) c.args.signatures.now c.loop-each.each-index c.each-item.result _ _ _ c.loop-each-test.true c.each-item.is c.loop-each.invariant
    (subst (λ (pairs : List EntryNumbers). AddsJust (IsPairOf c.args.key c.each-item.result) c.loop-each.numbers.items pairs) (sym c.in_ok-push.ensures.items)
    (adds_one (IsPairOf c.args.key c.each-item.result) c.loop-each.numbers.items pair is (λ other of. of ∙ sym is)))

pub returns : goal.returns
returns c = some_all (IsPairOf c.args.key) c.args.signatures.now c.loop-each.each-index _ _ c.loop-each-test.false c.loop-each.invariant
