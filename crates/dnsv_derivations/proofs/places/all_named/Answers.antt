use Rattle.std.proofs.Common.{arith}
use Rattle.dnsv_verifier.proofs.AskLemmas.{some_all, some_more}
use Rattle.dnsv_derivations.proofs.lemmas.PlaceLemmas.{Names, adds_named, are_named}
use Rattle.dnsv_derivations.proofs.places.all_named.Goals as goal

pub loop-line-preserved : goal.loop-line-preserved
loop-line-preserved c =
    some_more Names c.args.lines.now c.loop-line.line-index c.line-item.result _ _ _ c.loop-line-test.true c.line-item.is
    c.loop-line.invariant
    (adds_named c.line-item.result c.loop-line.numbers.items _ c.in_ok-push_rrsets.ensures)

pub returns : goal.returns
returns c =
    are_named c.args.lines.now c.loop-line.numbers.items
    (some_all Names c.args.lines.now c.loop-line.line-index _ _ (omega (arith, c.loop-line-test.false)) c.loop-line.invariant)
