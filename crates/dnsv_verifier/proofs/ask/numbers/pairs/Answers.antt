use Rattle.std.proofs.Common.{[]}
use Rattle.dnsv_verifier.specs.Numbers.{IsPairIn}
use Rattle.dnsv_verifier.proofs.AskLemmas.{adds_moved, some_more, some_all}
use Rattle.dnsv_verifier.proofs.ask.numbers.pairs.Goals as goal

pub loop-key-preserved : goal.loop-key-preserved
loop-key-preserved c =
    adds_moved _ [] c.add_pairs.new.numbers.items c.drop_repeats-distinct.new.numbers.items
    (some_more (IsPairIn c.args.signatures.now) c.args.keys.now c.loop-key.key-index c.key-item.result [] c.loop-key.numbers.items c.add_pairs.new.numbers.items c.loop-key-test.true c.key-item.is c.loop-key.invariant c.in_ok-add_pairs.ensures)
    c.drop_repeats-distinct.ensures

pub returns-clause-adds : goal.returns-clause-adds
returns-clause-adds c =
    adds_moved _ [] c.loop-key.numbers.items c.put_in_order.new.numbers.items
    (some_all (IsPairIn c.args.signatures.now) c.args.keys.now c.loop-key.key-index [] c.loop-key.numbers.items c.loop-key-test.false c.loop-key.invariant)
    c.put_in_order.ensures.same
