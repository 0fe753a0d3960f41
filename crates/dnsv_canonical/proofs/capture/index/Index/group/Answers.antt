use Rattle.std.proofs.Common.{◌∙◌, ◌+◌, ◌-◌, ap, arith, drop, length, take}
use Rattle.dnsv_canonical.proofs.IndexLemmas.Layout.{group_numbers, reach, reach_all}
use Rattle.dnsv_canonical.proofs.capture.index.Index.group.Goals as goal

pub between-requires-clause-order : goal.between-requires-clause-order
between-requires-clause-order c =
    omega (arith, c.start.ensures c.requires.laid.0 c.requires.laid.1, c.start-2.ensures c.requires.laid.0 c.requires.laid.1, reach c.args.place 1 c.requires.laid.0)

pub between-requires-clause-within : goal.between-requires-clause-within
between-requires-clause-within c =
    omega (arith, c.start-2.ensures c.requires.laid.0 c.requires.laid.1, reach_all (c.args.place + 1) c.requires.laid.0, ap length c.deref.ensures.value, ap length c.requires.laid.1.numbers_are)

pub returns : goal.returns
returns c = λ groups laid group at.
    c.between.ensures ∙ ap (λ numbers. take (c.start-2.result - c.start.result) (drop c.start.result numbers)) c.deref.ensures.value
    ∙ group_numbers c.args.self.now.numbers.items c.args.self.now.starts.items groups c.args.place c.start.result c.start-2.result group laid (c.start.ensures groups laid) (c.start-2.ensures groups laid) at
