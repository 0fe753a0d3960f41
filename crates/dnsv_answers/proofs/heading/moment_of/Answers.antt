use Rattle.std.proofs.Common.{arith}
use Rattle.dnsv_answers.proofs.HeadingLemmas.{past_last}
use Rattle.dnsv_answers.proofs.heading.moment_of.Goals as goal

pub returns-then-number-ge-MOMENT_LIMIT : goal.returns-then-number-ge-MOMENT_LIMIT
returns-then-number-ge-MOMENT_LIMIT c =
    past_last c.args.text.now c.in-Some.number c.in-Some.ensures (omega arith) (omega (arith, c.if-number-ge-MOMENT_LIMIT.true))
