use Rattle.std.proofs.Common.{◌≡◌, true, false}
use Rattle.dnsv_canonical.proofs.ReadableLemmas.{IsFirstBad-here}
use Rattle.dnsv_canonical.proofs.capture.readable.first_bad.Goals as goal

pub returns-then-not-is_readable : goal.returns-then-not-is_readable
returns-then-not-is_readable c =
    IsFirstBad-here c.args.records.now c.loop-index.index c.index-records-index.result c.loop-index-test.true c.index-records-index.is c.loop-index.invariant
    (λ readable. let turned : false ≡ true = c.if-not-is_readable.ensures.1 readable in cc)
