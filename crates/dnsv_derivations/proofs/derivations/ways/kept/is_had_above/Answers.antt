use Rattle.std.proofs.Common.{length, refl}
use Rattle.dnsv_derivations.specs.Explained.{setting_in}
use Rattle.dnsv_derivations.proofs.lemmas.IndexLemmas.{same_numbers}
use Rattle.dnsv_derivations.proofs.lemmas.derivations.WayLemmas.NewKeyLemmas.{had_above}
use Rattle.dnsv_derivations.proofs.derivations.ways.kept.is_had_above.Goals as goal

pub returns-then-is_had_by : goal.returns-then-is_had_by
returns-then-is_had_by c = λ is.
    had_above (setting_in c.args.evidence.now) (length c.args.before.now) c.loop-number.number-index c.args.owner.now
    c.at-number-items.result.now c.args.rdata.now
    (same_numbers c.capture-capture.result.now.rrsets c.args.evidence.now.rrsets c.args.owner.now c.args.owner.now 48
    c.at-number-items.result.now c.at-number-items.ensures c.capture-capture.ensures refl)
    c.loop-number-test.true (c.is_had_by.ensures c.if-is_had_by.true)
