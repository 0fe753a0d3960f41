use Rattle.std.proofs.Common.{refl}
use Rattle.dnsv_denial.proofs.lemmas.gathering.Gathering.{all_listed, listed_next, none_listed}
use Rattle.dnsv_gaps.specs.UnusableSearch.{IsUnusedAt}
use Rattle.dnsv_gaps.proofs.sources.unusable.unusable_of.Goals as goal

pub loop-number-init : goal.loop-number-init
loop-number-init c = rw c.new-unusable.ensures.items
    (none_listed (λ each. each.number) (λ each. each.why) (IsUnusedAt c.args.capture.now.rrsets c.args.zone.now) c.args.numbers.now)

pub loop-number-preserved : goal.loop-number-preserved
loop-number-preserved c =
    let got = c.in_ok-add_unusable.ensures in
    listed_next (λ each. each.number) (λ each. each.why) (IsUnusedAt c.args.capture.now.rrsets c.args.zone.now)
    c.args.numbers.now c.loop-number.number-index _ c.loop-number.unusable.items got.0 c.add_unusable.new.unusable.items c.requires c.loop-number-test.true refl got.2 got.1 c.loop-number.invariant

pub returns : goal.returns
returns c =
    all_listed (λ each. each.number) (λ each. each.why) (IsUnusedAt c.args.capture.now.rrsets c.args.zone.now)
    c.args.numbers.now c.loop-number.number-index c.loop-number.unusable.items c.loop-number-test.false c.loop-number.invariant
