use Rattle.std.proofs.Common.{refl}
use Rattle.dnsv_chain.specs.Trust.{SecuredIn}
use Rattle.dnsv_denial.specs.gathering.Evidence.{IsSecuredBy}
use Rattle.dnsv_denial.proofs.lemmas.gathering.FilterLemmas.{all_such, none_such, one_kept, one_left}
use Rattle.dnsv_denial.proofs.gathering.denial_records.secured_numbers.Goals as goal

pub loop-number-init : goal.loop-number-init
loop-number-init c = rw c.new-numbers.ensures.items (none_such (IsSecuredBy (SecuredIn c.args.trust.now) c.args.capture.now.rrsets c.args.zone.now) c.args.listed.now)

pub loop-number-preserved-then-not-is_secured_by : goal.loop-number-preserved-then-not-is_secured_by
loop-number-preserved-then-not-is_secured_by c =
    one_left (IsSecuredBy (SecuredIn c.args.trust.now) c.args.capture.now.rrsets c.args.zone.now) c.args.listed.now c.loop-number.number-index _ c.loop-number.numbers.items
    c.loop-number-test.true refl (λ such. let holds = c.is_secured_by.ensures.1 such in let fails = c.if-not-is_secured_by.true in cc) c.loop-number.invariant

pub loop-number-preserved : goal.loop-number-preserved
loop-number-preserved c = rw c.in_ok-push.ensures.items
    (one_kept (IsSecuredBy (SecuredIn c.args.trust.now) c.args.capture.now.rrsets c.args.zone.now) c.args.listed.now c.loop-number.number-index _ c.loop-number.numbers.items
    c.loop-number-test.true refl (c.is_secured_by.ensures.0 c.if-not-is_secured_by.false) c.loop-number.invariant)

pub returns : goal.returns
returns c = all_such (IsSecuredBy (SecuredIn c.args.trust.now) c.args.capture.now.rrsets c.args.zone.now) c.args.listed.now c.loop-number.number-index c.loop-number.numbers.items
    c.loop-number-test.false c.loop-number.invariant
