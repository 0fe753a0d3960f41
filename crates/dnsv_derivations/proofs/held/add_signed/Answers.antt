use Rattle.std.proofs.Common.{refl}
use Rattle.dnsv_derivations.specs.Explained.{setting_in}
use Rattle.dnsv_derivations.specs.derivations.HeldTo.{IsLowestDerived}
use Rattle.dnsv_derivations.proofs.lemmas.SayingLemmas.{all_added, next_added, none_added}
use Rattle.dnsv_derivations.proofs.held.add_signed.Goals as goal

pub loop-number-init : goal.loop-number-init
loop-number-init c = none_added (IsLowestDerived (setting_in c.args.evidence.now)) c.args.lines.now.items c.args.numbers.now

pub loop-number-preserved : goal.loop-number-preserved
loop-number-preserved c =
    next_added (IsLowestDerived (setting_in c.args.evidence.now)) c.args.numbers.now c.loop-number.number-index _ _
    c.args.lines.now.items _ _ c.loop-number-test.true refl c.loop-number.invariant c.in_ok-add_lowest.ensures

pub returns : goal.returns
returns c =
    all_added (IsLowestDerived (setting_in c.args.evidence.now)) c.args.numbers.now c.loop-number.number-index c.args.lines.now.items _
    c.loop-number-test.false c.loop-number.invariant
