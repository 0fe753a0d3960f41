use Rattle.std.proofs.Common.{refl, sym}
use Rattle.std.proofs.lemmas.Bool.{false≢true}
use Rattle.dnsv_moments.proofs.TellingLemmas.{all_tell, more_tell}
use Rattle.dnsv_moments.proofs.throughout.all_tell.Goals as goal

pub returns-then-not-tells : goal.returns-then-not-tells
returns-then-not-tells c = (
  λ t. absurd (false≢true t),
  λ all. c.if-not-tells.ensures.1 (all c.stretch-item.result (c.loop-stretch.stretch-index, c.loop-stretch-test.true, sym c.stretch-item.is)),
)

pub loop-stretch-preserved : goal.loop-stretch-preserved
loop-stretch-preserved c =
    more_tell c.args.kind c.args.stretches.now c.loop-stretch.stretch-index c.stretch-item.result c.loop-stretch-test.true
    c.stretch-item.is c.loop-stretch.invariant (c.if-not-tells.ensures.0 refl)

pub returns : goal.returns
returns c = (
  λ t. all_tell c.args.kind c.args.stretches.now c.loop-stretch.stretch-index c.loop-stretch-test.false c.loop-stretch.invariant,
  λ all. refl,
)
