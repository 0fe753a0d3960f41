use Rattle.std.proofs.Common.{arith, length, refl}
use Rattle.std.proofs.lemmas.Option.{slice_get_read}
use Rattle.dnsv_proof_forms.proofs.lemmas.forms.EndLimitLemmas.{absent_fewer}
use Rattle.dnsv_proof_forms.proofs.forms.end_limits.fewest_absent.Goals as goal

pub loop-entry-preserved : goal.loop-entry-preserved
loop-entry-preserved c = (
  absent_fewer c.args.name.now c.args.entries.now c.loop-entry.entry-index c.entry-item.result
      (slice_get_read c.args.entries.now (length c.args.entries.now) c.loop-entry.entry-index c.entry-item.result refl c.loop-entry-test.true c.entry-item.is)
      c.loop-entry.absent c.absent_with-absent.result c.absent_with-absent.ensures.falling c.absent_with-absent.ensures.fewest c.loop-entry.invariant.0,
  omega (arith, c.loop-entry.invariant.1, c.absent_with-absent.ensures.falling),
)

pub returns : goal.returns
returns c = λ k entry small there. c.loop-entry.invariant.0 k entry (omega (arith, small, c.loop-entry-test.false)) there
