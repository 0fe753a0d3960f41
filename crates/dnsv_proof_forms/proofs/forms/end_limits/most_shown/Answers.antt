use Rattle.std.proofs.Common.{arith, length, refl}
use Rattle.std.proofs.lemmas.Option.{slice_get_read}
use Rattle.dnsv_proof_forms.proofs.lemmas.forms.EndLimitLemmas.{shown_more}
use Rattle.dnsv_proof_forms.proofs.forms.end_limits.most_shown.Goals as goal

pub loop-entry-preserved : goal.loop-entry-preserved
loop-entry-preserved c = (
  shown_more c.args.name.now c.args.entries.now c.loop-entry.entry-index c.entry-item.result
      (slice_get_read c.args.entries.now (length c.args.entries.now) c.loop-entry.entry-index c.entry-item.result refl c.loop-entry-test.true c.entry-item.is)
      c.loop-entry.shown c.shown_with-shown.result c.shown_with-shown.ensures.rising c.shown_with-shown.ensures.most c.loop-entry.invariant.0,
  omega (arith, c.loop-entry.invariant.1, c.shown_with-shown.ensures.rising),
  c.shown_with-shown.ensures.at_most_127 c.loop-entry.invariant.2,
)

pub returns-clause-most : goal.returns-clause-most
returns-clause-most c = λ k entry small there. c.loop-entry.invariant.0 k entry (omega (arith, small, c.loop-entry-test.false)) there
