use Rattle.std.proofs.Common.{sym}
use Rattle.dnsv_reasons.specs.laws.Once.{TellsItsLine}
use Rattle.dnsv_reasons.proofs.lemmas.TextLemmas.{first_all, first_more}
use Rattle.dnsv_reasons.proofs.laws.once.tells_its_line.Goals as goal

pub loop-other-preserved : goal.loop-other-preserved
loop-other-preserved c =
    first_more (TellsItsLine c.args.line.now) c.args.lines.now c.loop-other.other-index c.other-item.result
    c.loop-other-test.true (sym c.other-item.is) c.loop-other.invariant c.a_text_has_one_line.ensures.0

pub returns : goal.returns
returns c =
    first_all (TellsItsLine c.args.line.now) c.args.lines.now c.loop-other.other-index c.loop-other-test.false c.loop-other.invariant
