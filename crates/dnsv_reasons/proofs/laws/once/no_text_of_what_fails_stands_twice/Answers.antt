use Rattle.std.proofs.Common.{sym}
use Rattle.std.specs.List.{AllByRecursion}
use Rattle.dnsv_reasons.specs.laws.Once.{TellsItsLine}
use Rattle.dnsv_reasons.proofs.lemmas.OnceLemmas.{texts_differ}
use Rattle.dnsv_reasons.proofs.lemmas.TextLemmas.{each_text, first_all, first_more}
use Rattle.dnsv_reasons.proofs.laws.once.no_text_of_what_fails_stands_twice.Goals as goal

pub loop-line-preserved : goal.loop-line-preserved
loop-line-preserved c =
    first_more (λ line. AllByRecursion (TellsItsLine line) c.args.lines.now) c.args.lines.now c.loop-line.line-index c.line-item.result
    c.loop-line-test.true (sym c.line-item.is) c.loop-line.invariant c.tells_its_line.ensures

pub returns : goal.returns
returns c = λ a failures.
    texts_differ a c.args.lines.now
    (each_text c.args.lines.now
    (first_all (λ line. AllByRecursion (TellsItsLine line) c.args.lines.now) c.args.lines.now c.loop-line.line-index
    c.loop-line-test.false c.loop-line.invariant))
    failures
