use Rattle.std.proofs.Common.{sym, ◌∙◌}
use Rattle.std.proofs.lemmas.Bool.{false≢true}
use Rattle.dnsv_gaps.proofs.speakers.cases.at_name.records_at.Goals as goal

pub returns-then-denies : goal.returns-then-denies
returns-then-denies c = (c.in_ok-denies.ensures.0 c.if-denies.true, c.in_ok-denying.ensures)

pub returns : goal.returns
returns c = (
  λ n said. false≢true (sym c.if-denies.false ∙ c.in_ok-denies.ensures.1 (n, said)),
  c.in_ok-rrsets.ensures,
  c.in_ok-held.ensures,
)
