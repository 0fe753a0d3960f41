use Rattle.std.proofs.Common.{sym, ◌∙◌}
use Rattle.std.proofs.lemmas.Bool.{false≢true}
use Rattle.dnsv_gaps.proofs.speakers.cases.encloser.wildcard_facts.Goals as goal

pub returns-then-opts_out : goal.returns-then-opts_out
returns-then-opts_out c = c.in_ok-opts_out.ensures.0 c.if-opts_out.true

pub returns-then-is_there : goal.returns-then-is_there
returns-then-is_there c = (
  λ opted. false≢true (sym c.if-opts_out.false ∙ c.in_ok-opts_out.ensures.1 opted),
  c.in_ok-is_there.ensures.0 c.if-is_there.true,
  c.in_ok-records.ensures,
)

pub returns : goal.returns
returns c = (
  λ opted. false≢true (sym c.if-opts_out.false ∙ c.in_ok-opts_out.ensures.1 opted),
  λ n said. false≢true (sym c.if-is_there.false ∙ c.in_ok-is_there.ensures.1 (n, said)),
  c.in_ok-covers.ensures,
)
