use Rattle.std.proofs.Common.{sym, ◌∙◌}
use Rattle.std.proofs.lemmas.Bool.{false≢true}
use Rattle.dnsv_gaps.proofs.speakers.cases.encloser.is_opted_out.Goals as goal

pub returns-then-is_absent : goal.returns-then-is_absent
returns-then-is_absent c = (
  λ yes. absurd (false≢true yes),
  λ opted. let some = c.in_ok-is_absent.ensures.0 c.if-is_absent.true in absurd (opted.1 some.0 some.1),
)

pub returns : goal.returns
returns c = (
  λ yes. (c.in_ok-opts_out.ensures.0 yes, λ n absent. false≢true (sym c.if-is_absent.false ∙ c.in_ok-is_absent.ensures.1 (n, absent))),
  λ opted. c.in_ok-opts_out.ensures.1 opted.0,
)
