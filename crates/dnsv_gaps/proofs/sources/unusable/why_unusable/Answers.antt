use Rattle.std.proofs.Common.{sym, ◌∙◌}
use Rattle.std.proofs.lemmas.Bool.{false≢true}
use Rattle.dnsv_gaps.specs.Unusable.IsWhy.{iterations, unusable}
use Rattle.dnsv_gaps.proofs.UnusableLemmas.{no_why, not_above}
use Rattle.dnsv_gaps.proofs.sources.unusable.why_unusable.Goals as goal

pub returns-then-has_many_iterations : goal.returns-then-has_many_iterations
returns-then-has_many_iterations c = iterations (c.has_many_iterations.ensures.0 c.if-has_many_iterations.true)

pub returns-then-is_unusable : goal.returns-then-is_unusable
returns-then-is_unusable c =
    unusable
    (not_above 500 c.args.nsec3.now.parameters.iterations.0 (λ many. false≢true (sym c.if-has_many_iterations.false ∙ c.has_many_iterations.ensures.1 many)))
    (c.is_unusable.ensures.0 c.if-is_unusable.true)

pub returns : goal.returns
returns c =
    no_why c.args.rrset.now c.args.nsec3.now
    (λ many. false≢true (sym c.if-has_many_iterations.false ∙ c.has_many_iterations.ensures.1 many))
    (λ is. false≢true (sym c.if-is_unusable.false ∙ c.is_unusable.ensures.1 is))
