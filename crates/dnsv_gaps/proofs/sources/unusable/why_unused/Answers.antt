use Rattle.std.proofs.Common.{sym, ◌∙◌}
use Rattle.std.proofs.lemmas.Bool.{false≢true}
use Rattle.dnsv_gaps.proofs.UnusableLemmas.{match_why}
use Rattle.dnsv_gaps.proofs.sources.unusable.why_unused.Goals as goal

pub returns-then-is_source : goal.returns-then-is_source
returns-then-is_source c = λ x unused. unused.unused (c.is_source.ensures.0 c.if-is_source.true)

pub returns : goal.returns
returns c =
    match_why c.args.is_hashed c.args.rrset.now c.args.nsec3.now c.why_unusable.result
    (λ is. false≢true (sym c.if-is_source.false ∙ c.is_source.ensures.1 is)) c.why_unusable.ensures
