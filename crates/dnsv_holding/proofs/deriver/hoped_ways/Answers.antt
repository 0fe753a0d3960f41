use Rattle.std.proofs.Common.{◌≡◌, ap, ◌∙◌, length, subst}
use Rattle.std.specs.Prelude.{IfOk}
use Rattle.dnsv_derivations.specs.Explained.{Explained, setting_in}
use Rattle.dnsv_derivations.specs.derivations.WaySearch.{AreFirstWays}
use Rattle.dnsv_holding.specs.Explained.{explained_by}
use Rattle.dnsv_holding.proofs.deriver.hoped_ways.Goals as goal

pub returns-clause-ways : goal.returns-clause-ways
returns-clause-ways c =
    subst (λ (evidence : Explained). IfOk c.first_ways.result (λ ways. AreFirstWays (setting_in evidence) ways.items))
    (c.evidence_of-evidence.ensures ∙ ap (λ case. explained_by case c.args.unknown.now) c.as_ref.ensures) c.first_ways.ensures.ways

pub returns-clause-all : goal.returns-clause-all
returns-clause-all c =
    subst (λ (evidence : Explained). IfOk c.first_ways.result (λ ways. length ways.items ≡ length evidence.rrsets))
    (c.evidence_of-evidence.ensures ∙ ap (λ case. explained_by case c.args.unknown.now) c.as_ref.ensures) c.first_ways.ensures.all
