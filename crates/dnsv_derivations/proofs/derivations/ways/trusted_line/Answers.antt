use Rattle.std.proofs.Common.{◌∙◌}
use Rattle.std.proofs.lemmas.Option.{MatchOption-at_none, MatchOption-at_some}
use Rattle.dnsv_derivations.specs.Explained.{setting_in}
use Rattle.dnsv_derivations.proofs.lemmas.NumberedLemmas.{in_list}
use Rattle.dnsv_derivations.proofs.lemmas.derivations.WayLemmas.TrustedLemmas.{not_trusted, the_line}
use Rattle.dnsv_derivations.proofs.derivations.ways.trusted_line.Goals as goal

pub returns-in_default-2 : goal.returns-in_default-2
returns-in_default-2 c =
    not_trusted (setting_in c.args.evidence.now) c.args.number (MatchOption-at_none _ _ c.in_default-2.is c.in_ok-way.ensures)

pub returns : goal.returns
returns c =
    the_line (setting_in c.args.evidence.now) c.args.number c.in-Some.set.now c.in-Some-2.way c.in_ok-clone.field-0
    (in_list c.args.evidence.now.rrsets c.rrsets.result.now c.args.number c.in-Some.set.now c.rrsets.ensures c.in-Some.ensures)
    (MatchOption-at_some _ _ c.in-Some-2.way c.in-Some-2.is c.in_ok-way.ensures) (c.in_ok-clone.ensures.cases ∙ c.owner.ensures)
