use Rattle.std.proofs.Common.{sym, ap, ◌∙◌}
use Rattle.dnsv_names.specs.Name.{Labels}
use Rattle.dnsv_canonical.specs.Index.{numbers_at}
use Rattle.dnsv_zone_keys.proofs.lemmas.IndexLemmas.{first_is}
use Rattle.dnsv_zone_keys.proofs.keys.index.is_first_of_keys.Goals as goal

pub returns-in-Some : goal.returns-in-Some
returns-in-Some c =
    first_is c.args.capture.now.rrsets c.args.rrset.now c.at.result.now c.in-Some.first.now c.args.number
    (c.at.ensures ∙ ap (λ (owner : Labels). numbers_at c.args.capture.now.rrsets owner 48) c.owner.ensures)
    (sym c.in-Some.ensures.value)
