use Rattle.std.proofs.Common.{◌∙◌, ap}
use Rattle.dnsv_canonical.specs.Index.{numbers_at}
use Rattle.dnsv_faults.proofs.lemmas.KnownLemmas.{some_at}
use Rattle.dnsv_faults.proofs.known.has_rrset.Goals as goal

pub returns : goal.returns
returns c =
    some_at c.args.facts.now.rrsets c.args.zone.now c.args.rtype.0 c.at.result.now
    (c.at.ensures ∙ ap (λ rrsets. numbers_at rrsets c.args.zone.now c.args.rtype.0) c.capture.ensures)
    c.is_empty.result c.is_empty.ensures
