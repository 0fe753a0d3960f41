use Rattle.std.proofs.Common.{None, sym, ap, ◌∙◌, map}
use Rattle.dnsv_canonical.proofs.ByRrsetLemmas.{rdata_after, rdata_found, octets_of}
use Rattle.dnsv_canonical.proofs.by_rrset.take_rdata.Goals as goal

pub returns-in-Some-clause-value : goal.returns-in-Some-clause-value
returns-in-Some-clause-value c = ap octets_of (sym c.in-Some.is ∙ c.remove.ensures.value) ∙ rdata_found c.args.by_rrset.now (c.args.rtype, record { 0 = c.args.owner })

pub returns-in-Some-clause-left : goal.returns-in-Some-clause-left
returns-in-Some-clause-left c = rdata_after c.args.by_rrset.now c.remove.new.self (c.args.rtype, record { 0 = c.args.owner }) None c.remove.ensures.updates

pub returns-in-None-clause-value : goal.returns-in-None-clause-value
returns-in-None-clause-value c =
    ap (map (λ r. r.now)) c.new.ensures.items ∙ ap octets_of (sym c.in-None.is ∙ c.remove.ensures.value) ∙ rdata_found c.args.by_rrset.now (c.args.rtype, record { 0 = c.args.owner })

pub returns-in-None-clause-left : goal.returns-in-None-clause-left
returns-in-None-clause-left c = rdata_after c.args.by_rrset.now c.remove.new.self (c.args.rtype, record { 0 = c.args.owner }) None c.remove.ensures.updates
