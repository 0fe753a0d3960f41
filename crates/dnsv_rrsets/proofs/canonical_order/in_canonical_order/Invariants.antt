-- the records so far are those of the RDATA so far
use Rattle.dnsv_rrsets.proofs.OrderLemmas.{GoTogether}
use Rattle.dnsv_rrsets.proofs.canonical_order.in_canonical_order.Given as goal

abbrev pub invariant-loop-place : goal.invariant-loop-place
invariant-loop-place g l =
    GoTogether g.T.ReadFrom.reads (λ each. each.rdata.now) (λ each. each.record.now) l.rrset.rdata l.place l.records.items
