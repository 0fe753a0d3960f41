use Rattle.dnsv_chain.specs.Trust.{SecuredIn}
use Rattle.dnsv_denial.proofs.lemmas.gathering.ByZoneLemmas.{records_of_zone}
use Rattle.dnsv_denial.proofs.gathering.denial_records.secured_records.Goals as goal

pub gathered_records-requires : goal.gathered_records-requires
gathered_records-requires c = rw c.deref-2.ensures.value c.in_ok-numbers.ensures.order

pub returns : goal.returns
returns c =
    records_of_zone (SecuredIn c.args.trust.now) c.args.capture.now.rrsets c.args.zone.now c.in_ok-numbers.numbers.items c.in_ok-records.records
    (λ k among. ((c.in_ok-secured.ensures k).0 ((rw c.deref.ensures.value at c.in_ok-numbers.ensures.members k).0 among)).1)
    (λ k by denies. (rw c.deref.ensures.value at c.in_ok-numbers.ensures.members k).1 ((c.in_ok-secured.ensures k).1 (c.requires k by denies, by)))
    (rw c.deref-2.ensures.value at c.in_ok-records.ensures)
