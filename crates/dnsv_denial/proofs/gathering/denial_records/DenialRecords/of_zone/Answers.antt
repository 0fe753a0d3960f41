use Rattle.std.proofs.Common.{rules}
use Rattle.std.proofs.lemmas.Fn.{always_returns_same}
use Rattle.dnsv_names.specs.Order.ByWire.{search_cmp}
use Rattle.dnsv_chain.specs.Trust.{SecuredIn}
use Rattle.dnsv_denial.specs.declared.gathering.denial_records.SecuredZone.{SecuredZone}
use Rattle.dnsv_denial.proofs.lemmas.gathering.ByZoneLemmas.{found_zone, no_zone}
use Rattle.dnsv_denial.proofs.gathering.denial_records.DenialRecords.of_zone.Goals as goal

pub returns-in-Ok : goal.returns-in-Ok
returns-in-Ok c = λ trust rrsets are.
    let held = c.in-Ok.ensures.position (λ (each : SecuredZone). search_cmp each.name c.args.zone.now) (always_returns_same _ _ _ (λ a r f called. search rules)) in
    found_zone (SecuredIn trust) rrsets c.args.self.now c.args.zone.now c.in-Ok.place c.index.result.now are
    (rw c.deref.ensures.value at c.in-Ok.ensures.bound) c.index.ensures (rw c.deref.ensures.value at held)

pub returns-in-Err : goal.returns-in-Err
returns-in-Err c = λ trust rrsets are.
    let parted = c.in-Err.ensures.position (λ (each : SecuredZone). search_cmp each.name c.args.zone.now) (always_returns_same _ _ _ (λ a r f called. search rules)) in
    no_zone (SecuredIn trust) rrsets c.args.self.now c.args.zone.now c.in-Err.field-0 are (rw c.deref.ensures.value at parted)
