use Rattle.std.proofs.Common.{◌+◌, List, map, subst, sym, take, ◌∙◌}
use Rattle.std.proofs.lemmas.List.{take_all}
use Rattle.std.specs.List.{AllByRecursion}
use Rattle.dnsv_mending.specs.declared.facts.keys.VoucherFacts.{VoucherFacts}
use Rattle.dnsv_records.specs.Ds.{IsDs}
use Rattle.dnsv_records.specs.declared.ds.Ds.{Ds}
use Rattle.dnsv_rrsets.specs.declared.canonical_order.ReadRecord.{ReadRecord}
use Rattle.dnsv_zone_faults.specs.Groups.{AreRecordFacts}
use Rattle.dnsv_zone_faults.proofs.lemmas.GroupLemmas.{ds_read, octets, record_next}
use Rattle.dnsv_zone_faults.proofs.zone.groups.ds.record_facts.Goals as goal

pub loop-place-preserved : goal.loop-place-preserved
loop-place-preserved c = λ rrsets zone are.
    let records = c.deref-each-items.result.now in
    let values = c.ds_records-values.result.now in
    let read = subst (λ (each : List (ReadRecord Ds)). AllByRecursion (λ (one : ReadRecord Ds). IsDs one.rdata.now one.record.now) each)
    (sym c.deref-each-items.ensures.value) c.in_ok-records.ensures.read in
    subst (λ (known : List VoucherFacts). AreRecordFacts rrsets zone c.args.number values 1 (map octets (take (c.loop-place.place + 1) records)) known)
    (sym c.in_ok-push.ensures.items)
    (record_next c.args.keys.now c.args.number values records c.loop-place.place c.each-item.result c.loop-place.known.items
    c.in_ok-voucher_facts.field-0 c.loop-place-test.true c.each-item.is read c.in_ok-voucher_facts.ensures c.loop-place.invariant rrsets zone are)

pub returns : goal.returns
returns c =
    let records = c.in_ok-records.records.items in
    let values = c.ds_records-values.result.now in record {
      records = values;
      read = ds_read c.args.rrset.now values c.requires c.ds_records-values.ensures;
      canonical = map octets records;
      in_order = c.in_ok-records.ensures.order;
      each = λ rrsets zone are.
          subst (λ (each : List (ReadRecord Ds)). AreRecordFacts rrsets zone c.args.number values 1 (map octets each) c.loop-place.known.items)
          (take_all c.loop-place.place c.deref-each-items.result.now c.loop-place-test.false ∙ c.deref-each-items.ensures.value)
          (c.loop-place.invariant rrsets zone are);
    }
