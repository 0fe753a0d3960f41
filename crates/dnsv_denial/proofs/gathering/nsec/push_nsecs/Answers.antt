use Rattle.std.proofs.Common.{length, map, refl, arith, ap}
use Rattle.std.proofs.lemmas.Option.{slice_get_read}
use Rattle.dnsv_records.specs.Nsec.{IsNsec}
use Rattle.dnsv_proof_forms.proofs.lemmas.PlaceLemmas.{mapped_at, each_at, mapped_length}
use Rattle.dnsv_denial.proofs.lemmas.gathering.NsecGather.{nsecs_begin, nsecs_more, nsecs_end}
use Rattle.dnsv_denial.proofs.gathering.nsec.push_nsecs.Goals as goal

pub loop-place-init : goal.loop-place-init
loop-place-init c = λ rrsets numbered. nsecs_begin rrsets c.args.number c.args.entries.now.items

pub loop-place-preserved : goal.loop-place-preserved
loop-place-preserved c = λ rrsets numbered.
    let at = slice_get_read c.deref-each-items.result.now (length c.deref-each-items.result.now) c.loop-place.place c.each-item.result refl c.loop-place-test.true c.each-item.is in
    let there = rw c.deref-each-items.ensures.value at at in
    nsecs_more rrsets c.args.number c.loop-place.place c.args.rrset.now (map (λ each. each.rdata.now) c.in_ok-records.records.items) c.each-item.result.rdata.now _ c.args.entries.now.items c.loop-place.entries.items c.push.new.self.items
    numbered c.requires c.in_ok-records.ensures.order (mapped_at (λ each. each.rdata.now) c.in_ok-records.records.items c.loop-place.place c.each-item.result there)
    refl c.owner.ensures (each_at (λ each. IsNsec each.rdata.now each.record.now) c.in_ok-records.records.items c.loop-place.place c.each-item.result c.in_ok-records.ensures.read there) c.in_ok-push.ensures.items
    (c.loop-place.invariant rrsets numbered)

pub returns : goal.returns
returns c = λ rrsets numbered.
    let done = nsecs_end rrsets c.args.number c.loop-place.place c.args.rrset.now (map (λ each. each.rdata.now) c.in_ok-records.records.items) c.args.entries.now.items c.loop-place.entries.items numbered c.requires c.in_ok-records.ensures.order
    (omega (arith, mapped_length (λ each. each.rdata.now) c.in_ok-records.records.items, ap length c.deref-each-items.ensures.value, c.loop-place-test.false)) (c.loop-place.invariant rrsets numbered) in
    (done.more, done.grown, done.are)
