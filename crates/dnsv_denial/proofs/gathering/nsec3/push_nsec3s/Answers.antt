use Rattle.std.proofs.Common.{length, map, refl, arith, ap}
use Rattle.std.proofs.lemmas.Option.{slice_get_read}
use Rattle.dnsv_records.specs.Nsec3.{IsNsec3}
use Rattle.dnsv_proof_forms.proofs.lemmas.PlaceLemmas.{mapped_at, each_at, mapped_length}
use Rattle.dnsv_denial.proofs.lemmas.gathering.Nsec3Gather.{nsec3s_begin, nsec3_added, nsec3_passed, nsec3s_end}
use Rattle.dnsv_denial.proofs.gathering.nsec3.push_nsec3s.Goals as goal
use Rattle.dnsv_denial.proofs.gathering.nsec3.push_nsec3s.Goals.{in-Some+in-Ok, in_default}

pub loop-place-init : goal.loop-place-init
loop-place-init c = λ rrsets numbered.
    nsec3s_begin rrsets c.args.zone.now c.args.number c.args.rrset.now (map (λ each. each.rdata.now) c.in_ok-records.records.items) numbered c.requires.rtype c.in_ok-records.ensures.order c.args.entries.now.items

pub loop-place-preserved : goal.loop-place-preserved
loop-place-preserved c = λ rrsets numbered.
    let at = slice_get_read c.deref-each-items.result.now (length c.deref-each-items.result.now) c.loop-place.place c.each-item.result refl c.loop-place-test.true c.each-item.is in
    let there = rw c.deref-each-items.ensures.value at at in
    let octets = mapped_at (λ each. each.rdata.now) c.in_ok-records.records.items c.loop-place.place c.each-item.result there in
    let read = each_at (λ each. IsNsec3 each.rdata.now each.record.now) c.in_ok-records.records.items c.loop-place.place c.each-item.result c.in_ok-records.ensures.read there in
    elim c.match-usable_entry.branch [
      | in-Some+in-Ok w ↦ rw w.entries-is (nsec3_added rrsets c.args.zone.now c.args.number c.args.rrset.now (map (λ each. each.rdata.now) c.in_ok-records.records.items) numbered c.requires.rtype c.in_ok-records.ensures.order
          c.loop-place.place c.each-item.result.rdata.now c.args.hash c.each-item.result.record.now w.in-Some.entry c.args.entries.now.items c.loop-place.entries.items _ octets read c.requires.owner w.in-Some.ensures w.in-Ok.ensures.items (c.loop-place.invariant rrsets numbered))
      | in_default w ↦ rw w.entries-is (nsec3_passed rrsets c.args.zone.now c.args.number c.args.rrset.now (map (λ each. each.rdata.now) c.in_ok-records.records.items) numbered c.requires.rtype c.in_ok-records.ensures.order
          c.loop-place.place c.each-item.result.rdata.now c.each-item.result.record.now c.args.entries.now.items c.loop-place.entries.items octets read w.in_default.ensures (c.loop-place.invariant rrsets numbered))
    ]

pub returns : goal.returns
returns c = λ rrsets numbered.
    let done = nsec3s_end rrsets c.args.zone.now c.args.number c.args.rrset.now (map (λ each. each.rdata.now) c.in_ok-records.records.items) numbered c.requires.rtype c.in_ok-records.ensures.order c.loop-place.place c.args.entries.now.items c.loop-place.entries.items
    (omega (arith, mapped_length (λ each. each.rdata.now) c.in_ok-records.records.items, ap length c.deref-each-items.ensures.value, c.loop-place-test.false)) (c.loop-place.invariant rrsets numbered) in
    (done.more, done.grown, done.are)
