use Rattle.std.proofs.Common.{length, map, refl, arith, ap, subst, sym}
use Rattle.std.proofs.lemmas.Option.{slice_get_read}
use Rattle.dnsv_records.specs.Nsec3.{IsNsec3}
use Rattle.dnsv_proof_forms.proofs.lemmas.PlaceLemmas.{each_at, mapped_at, mapped_length}
use Rattle.dnsv_gaps.specs.UnusableSearch.{IsInFront}
use Rattle.dnsv_gaps.proofs.UnusableLemmas.{unused_added, unused_begin, unused_end, unused_passed}
use Rattle.dnsv_gaps.proofs.sources.unusable.push_unusable.Goals as goal
use Rattle.dnsv_gaps.proofs.sources.unusable.push_unusable.Goals.{in-Some+in_ok-push, in_default}

pub loop-place-init : goal.loop-place-init
loop-place-init c = λ rrsets numbered.
    unused_begin rrsets c.args.zone.now c.args.number c.args.rrset.now (map (λ each. each.rdata.now) c.in_ok-records.records.items) numbered
    c.requires c.in_ok-records.ensures.order c.args.unusable.now.items

pub loop-place-preserved : goal.loop-place-preserved
loop-place-preserved c = λ rrsets numbered.
    let at = slice_get_read c.deref-each-items.result.now (length c.deref-each-items.result.now) c.loop-place.place c.each-item.result refl c.loop-place-test.true c.each-item.is in
    let there = rw c.deref-each-items.ensures.value at at in
    let octets = mapped_at (λ each. each.rdata.now) c.in_ok-records.records.items c.loop-place.place c.each-item.result there in
    let read = each_at (λ each. IsNsec3 each.rdata.now each.record.now) c.in_ok-records.records.items c.loop-place.place c.each-item.result c.in_ok-records.ensures.read there in
    let Front = IsInFront c.args.zone.now in
    elim c.match-why_unused.branch [
      | in-Some+in_ok-push w ↦ rw w.unusable-is (unused_added rrsets c.args.zone.now c.args.number c.args.rrset.now (map (λ each. each.rdata.now) c.in_ok-records.records.items) numbered c.requires c.in_ok-records.ensures.order
          c.loop-place.place c.each-item.result.rdata.now c.each-item.result.record.now _ c.args.unusable.now.items c.loop-place.unusable.items _ octets read
          (λ both. w.in-Some.ensures.unused (c.is_in_front-is_hashed.ensures.1 (subst Front (sym c.owner.ensures) both.0), both.1))
          w.in-Some.ensures.is_why refl w.in_ok-push.ensures.items (c.loop-place.invariant rrsets numbered))
      | in_default w ↦ rw w.unusable-is (unused_passed rrsets c.args.zone.now c.args.number c.args.rrset.now (map (λ each. each.rdata.now) c.in_ok-records.records.items) numbered c.requires c.in_ok-records.ensures.order
          c.loop-place.place c.each-item.result.rdata.now c.each-item.result.record.now c.args.unusable.now.items c.loop-place.unusable.items octets read
          (λ x unused is. w.in_default.ensures x (record {
            unused = λ both. unused (subst Front c.owner.ensures (c.is_in_front-is_hashed.ensures.0 both.0), both.1);
            is_why = is;
          }))
          (c.loop-place.invariant rrsets numbered))
    ]

pub returns : goal.returns
returns c = λ rrsets numbered.
    let done = unused_end rrsets c.args.zone.now c.args.number c.args.rrset.now (map (λ each. each.rdata.now) c.in_ok-records.records.items) numbered
    c.requires c.in_ok-records.ensures.order c.loop-place.place c.args.unusable.now.items c.loop-place.unusable.items
    (omega (arith, mapped_length (λ each. each.rdata.now) c.in_ok-records.records.items, ap length c.deref-each-items.ensures.value, c.loop-place-test.false))
    (c.loop-place.invariant rrsets numbered) in
    (done.more, done.grown, done.are)
