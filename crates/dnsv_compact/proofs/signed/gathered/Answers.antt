use Rattle.std.proofs.Common.{[]}
use Rattle.dnsv_compact.specs.Signed.{IsSignedAmong}
use Rattle.dnsv_compact.proofs.NumberedLemmas.{first_more, first_none, slice_get_at}
use Rattle.dnsv_compact.proofs.SignedLemmas.{all_in}
use Rattle.dnsv_compact.proofs.signed.gathered.Goals as goal

pub loop-place-init : goal.loop-place-init
loop-place-init c = rw c.new-signed.ensures.items (first_none (IsSignedAmong c.args.range.from c.args.range.to) c.args.rrsets.now [])

pub loop-place-preserved : goal.loop-place-preserved
loop-place-preserved c =
    first_more (IsSignedAmong c.args.range.from c.args.range.to) c.args.rrsets.now c.loop-place.place c.index-rrsets-place.result _ _ _
    (slice_get_at c.args.rrsets.now c.loop-place.place _ c.loop-place-test.true c.index-rrsets-place.is) c.loop-place.invariant c.in_ok-add_rrset.ensures

pub returns : goal.returns
returns c = all_in c.args.range.from c.args.range.to c.args.rrsets.now c.loop-place.place c.loop-place.signed.items c.loop-place-test.false c.loop-place.invariant
