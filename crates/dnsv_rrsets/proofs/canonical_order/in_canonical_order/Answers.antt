use Rattle.std.proofs.Common.{map, arith, ap, ◌∙◌}
use Rattle.dnsv_canonical.proofs.OrderLemmas.{zip_length, each_of, each_kept, whole_by_count}
use Rattle.dnsv_rrsets.proofs.OrderLemmas.{together_more, reordered}
use Rattle.dnsv_rrsets.proofs.canonical_order.in_canonical_order.Goals as goal

pub loop-place-init : goal.loop-place-init
loop-place-init g c = record { same_rdata = ap (map _) c.new-records.ensures.items; read = rw c.new-records.ensures.items tt }

pub rdata-requires : goal.rdata-requires
rdata-requires g c =
    omega (arith, zip_length g.T.ReadFrom.reads c.args.rrset.now.rdata c.args.values.now c.requires, c.loop-place-test.true)

pub loop-place-preserved : goal.loop-place-preserved
loop-place-preserved g c =
    together_more g.T.ReadFrom.reads (λ each. each.rdata.now) (λ each. each.record.now) c.args.rrset.now.rdata c.args.values.now c.loop-place.place
    c.loop-place.records.items c.push.new.self.items _ c.requires c.loop-place-test.true c.index-values-place.is (c.rdata.ensures.value _) c.in_ok-push.ensures.items c.loop-place.invariant

pub returns-clause-order : goal.returns-clause-order
returns-clause-order g c =
    let whole = whole_by_count c.args.rrset.now.rdata c.loop-place.place (omega (arith, zip_length g.T.ReadFrom.reads c.args.rrset.now.rdata c.args.values.now c.requires, c.loop-place-test.false)) in
    reordered _ _ _ (c.loop-place.invariant.same_rdata ∙ whole) c.put_in_order.ensures.order

pub returns-clause-read : goal.returns-clause-read
returns-clause-read g c =
    each_kept _ _ _ (λ x there. each_of _ _ x c.loop-place.invariant.read there) c.put_in_order.ensures.kept
